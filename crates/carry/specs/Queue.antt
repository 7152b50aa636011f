-- The effects that a service of data queues may have; any other is none here.
-- That their plans have no other is shown where a step is taken (step: Queues).
use Rattle.model.specs.declared.Effect.{Effect}
use Rattle.model.specs.declared.Effect.TheVariants.{Nothing, Moves, Stops, Counts, Deletes, Slices, Ticks, Flags, Tells, Queues, Removes, Stores, Takes, Refills}

abbrev pub of_queue : Effect → Effect
of_queue Nothing = Nothing
of_queue (Moves t x) = Moves t x
of_queue (Stops t) = Nothing
of_queue (Counts m n v) = Nothing
of_queue (Deletes m) = Nothing
of_queue (Slices l v) = Nothing
of_queue Ticks = Nothing
of_queue (Flags f a b) = Nothing
of_queue (Tells f w a b) = Nothing
of_queue (Queues q c) = Queues q c
of_queue (Removes q) = Removes q
of_queue (Stores q n e) = Stores q n e
of_queue (Takes q) = Takes q
of_queue (Refills q) = Refills q
