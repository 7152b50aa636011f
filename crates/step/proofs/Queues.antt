-- The plans of the services of data queues have no effects but their own, so that carrying out these alone is carrying out the plan's.
-- It goes by the tests of each plan in model/specs/Service.
use mathlib.Core.Path.{◌≡◌, refl}
use mathlib.Core.Bool.{Bool, true, false, cond, not, ◌&&◌}
use lib.Dec.{eqb}
use Prim.Native.Nat.{ℕ}
use Rattle.model.specs.declared.Task.{Task}
use Rattle.model.specs.declared.State.{State}
use Rattle.model.specs.declared.DataQueue.{DataQueue}
use Rattle.model.specs.declared.Plan.{Plan}
use Rattle.model.specs.declared.Effect.TheVariants.{Takes, Refills}
use Rattle.model.specs.declared.Code.{Code}
use Rattle.model.specs.declared.Code.TheVariants.{WContext, WrongParam, NoExs}
use Rattle.model.specs.declared.QueueService.{QueueService}
use Rattle.model.specs.declared.QueueService.TheVariants.{Create, Delete, Send, SendPolling, IsendPolling, Receive, ReceivePolling, Ireceive}
use Rattle.model.specs.Task.{a_send, a_receive}
use Rattle.model.specs.Plan.{is_timeout, is_queue, is_capacity, is_queue_made, gives, need, checked}
use Rattle.model.specs.Service.{is_side, has_room, sent, received, queue_create, queue_delete, queue_send, queue_send_poll, queue_receive, queue_receive_poll}
use Rattle.model.specs.Effect.{carried_from}
use Rattle.model.specs.Call.{queue_plan}
use Rattle.carry.specs.Queue.{of_queue}

-- it has no effect but one of a data queue's, which is carried out alike whoever runs
pub record Owns (p : Plan) : Type 0 where
  pub own : (run : ℕ) (s : State) → carried_from 0 s (of_queue p.effect) ≡ carried_from run s p.effect

-- ---- the tests of a plan
needs : (b : Bool) (c : Code) (p : Plan) → Owns p → Owns (need b c p)
needs true c p h = h
needs false c p h = record { own = λ run s. refl }

picks : (b : Bool) (p q : Plan) → Owns p → Owns q → Owns (cond b p q)
picks true p q h g = h
picks false p q h g = g

checks : (right there mine : Bool) (p : Plan) → Owns p → Owns (checked right there mine p)
checks right there mine p h = needs right WrongParam (need there NoExs (need mine WContext p)) (needs there NoExs (need mine WContext p) (needs mine WContext p h))

-- ---- the services
own_sent : (q e : ℕ) (z : DataQueue) (full : Plan) → Owns full → Owns (sent q e z full)
unfolding sent
own_sent q e z full h = picks (is_side a_receive z) _ _ (record { own = λ run s. refl }) (picks (has_room z) _ _ (record { own = λ run s. refl }) h)

own_received : (q : ℕ) (z : DataQueue) (empty : Plan) → Owns empty → Owns (received q z empty)
unfolding received
own_received q z empty h = picks (eqb z.taken 0) _ _ (picks (is_side a_send z) _ _ (record { own = λ run s. refl }) h) (taken (is_side a_send z))
  where
    taken : (b : Bool) → Owns (gives z.oldest (cond b (Refills q) (Takes q)))
    taken true = record { own = λ run s. refl }
    taken false = record { own = λ run s. refl }

pub own_effects : (mine : Bool) (q : ℕ) (v : QueueService) (run : ℕ) (k : Task) (z : DataQueue) → Owns (queue_plan mine q v run k z)
unfolding queue_plan queue_create queue_delete queue_send queue_send_poll queue_receive queue_receive_poll
own_effects mine q (Create c) run k z = checks (is_queue q && (is_capacity c && not (is_queue_made z))) true mine _ (record { own = λ run s. refl })
own_effects mine q Delete run k z = checks (is_queue q) (is_queue_made z) mine _ (record { own = λ run s. refl })
own_effects mine q (Send e d) run k z = checks (is_queue q && is_timeout d) (is_queue_made z) mine _ (needs (not (eqb run 0)) WContext _ (own_sent q e z _ (record { own = λ run s. refl })))
own_effects mine q (SendPolling e) run k z = checks (is_queue q) (is_queue_made z) mine _ (own_sent q e z _ (record { own = λ run s. refl }))
own_effects mine q (IsendPolling e) run k z = checks (is_queue q) (is_queue_made z) mine _ (own_sent q e z _ (record { own = λ run s. refl }))
own_effects mine q (Receive d) run k z = checks (is_queue q && is_timeout d) (is_queue_made z) mine _ (needs (not (eqb run 0)) WContext _ (own_received q z _ (record { own = λ run s. refl })))
own_effects mine q ReceivePolling run k z = checks (is_queue q) (is_queue_made z) mine _ (own_received q z _ (record { own = λ run s. refl }))
own_effects mine q Ireceive run k z = checks (is_queue q) (is_queue_made z) mine _ (own_received q z _ (record { own = λ run s. refl }))
