-- The fresh state is sound: its tables hold nothing but zeros, so every queue is empty and no task has a key.
-- It rests on `fresh` of model/specs/State and the laws of rows of zeros.
use mathlib.Core.Path.{◌≡◌, refl, sym, ap, ◌∙◌, subst}
use mathlib.Core.Logic.{inl, ⊎_elim}
use Prim.Native.Nat.{ℕ, ◌*◌, ◌≤◌, ◌<◌}
use native.Mathlib.Omega.{arith}
use lib.Dec.{T as So}
use lib.ListN.{length, get_or, drop, replicate, length-replicate, get_or-replicate, get_or-eq_default}
use Rattle.model.specs.declared.Queue.{Queue}
use Rattle.model.specs.declared.Task.{Task}
use Rattle.model.specs.Row.{no_queue, row}
use Rattle.model.specs.Flag.{is_flag_attributes}
use Rattle.model.specs.DataQueue.{places_of}
use Rattle.model.specs.Task.{no_task, level_of, row_of}
use Rattle.model.specs.State.{fresh, task}
use Rattle.model.specs.Test.{occ, zeros, lists_only, padded}
use Rattle.model.specs.Sound.{Lists, SoundTask, Sound}
use Rattle.laws.proofs.Number.{below?}
use Rattle.laws.proofs.Padded.{occ-zeros}
use Rattle.laws.proofs.Places.{zeros-take, zeros-drop}
use Rattle.laws.proofs.Record.{sound_none, row_none}
use Rattle.soundness.proofs.Listed.{listed_none}

-- ---- what is read in a table of one value
pub reads {ℓ} : {A : Type ℓ} (n : ℕ) (a : A) (i : ℕ) → get_or (replicate n a) i a ≡ a
reads n a i = ⊎_elim
    (λ (h : i < n). get_or-replicate n i a a h)
    (λ (h : n ≤ i). get_or-eq_default (replicate n a) a (rw (length-replicate n a) h))
    (below? i n)

none : (n i : ℕ) → get_or {A = ℕ} (replicate n 0) i 0 ≡ 0
none n i = reads {A = ℕ} n 0 i

-- a table of empty queues, where no task has a key
empty_row : (n l : ℕ) → row (replicate n no_queue) l ≡ replicate 24 0
unfolding row
empty_row n l = ap (λ (q : Queue). q.places) (reads n no_queue l)

lists_nobody : (n : ℕ) (key : ℕ → ℕ) → ((t : ℕ) → key t ≡ 0) → Lists (replicate n no_queue) n key
unfolding zeros lists_only
lists_nobody n key free = record {
  sized = length-replicate n no_queue;
  places = λ l. ap length (empty_row n l);
  exactly = λ l t h some. ap (occ t) (empty_row n l) ∙ occ-zeros (replicate 24 0) tt t some ∙ sym (listed_none l (key t) (λ low f. omega (arith, free t)));
  ends = λ l h. subst (λ q. So (padded q)) (sym (empty_row n l)) tt;
}

pub sound_fresh : Sound fresh
unfolding level_of is_flag_attributes places_of zeros
sound_fresh = record {
  tasks# = refl;
  nobody = refl;
  tasks = λ t. subst SoundTask (sym (reads 25 no_task t)) sound_none;
  levels = lists_nobody 31 (λ t. level_of (task fresh t)) (λ t. ap level_of (reads 25 no_task t));
  waits = lists_nobody 29 (λ t. row_of (task fresh t)) no_row;
  slices = record { slices# = refl; unused = refl; slices = λ l. omega (arith, none 31 l) };
  charges = λ t. inl (ap (λ (x : Task). x.charge) (reads 25 no_task t));
  semaphores = record {
    counts# = refl;
    maxima# = refl;
    unused = (refl, refl);
    counts = λ m. omega (arith, none 13 m);
    maxima = λ m. omega (arith, none 13 m);
    waited = λ m t some top e. absurd (omega (arith, no_row t));
  };
  flags = record {
    attributes# = refl;
    bits# = refl;
    unused = (refl, refl);
    attributes = λ f. subst (λ a. So (is_flag_attributes a)) (sym (none 9 f)) tt;
    bits = λ f e. none 9 f;
    unmet = λ f t some top e. absurd (omega (arith, no_row t));
    single = λ f t u some top one e. absurd (omega (arith, no_row t));
  };
  queues = record {
    capacities# = refl;
    taken# = refl;
    elements# = refl;
    unused = refl;
    capacities = λ q. omega (arith, none 9 q);
    none = λ q e. none 9 q;
    within = λ q some. absurd (omega (arith, none 9 q));
    past = λ q top. zeros-drop (get_or (replicate 9 0) q 0) (places_of (replicate 144 0) q) (zeros-take 16 (drop (q * 16) (replicate 144 0)) (zeros-drop (q * 16) (replicate 144 0) tt));
    waited = λ q t low top e. absurd (omega (arith, no_row t));
    receives = λ q t low top e. absurd (omega (arith, no_row t));
    sends = λ q t low top e. absurd (omega (arith, no_row t));
    alike = λ q t u low top e. absurd (omega (arith, no_row t));
  };
}
  where
    no_row : (t : ℕ) → row_of (task fresh t) ≡ 0
    no_row t = ap row_of (reads 25 no_task t) ∙ row_none
