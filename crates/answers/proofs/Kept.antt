-- What is kept of a row says the row again: a code that a call of a list answers, and a task's number.
-- It rests on the definitions of specs/.
use mathlib.Core.Path.{◌≡◌, refl}
use Prim.Native.Nat.{ℕ, ◌+◌, ◌*◌, ◌/◌, ◌≤◌, ◌<◌}
use mathlib.Core.Bool.{cond}
use native.Mathlib.Omega.{arith}
use native.Mathlib.Decide.{dec_lt}
use borrow.Author.Tests.{lt-ltb, le-ltb}
use lib.Dec.{ltb}
use Rattle.model.specs.declared.Code.{Code}
use Rattle.model.specs.declared.Code.TheVariants.{NoErr, Pending, Overflow, WContext, WState, Timeout, WrongParam, IlUse, NoExs, Dlt, Released, Unsound}
use Rattle.answers.specs.Slots.{slot_of, base_of, kept_of, slot_in, runs_in}

pub record Says (c : Code) (run : ℕ) : Type 0 where
  pub slot : slot_in (kept_of c run) ≡ slot_of c
  pub runs : runs_in (kept_of c run) ≡ run

-- the q-th code's 25 numbers
ranked : (q run k : ℕ) → k ≡ 25 * q + run → run ≤ 24 → slot_in k ≡ cond (ltb q 2) (3 + q) (5 + q)
unfolding slot_in
ranked q run k e h = go (dec_lt q 2)
  where
    go : Dec (q < 2) → cond (ltb k 50) (3 + k / 25) (5 + k / 25) ≡ cond (ltb q 2) (3 + q) (5 + q)
    go (yes p) = rw (lt-ltb q 2 p, lt-ltb k 50 (omega (arith, e))) (omega (arith, e))
    go (no p) = rw (le-ltb q 2 (omega arith), le-ltb k 50 (omega (arith, e))) (omega (arith, e))

says : (c : Code) (run q : ℕ) → base_of c ≡ 25 * q → run ≤ 24 → (slot_in (kept_of c run) ≡ cond (ltb q 2) (3 + q) (5 + q)) × (runs_in (kept_of c run) ≡ run)
says c run q e h = let a : kept_of c run ≡ 25 * q + run = rw (le-ltb 24 run h, e) in (ranked q run (kept_of c run) a h, rw a (omega (arith, h)))

-- of the codes before the last three
pub kept_says : (c : Code) (run : ℕ) → base_of c ≤ 200 → run ≤ 24 → Says c run
kept_says NoErr run r h = let t = says NoErr run 7 refl h in record { slot = t.0; runs = t.1 }
kept_says Pending run r h = let t = says Pending run 8 refl h in record { slot = t.0; runs = t.1 }
kept_says Overflow run r h = let t = says Overflow run 6 refl h in record { slot = t.0; runs = t.1 }
kept_says WContext run r h = let t = says WContext run 5 refl h in record { slot = t.0; runs = t.1 }
kept_says WState run r h = let t = says WState run 4 refl h in record { slot = t.0; runs = t.1 }
kept_says Timeout run r h = let t = says Timeout run 3 refl h in record { slot = t.0; runs = t.1 }
kept_says WrongParam run r h = let t = says WrongParam run 2 refl h in record { slot = t.0; runs = t.1 }
kept_says IlUse run r h = let t = says IlUse run 1 refl h in record { slot = t.0; runs = t.1 }
kept_says NoExs run r h = let t = says NoExs run 0 refl h in record { slot = t.0; runs = t.1 }
kept_says Dlt run r h = absurd (omega arith)
kept_says Released run r h = absurd (omega arith)
kept_says Unsound run r h = absurd (omega arith)
