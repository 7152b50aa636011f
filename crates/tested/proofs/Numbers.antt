-- The tests of a charge, of the numbers of a semaphore, a flag and a data queue, and of what a wait asks for, say what soundness says of them.
-- Rests on Says.
use mathlib.Core.Path.{◌≡◌}
use mathlib.Core.Bool.{false}
use mathlib.Core.List.{List}
use mathlib.Core.Logic.{◌⊎◌}
use Prim.Native.Nat.{ℕ, ◌+◌, ◌≤◌, ◌<◌}
use lib.Dec.{T as So}
use lib.ListN.{drop}
use Rattle.model.specs.declared.Wait.{Wait}
use Rattle.model.specs.declared.Queue.{Queue}
use Rattle.model.specs.declared.Task.{Task}
use Rattle.model.specs.Flag.{is_flag_attributes, is_single, is_met}
use Rattle.model.specs.Task.{a_flag, a_send, a_receive}
use Rattle.model.specs.Test.{is_charge_sound, is_charge_of, is_count_sound, is_flag_sound, is_unmet, zeros, is_stock_sound, is_unserved}
use Rattle.model.specs.Sound.{SoundCharge}
use Rattle.laws.proofs.Says.{Says, says_same, says_false, says_eq, says_le, says_lt, says_not, says_and, says_or, says_implies, says_cond}

abbrev pub Counted : ℕ → ℕ → ℕ → Type 0
Counted n v first_waiter = (n ≤ v) × ((v ≤ 65535) × ((first_waiter ≡ 0 → ⊥) → (n ≡ 0) × (v ≡ 0 → ⊥)))

pub says_charge : (ls : List Queue) (vs : List ℕ) (t : ℕ) (x : Task) → Says (is_charge_of ls vs t x) (SoundCharge ls vs t x)
unfolding is_charge_sound
says_charge ls vs t x = says_or says_eq (says_and says_eq says_lt)

pub says_count : (n v first_waiter : ℕ) → Says (is_count_sound n v first_waiter) (Counted n v first_waiter)
unfolding is_count_sound
says_count n v first_waiter = says_and says_le (says_and says_le (says_implies (says_not says_eq) (says_and says_eq (says_not says_eq))))

abbrev pub Flagged : ℕ → ℕ → ℕ → ℕ → Type 0
Flagged a b first_waiter second_waiter = So (is_flag_attributes a) × ((a ≡ 0 → (b ≡ 0) × (first_waiter ≡ 0)) × (So (is_single a) → second_waiter ≡ 0))

pub says_flag : (a b first_waiter second_waiter : ℕ) → Says (is_flag_sound a b first_waiter second_waiter) (Flagged a b first_waiter second_waiter)
unfolding is_flag_sound
says_flag a b first_waiter second_waiter = says_and (says_same (is_flag_attributes a)) (says_and (says_implies says_eq (says_and says_eq says_eq)) (says_implies (says_same (is_single a)) says_eq))

abbrev pub Unmet : Wait → ℕ → Type 0
Unmet w b = w.kind ≡ a_flag → is_met w.pattern w.mode b ≡ false

pub says_unmet : (w : Wait) (b : ℕ) → Says (is_unmet w b) (Unmet w b)
unfolding is_unmet
says_unmet w b = says_implies says_eq (says_false (is_met w.pattern w.mode b))

abbrev pub Stocked : ℕ → ℕ → List ℕ → ℕ → Type 0
Stocked c n ps first_waiter = ((c ≡ 0 → (n ≡ 0) × (first_waiter ≡ 0)) × ((c ≡ 0 → ⊥) → (c ≤ 17) × (n < c))) × So (zeros (drop n ps))

pub says_stock : (c n : ℕ) (ps : List ℕ) (first_waiter : ℕ) → Says (is_stock_sound c n ps first_waiter) (Stocked c n ps first_waiter)
unfolding is_stock_sound
says_stock c n ps first_waiter = says_and (says_cond says_eq (says_and says_eq says_eq) (says_and says_le says_lt)) (says_same (zeros (drop n ps)))

abbrev pub Unserved : Wait → ℕ → ℕ → ℕ → Type 0
Unserved w c n v = (w.kind ≡ a_send) ⊎ (w.kind ≡ a_receive) → (w.kind ≡ v) × ((w.kind ≡ a_send → n + 1 ≡ c) × ((w.kind ≡ a_send → ⊥) → n ≡ 0))

pub says_unserved : (w : Wait) (c n v : ℕ) → Says (is_unserved w c n v) (Unserved w c n v)
unfolding is_unserved
says_unserved w c n v = says_implies (says_or says_eq says_eq) (says_and says_eq (says_cond says_eq says_eq says_eq))
