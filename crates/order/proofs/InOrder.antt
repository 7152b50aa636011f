-- Elements come out in the order accepted, each once, whatever is called, by `step` as by the checked `call`: the statements of specs/Statements.
-- It goes by induction on the calls, from the fresh state; Ordered has one call.
use mathlib.Core.Path.{◌≡◌, refl, ap}
use mathlib.Core.List.{List, [], ◌∷◌}
use Prim.Native.Nat.{ℕ, ◌≤◌, ◌<◌}
use native.Mathlib.Omega.{arith}
use lib.ListN.{get_or-eq_default}
use Rattle.model.specs.declared.State.{State}
use Rattle.model.specs.declared.Context.{Context}
use Rattle.model.specs.declared.Call.{Call}
use Rattle.model.specs.State.{fresh, capacity_of}
use Rattle.model.specs.Call.{step, call}
use Rattle.model.specs.Sound.{Sound}
use Rattle.soundness.proofs.Fresh.{reads}
use Rattle.soundness.proofs.Soundness.{fresh_is_sound, sound_stays_sound}
use Rattle.tested.proofs.Checked.{call_is_step}
use Rattle.ways.specs.Entry.{entry}
use Rattle.ways.proofs.Ways.{way}
use Rattle.turns.specs.Tally.{reached_by}
use Rattle.turns.proofs.Same.{sound_reached, reached_same}
use Rattle.order.specs.Ledger.{senders, Ledger, no_ledger, entered, ledger}
use Rattle.order.specs.Statements.{stored_in, InOrder, NoneWithout}
use Rattle.order.proofs.Kept.{begins, ordered}
use Rattle.order.proofs.Sides.{unmade_sides}
use Rattle.order.proofs.Others.{KeptIn}
use Rattle.order.proofs.Ordered.{after_call}

module _ (q : ℕ) (low : 1 ≤ q) (top : q ≤ 8) where
  keeps : (calls : List (Context × Call)) (s : State) (l : Ledger) → Sound s → KeptIn q s l → KeptIn q (reached_by step s calls) (ledger step q s calls l)
  unfolding step reached_by ledger
  keeps [] s l k a = a
  keeps (c ∷ rest) s l k a =
      let k' = sound_stays_sound s c.0 c.1 k in
      keeps rest (step s c.0 c.1).state (entered q (entry c.1) s (step s c.0 c.1) l) k' (after_call (record { low = low; top = top; sound = k; ledger = a }) (way s c.0 c.1) k')

  from_fresh : (calls : List (Context × Call)) → KeptIn q (reached_by step fresh calls) (ledger step q fresh calls no_ledger)
  from_fresh calls = keeps calls fresh no_ledger fresh_is_sound (record { kept = rw (none.0, none.1) begins; none = λ _. refl })
    where
      none : (senders fresh q ≡ []) × (stored_in fresh q ≡ [])
      none = unmade_sides q low top fresh fresh_is_sound (reads {A = ℕ} 9 0 q)

-- a queue that exists is one of the 8
among : (s : State) → Sound s → (q : ℕ) → 1 ≤ capacity_of s q → (1 ≤ q) × (q ≤ 8)
among s k q made = (low, top)
  where
    none : q ≡ 0 → ⊥
    none e = omega (arith, made, ap (capacity_of s) e, k.queues.unused)

    low : 1 ≤ q
    low = omega (arith, none)

    past : 8 < q → ⊥
    past h = omega (arith, made, get_or-eq_default s.numbers.capacities 0 {n = q} (omega (arith, k.queues.capacities#, h)))

    top : q ≤ 8
    top = omega (arith, past)

pub in_order : InOrder step
in_order calls q made =
    let r = among (reached_by step fresh calls) (sound_reached calls fresh fresh_is_sound) q made in
    ordered (senders (reached_by step fresh calls) q) (stored_in (reached_by step fresh calls) q) (ledger step q fresh calls no_ledger) (from_fresh q r.0 r.1 calls).kept

pub none_without : NoneWithout step
none_without calls q low top e = (from_fresh q low top calls).none e

-- ---- the checked call, which answers as `step` does as long as the state is sound
ledger_called : (q : ℕ) (calls : List (Context × Call)) (s : State) (l : Ledger) → Sound s → ledger call q s calls l ≡ ledger step q s calls l
unfolding ledger
ledger_called q [] s l k = refl
ledger_called q (c ∷ rest) s l k =
    rw (call_is_step s c.0 c.1 k) (ledger_called q rest (step s c.0 c.1).state (entered q (entry c.1) s (step s c.0 c.1) l) (sound_stays_sound s c.0 c.1 k))

pub in_order_called : InOrder call
in_order_called calls q made =
    rw (reached_same call call_is_step calls fresh fresh_is_sound, ledger_called q calls fresh no_ledger fresh_is_sound)
    (in_order calls q (rw (reached_same call call_is_step calls fresh fresh_is_sound) at made))

pub none_without_called : NoneWithout call
none_without_called calls q low top e =
    rw (ledger_called q calls fresh no_ledger fresh_is_sound) (none_without calls q low top (rw (reached_same call call_is_step calls fresh fresh_is_sound) at e))
