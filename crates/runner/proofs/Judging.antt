-- What becomes of a file, from what the header, the lines and the buffer's length say. The kernel's step and its checked call give
-- the same rows, since every state that a list reaches from the fresh one is sound. It rests on Answered, soundness and tested.
use Prim.Native.Nat.{ℕ, ◌+◌, ◌<◌, ◌≤◌}
use mathlib.Core.Path.{◌≡◌, refl, ap, sym, ◌∙◌}
use Rattle.std.specs.Prelude.{Some, None, Ok, Err}
use mathlib.Core.List.{List, ◌∷◌, ◌++◌, map}
use native.Mathlib.Omega.{arith}
use lib.ListN.{length, take, length-append, length-take, length-map}
use lib.Seq.{length-take-le}
use borrow.Author.Tests.{ne_eqb, lt-ltb, le-ltb}
use Rattle.text.specs.Bytes.{bytes}
use Rattle.model.specs.declared.State.{State}
use Rattle.model.specs.State.{fresh}
use Rattle.model.specs.Sound.{Sound}
use Rattle.model.specs.Call as Calls
use Rattle.soundness.proofs.Soundness.{sound_stays_sound, fresh_is_sound}
use Rattle.tested.proofs.Same.{sound_exactly}
use Rattle.lines.specs.declared.line.Header.{Header}
use Rattle.lines.specs.Lines.{header_of}
use Rattle.runner.specs.declared.Played.{Played}
use Rattle.runner.specs.declared.Refusal.{Refusal}
use Rattle.runner.specs.declared.Refusal.TheVariants.{TooLong, Unreadable, Short}
use Rattle.walk.specs.Script.{Script, done, fault, next, script_in, script_of, fault_of}
use Rattle.walk.specs.Rows.{Row, rows_by, rows_text, text_of}
use Rattle.runner.specs.Kept.{kept_rows, keep, Plays}
use Rattle.runner.specs.Outcome.{judged, ran_of}
use Rattle.runner.proofs.Scripts.{rows_kept}
use Rattle.runner.proofs.Answered.{all_kept}

-- ---- the step and the checked call
same_rows : (p : Script) (s : State) → Sound s → rows_by Calls.call s p ≡ rows_by Calls.step s p
unfolding rows_by Calls.call
same_rows done s k = refl
same_rows (fault l) s k = refl
same_rows (next x c p) s k =
    rw ((sound_exactly s).1 k) (ap (λ (rows : List Row). record { code = (Calls.step s x c).code; running = (Calls.step s x c).running } ∷ rows) (same_rows p (Calls.step s x c).state (sound_stays_sound s x c k)))

text_kept : (p : Script) → text_of p ≡ bytes "n,code,running\r\n" ++ kept_rows 1 (map keep (rows_by Calls.step fresh p))
unfolding text_of
text_kept p = rw (same_rows p fresh fresh_is_sound, rows_kept 1 (rows_by Calls.step fresh p) (all_kept p))

-- ---- the outcome
module _ (file : List ℕ) (room : ℕ) where
  pub long : 65536 < length file → Err TooLong ≡ ran_of file room
  unfolding ran_of
  long h = rw (lt-ltb _ _ h)

  module _ (fits : length file ≤ 65536) where
    judges : ran_of file room ≡ judged (script_of file) room
    unfolding ran_of
    judges = rw (le-ltb _ _ fits)

    pub headless : header_of file ≡ None → Err (Unreadable 1) ≡ ran_of file room
    unfolding script_of judged fault_of
    headless e = rw (judges, e)

    module _ (x : Header) (e : header_of file ≡ Some x) where
      script : script_of file ≡ script_in x.wide x.next file 2
      unfolding script_of
      script = rw e

      pub faulty : (f : Refusal) (ks : List ℕ) → Plays (Err f) ks (script_in x.wide x.next file 2) → Err f ≡ ran_of file room
      unfolding judged
      faulty f ks p = let z : (fault_of (script_in x.wide x.next file 2) ≡ 0 → ⊥) = λ q. omega (arith, p.2) in rw (judges, script, p.1, ne_eqb _ _ z)

      module _ (r : Played) (ks : List ℕ) (p : Plays (Ok r) ks (script_in x.wide x.next file 2)) where
        none : fault_of (script_in x.wide x.next file 2) ≡ 0
        none = p.1.none

        pub text : text_of (script_of file) ≡ bytes "n,code,running\r\n" ++ kept_rows 1 (take r.count ks)
        text = rw (script, text_kept (script_in x.wide x.next file 2), p.1.rows)

        pub size : r.total ≡ length (text_of (script_of file))
        unfolding text_of
        size = p.1.total ∙ sym (rw (script, same_rows (script_in x.wide x.next file 2) fresh fresh_is_sound) (length-append (bytes "n,code,running\r\n") (rows_text 1 (rows_by Calls.step fresh (script_in x.wide x.next file 2)))))

        pub short : room < r.total → Err Short ≡ ran_of file room
        unfolding judged
        short g = let k : room < length (text_of (script_in x.wide x.next file 2)) = rw (size, script) at g in rw (judges, script, none, lt-ltb _ _ k)

        pub wrote : r.total ≤ room → Ok r.total ≡ ran_of file room
        unfolding judged
        wrote g = let k : length (text_of (script_in x.wide x.next file 2)) ≤ room = rw (size, script) at g in rw (judges, script, none, le-ltb _ _ k, size, script)

        -- the rows that are kept have room in their table, and their text in the buffer
        pub kept : r.count ≤ length ks
        kept = omega (arith, p.1.count, length-take r.count ks, ap length (p.1.rows), length-map (rows_by Calls.step fresh (script_in x.wide x.next file 2)) keep)

        pub few : length (take r.count ks) ≤ 3639
        few = omega (arith, length-take-le r.count ks kept, kept, p.0)

        pub room_for : r.total ≤ room → 16 + length (kept_rows 1 (take r.count ks)) ≤ room
        room_for g = omega (arith, size ∙ ap length text, length-append (bytes "n,code,running\r\n") (kept_rows 1 (take r.count ks)))
