-- The names of services: a few bytes tell which row of the table a name can be.
-- It rests on tests that antt computes over all rows, and on the laws of `begins`.
use Prim.Native.Nat.{ℕ, ◌+◌, ◌<◌, ◌≤◌}
use mathlib.Core.Path.{◌≡◌, refl, sym, ap, ◌∙◌}
use mathlib.Core.Bool.{Bool, true, false, cond, ◌&&◌, false≢true}
use mathlib.Core.List.{List, [], ◌∷◌}
use native.Mathlib.Omega.{arith}
use lib.Dec.{T as So, leb, eqb, leb→le}
use lib.ListN.{length, get_or}
use borrow.Author.Tests.{eq-eqb, ne_eqb}
use Rattle.text.specs.Bytes.{bytes, begins}
use Rattle.text.proofs.Begins.{begins_at}
use Rattle.model.specs.Test.{implies}
use Rattle.model.specs.Services.{Service, tasks, semaphores, flags, queues, services}
use Rattle.model.proofs.Words.{table}
use Rattle.services.specs.declared.names.Name.{Name}
use Rattle.std.specs.Prelude.{Option, Some, None}
use Rattle.services.specs.Names.{label, labelled, name_in, name_of}
use Rattle.services.proofs.Held.{is_long}
use Rattle.services.proofs.Numbers.{Rest, has, none_is, both_left, both_right}

-- what can be told from the first 13 bytes: of bytes that begin with a text, what the text tells
abbrev Early : (List ℕ → ℕ) → Type 0
Early f = (s t : List ℕ) → begins s t ≡ true → 13 ≤ length t → f t ≡ f s

early_byte : (i : ℕ) → i < 13 → Early (λ s. get_or s i 0)
early_byte i h s t e g = sym (begins_at s t e i (omega arith))

-- every name that lists hold has 13, with its comma; one that they do not hold has no key to speak of
unfoldable pub long : List Service → Bool
long [] = true
long (x ∷ xs) = is_long x && long xs

-- the first of the services that lists hold whose label has the key h and begins s, from the number k on
unfoldable pub keyed : (List ℕ → ℕ) → List Service → ℕ → ℕ → List ℕ → Option Name
keyed f [] k h s = None
keyed f (x ∷ xs) k h s =
    let more = keyed f xs (k + 1) h s in
    cond (x.in_lists && eqb (f (label x)) h) (cond (begins s (label x)) (Some (record { number = k; next = length (label x) })) more) more

-- none of another key is looked at in vain
by_key : (f : List ℕ → ℕ) → Early f → (xs : List Service) → So (long xs) → (k : ℕ) (s : List ℕ) → keyed f xs k (f s) s ≡ name_in xs k s
unfolding keyed name_in long
by_key f early [] t k s = refl
by_key f early (x ∷ xs) t k s =
    go x.in_lists (both_left (is_long x) (long xs) t) (begins s (label x)) refl (eqb (f (label x)) (f s)) refl (by_key f early xs (both_right (is_long x) (long xs) t) (k + 1) s)
  where
    here : Option Name
    here = Some (record { number = k; next = length (label x) })

    go : (i : Bool) → So (implies i (leb 13 (length (label x)))) → (b : Bool) → begins s (label x) ≡ b → (d : Bool) → eqb (f (label x)) (f s) ≡ d
        → keyed f xs (k + 1) (f s) s ≡ name_in xs (k + 1) s
        → cond (i && d) (cond b here (keyed f xs (k + 1) (f s) s)) (keyed f xs (k + 1) (f s) s) ≡ cond (i && b) here (name_in xs (k + 1) s)
    go true g true p true q ih = refl
    go true g true p false q ih = absurd (false≢true (sym q ∙ eq-eqb (f (label x)) (f s) (early s (label x) p (leb→le 13 (length (label x)) g))))
    go true g false p true q ih = ih
    go true g false p false q ih = ih
    go false g b p d q ih = ih

-- r is what the rows of the key m give, and m is what was read of s
at_key : {r : Option Name} (f : List ℕ → ℕ) → Early f → (xs : List Service) → So (long xs) → (k : ℕ) (s : List ℕ) {m : ℕ} → m ≡ f s → r ≡ keyed f xs k m s → r ≡ name_in xs k s
at_key f early xs t k s e p = p ∙ ap (λ (h : ℕ). keyed f xs k h s) e ∙ by_key f early xs t k s

-- ---- the keys that the reader goes by: a family's by one byte, a task's, a flag's or a data queue's service by two, a semaphore's by one

abbrev pub family_key : List ℕ → ℕ
family_key s = get_or s 4 0

abbrev pub task_key : List ℕ → ℕ
task_key s = get_or s 8 0 + get_or s 11 0

abbrev pub semaphore_key : List ℕ → ℕ
semaphore_key s = get_or s 8 0

abbrev pub flag_key : List ℕ → ℕ
flag_key s = get_or s 10 0 + get_or s 12 0

abbrev pub queue_key : List ℕ → ℕ
queue_key s = get_or s 9 0 + get_or s 10 0

early_bytes : (i j : ℕ) → i < 13 → j < 13 → Early (λ s. get_or s i 0 + get_or s j 0)
early_bytes i j h k s t e g = rw (early_byte i h s t e g, early_byte j k s t e g)

pub at_family : {r : Option Name} (s : List ℕ) {a m : ℕ} → a ≡ get_or s 4 0 → a ≡ m → r ≡ keyed family_key services 1 m s → r ≡ name_of s
unfolding name_of table long label
at_family s p e q = at_key family_key (early_byte 4 (omega arith)) services tt 1 s (sym e ∙ p) q

pub at_task : {r : Option Name} (s : List ℕ) {h m : ℕ} → h ≡ task_key s → h ≡ m → r ≡ keyed task_key tasks 1 m s → r ≡ name_in tasks 1 s
unfolding tasks long label
at_task s p e q = at_key task_key (early_bytes 8 11 (omega arith) (omega arith)) tasks tt 1 s (sym e ∙ p) q

pub at_semaphore : {r : Option Name} (s : List ℕ) {a m : ℕ} → a ≡ get_or s 8 0 → a ≡ m → r ≡ keyed semaphore_key semaphores 17 m s → r ≡ name_in semaphores 17 s
unfolding semaphores long label
at_semaphore s p e q = at_key semaphore_key (early_byte 8 (omega arith)) semaphores tt 17 s (sym e ∙ p) q

pub at_flag : {r : Option Name} (s : List ℕ) {h m : ℕ} → h ≡ flag_key s → h ≡ m → r ≡ keyed flag_key flags 24 m s → r ≡ name_in flags 24 s
unfolding flags long label
at_flag s p e q = at_key flag_key (early_bytes 10 12 (omega arith) (omega arith)) flags tt 24 s (sym e ∙ p) q

pub at_queue : {r : Option Name} (s : List ℕ) {h m : ℕ} → h ≡ queue_key s → h ≡ m → r ≡ keyed queue_key queues 34 m s → r ≡ name_in queues 34 s
unfolding queues long label
at_queue s p e q = at_key queue_key (early_bytes 9 10 (omega arith) (omega arith)) queues tt 34 s (sym e ∙ p) q

-- the key of every row that lists hold is one of those
covered : (List ℕ → ℕ) → List ℕ → List Service → Bool
covered f ks [] = true
covered f ks (x ∷ xs) = implies x.in_lists (has ks (f (label x))) && covered f ks xs

no_key : (f : List ℕ → ℕ) (ks : List ℕ) (xs : List Service) → So (covered f ks xs) → (k h : ℕ) (s : List ℕ) → Rest ks h Unit → None ≡ keyed f xs k h s
unfolding keyed covered
no_key f ks [] t k h s r = refl
no_key f ks (x ∷ xs) t k h s r =
    go x.in_lists (both_left (implies x.in_lists (has ks (f (label x)))) (covered f ks xs) t) (no_key f ks xs (both_right (implies x.in_lists (has ks (f (label x)))) (covered f ks xs) t) (k + 1) h s r)
  where
    go : (i : Bool) → So (implies i (has ks (f (label x)))) → None ≡ keyed f xs (k + 1) h s
        → None ≡ cond (i && eqb (f (label x)) h) (cond (begins s (label x)) (Some (record { number = k; next = length (label x) })) (keyed f xs (k + 1) h s)) (keyed f xs (k + 1) h s)
    go true g ih = rw (ne_eqb (f (label x)) h (λ q. none_is ks h Unit r (f (label x)) g (sym q))) ih
    go false g ih = ih

abbrev pub family_keys : List ℕ
family_keys = 97 ∷ 121 ∷ 105 ∷ 101 ∷ 118 ∷ 117 ∷ []

abbrev pub task_keys : List ℕ
task_keys = 196 ∷ 201 ∷ 202 ∷ 221 ∷ 217 ∷ 225 ∷ 227 ∷ 231 ∷ 216 ∷ 220 ∷ 212 ∷ 215 ∷ 213 ∷ 209 ∷ []

abbrev pub semaphore_keys : List ℕ
semaphore_keys = 114 ∷ 101 ∷ 105 ∷ 115 ∷ 99 ∷ 111 ∷ 112 ∷ []

abbrev pub flag_keys : List ℕ
flag_keys = 211 ∷ 202 ∷ 145 ∷ 231 ∷ 205 ∷ 200 ∷ 213 ∷ 224 ∷ []

abbrev pub queue_keys : List ℕ
queue_keys = 213 ∷ 201 ∷ 216 ∷ 220 ∷ 215 ∷ 219 ∷ []

pub no_family : (s : List ℕ) (h : ℕ) → h ≡ get_or s 4 0 → Rest family_keys h Unit → None ≡ name_of s
unfolding table label has covered
no_family s h p r = at_family s p refl (no_key family_key family_keys services tt 1 h s r)

pub no_task_lem : (s : List ℕ) (h : ℕ) → h ≡ task_key s → Rest task_keys h Unit → None ≡ name_in tasks 1 s
unfolding tasks label has covered
no_task_lem s h p r = at_task s p refl (no_key task_key task_keys tasks tt 1 h s r)

pub no_semaphore : (s : List ℕ) (h : ℕ) → h ≡ get_or s 8 0 → Rest semaphore_keys h Unit → None ≡ name_in semaphores 17 s
unfolding semaphores label has covered
no_semaphore s h p r = at_semaphore s p refl (no_key semaphore_key semaphore_keys semaphores tt 17 h s r)

pub no_flag : (s : List ℕ) (h : ℕ) → h ≡ flag_key s → Rest flag_keys h Unit → None ≡ name_in flags 24 s
unfolding flags label has covered
no_flag s h p r = at_flag s p refl (no_key flag_key flag_keys flags tt 24 h s r)

pub no_queue_lem : (s : List ℕ) (h : ℕ) → h ≡ queue_key s → Rest queue_keys h Unit → None ≡ name_in queues 34 s
unfolding queues label has covered
no_queue_lem s h p r = at_queue s p refl (no_key queue_key queue_keys queues tt 34 h s r)

-- no list holds `ready_ticks`: its r (114) is the first byte of no name that lists hold
pub no_list_holds_ready_ticks : (s : List ℕ) → begins s (bytes "ready_ticks,") ≡ true → name_of s ≡ None
unfolding name_of table long label keyed
no_list_holds_ready_ticks s e =
    sym (at_key (λ (t : List ℕ). get_or t 0 0) (early_byte 0 (omega arith)) services tt 1 s {m = 114} (sym (begins_at s (bytes "ready_ticks,") e 0 (omega arith))) refl)

-- ---- two names of one key: the first, and where it is not there, what the second gives
module _ (s t : List ℕ) (k : ℕ) (p : Option Name) {f : Option Name} (e : f ≡ labelled s t k) where
  abbrev this : Option Name
  this = Some (record { number = k; next = length t })

  pub it_first : (f ≡ None → ⊥) → f ≡ cond (begins s t) this p
  unfolding labelled
  it_first n = go (begins s t) e
    where
      go : (b : Bool) → f ≡ cond b this None → f ≡ cond b this p
      go true q = q
      go false q = absurd (n q)

  pub it_second : {r : Option Name} → f ≡ None → r ≡ p → r ≡ cond (begins s t) this p
  unfolding labelled
  it_second {r} n h = go (begins s t) (sym e ∙ n)
    where
      go : (b : Bool) → cond b this None ≡ None → r ≡ cond b this p
      go true q = cc
      go false q = h
