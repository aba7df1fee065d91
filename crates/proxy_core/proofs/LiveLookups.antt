-- The live connection of a number, in a list that changed.
use Rattle.std.proofs.Common.{◌≡◌, refl, sym, ap, ◌∙◌, ℕ, zero, suc, ◌+◌, List, [], ◌∷◌, ◌++◌, Bool, true, false, ◌||◌, Option, Some, None, nat_eq, arith, if◌then◌else◌, remove, set}
use Rattle.std.specs.Prelude.{slice_get, option_and_then}
use Rattle.std.specs.List.{IsDistinct, position_from}
use Rattle.std.proofs.lemmas.Map.Keys.{IsDistinct-head, IsDistinct-tail}
use Rattle.proxy_core.specs.declared.live.Live.{Live}
use Rattle.proxy_core.specs.Ready.{numbers, is_in, without}
use Rattle.proxy_core.specs.Refusals.{live_at}
use Rattle.proxy_core.proofs.Members.{eq_self, eq_same, eq_turned}
use Rattle.proxy_core.proofs.Places.{in_numbers}
use Rattle.proxy_core.proofs.ReadyRing.{absent_all}

-- the same by recursion
find_live : ℕ → List Live → Option Live
find_live q [] = None
find_live q (l ∷ live) = if nat_eq l.number q then Some l else find_live q live

found_from : (q i : ℕ) (live all : List Live) → ((k : ℕ) → slice_get all (i + k) ≡ slice_get live k)
    → option_and_then (λ at. slice_get all at) (position_from (λ l. nat_eq l.number q) i live) ≡ find_live q live
unfolding find_live
found_from q i [] all same = refl
found_from q i (l ∷ live) all same = by_number (nat_eq l.number q) (found_from q (i + 1) live all (λ k. next k))
  where
    by_number : (b : Bool) → option_and_then (λ at. slice_get all at) (position_from (λ x. nat_eq x.number q) (i + 1) live) ≡ find_live q live
        → option_and_then (λ at. slice_get all at) (if b then Some i else position_from (λ x. nat_eq x.number q) (i + 1) live) ≡ (if b then Some l else find_live q live)
    by_number true h = let e : i ≡ i + 0 = omega arith in ap (slice_get all) e ∙ same 0
    by_number false h = h

    next : (k : ℕ) → slice_get all (i + 1 + k) ≡ slice_get live k
    next k = let e : i + 1 + k ≡ i + suc k = omega arith in ap (slice_get all) e ∙ same (suc k)

is_found : (q : ℕ) (live : List Live) → live_at live q ≡ find_live q live
is_found q live = found_from q 0 live live (λ k. let e : 0 + k ≡ k = omega arith in ap (slice_get live) e)

or_false : (a b : Bool) → (a || b) ≡ false → (a ≡ false) × (b ≡ false)
or_false false b h = (refl, h)
or_false true b h = cc

if_none : (b : Bool) (x : Live) → b ≡ false → (if b then Some x else None) ≡ None
if_none true x h = cc
if_none false x h = refl

-- none of the number
find_absent : (q : ℕ) (live : List Live) → is_in (numbers live) q ≡ false → find_live q live ≡ None
unfolding find_live
find_absent q [] h = refl
find_absent q (l ∷ live) h = let e = or_false (nat_eq q l.number) (is_in (numbers live) q) h in rw (eq_turned q l.number e.0) (find_absent q live e.1)

pub live_absent : (q : ℕ) (live : List Live) → is_in (numbers live) q ≡ false → live_at live q ≡ None
live_absent q live h = is_found q live ∙ find_absent q live h

find_present : (q : ℕ) (live : List Live) → is_in (numbers live) q ≡ true → (l : Live) × (find_live q live ≡ Some l)
unfolding find_live
find_present q [] h = cc
find_present q (l ∷ live) h = by_number (nat_eq l.number q) refl (find_present q live)
  where
    by_number : (b : Bool) → nat_eq l.number q ≡ b → (is_in (numbers live) q ≡ true → (m : Live) × (find_live q live ≡ Some m)) → (m : Live) × ((if b then Some l else find_live q live) ≡ Some m)
    by_number true e k = (l, refl)
    by_number false e k = k (let f : (nat_eq q l.number || is_in (numbers live) q) ≡ true = h in rw (eq_turned l.number q e) at f)

pub live_present : (q : ℕ) (live : List Live) → is_in (numbers live) q ≡ true → (l : Live) × (live_at live q ≡ Some l)
live_present q live h = let f = find_present q live h in (f.0, is_found q live ∙ f.1)

-- one more at the back
find_pushed : (q : ℕ) (live : List Live) (l : Live) → nat_eq l.number q ≡ false → find_live q (live ++ l ∷ []) ≡ find_live q live
unfolding find_live
find_pushed q [] l h = rw h refl
find_pushed q (x ∷ live) l h = ap (λ o. if nat_eq x.number q then Some x else o) (find_pushed q live l h)

pub live_pushed_other : (q : ℕ) (live : List Live) (l : Live) → nat_eq l.number q ≡ false → live_at (live ++ l ∷ []) q ≡ live_at live q
live_pushed_other q live l h = is_found q (live ++ l ∷ []) ∙ find_pushed q live l h ∙ sym (is_found q live)

find_last : (live : List Live) (l : Live) → is_in (numbers live) l.number ≡ false → find_live l.number (live ++ l ∷ []) ≡ Some l
unfolding find_live
find_last [] l h = rw (eq_self l.number) refl
find_last (x ∷ live) l h = let e = or_false (nat_eq l.number x.number) (is_in (numbers live) l.number) h in rw (eq_turned l.number x.number e.0) (find_last live l e.1)

pub live_pushed_self : (live : List Live) (l : Live) → is_in (numbers live) l.number ≡ false → live_at (live ++ l ∷ []) l.number ≡ Some l
live_pushed_self live l h = is_found l.number (live ++ l ∷ []) ∙ find_last live l h

-- in front of a place there is no second one of its number
later : (x : Live) (live : List Live) (at : ℕ) (l : Live) → IsDistinct nat_eq (x.number ∷ numbers live) → slice_get live at ≡ Some l → nat_eq x.number l.number ≡ false
later x live at l d h = by_test (nat_eq x.number l.number) refl
  where
    by_test : (b : Bool) → nat_eq x.number l.number ≡ b → b ≡ false
    by_test true e = absurd (let f : is_in (numbers live) x.number ≡ false = absent_all x.number (numbers live) (IsDistinct-head nat_eq x.number (numbers live) d) in let g : is_in (numbers live) x.number ≡ true = ap (λ n. is_in (numbers live) n) (eq_same x.number l.number e) ∙ in_numbers at live l h in cc)
    by_test false e = refl

-- another connection at a place
find_set : (at : ℕ) (live : List Live) (l m : Live) → IsDistinct nat_eq (numbers live) → slice_get live at ≡ Some l → m.number ≡ l.number → find_live l.number (set live at m) ≡ Some m
unfolding find_live
find_set at [] l m d h e = cc
find_set zero (x ∷ live) l m d h e = let t : nat_eq m.number l.number ≡ true = rw e (eq_self l.number) in rw t refl
find_set (suc at) (x ∷ live) l m d h e = rw (later x live at l d h) (find_set at live l m (IsDistinct-tail nat_eq x.number (numbers live) d) h e)

pub live_set_self : (at : ℕ) (live : List Live) (l m : Live) → IsDistinct nat_eq (numbers live) → slice_get live at ≡ Some l → m.number ≡ l.number → live_at (set live at m) l.number ≡ Some m
live_set_self at live l m d h e = is_found l.number (set live at m) ∙ find_set at live l m d h e

find_set_other : (q at : ℕ) (live : List Live) (l m : Live) → slice_get live at ≡ Some l → m.number ≡ l.number → nat_eq l.number q ≡ false → find_live q (set live at m) ≡ find_live q live
unfolding find_live
find_set_other q at [] l m h e n = refl
find_set_other q zero (x ∷ live) l m h e n =
    let f : nat_eq x.number q ≡ false = (let k : x ≡ l = cc in ap (λ y. nat_eq y.number q) k ∙ n) in
    let g : nat_eq m.number q ≡ false = ap (λ y. nat_eq y q) e ∙ n in rw (f, g) refl
find_set_other q (suc at) (x ∷ live) l m h e n = ap (λ o. if nat_eq x.number q then Some x else o) (find_set_other q at live l m h e n)

pub live_set_other : (q at : ℕ) (live : List Live) (l m : Live) → slice_get live at ≡ Some l → m.number ≡ l.number → nat_eq l.number q ≡ false → live_at (set live at m) q ≡ live_at live q
live_set_other q at live l m h e n = is_found q (set live at m) ∙ find_set_other q at live l m h e n ∙ sym (is_found q live)

-- without the one at a place
find_removed : (q at : ℕ) (live : List Live) (l : Live) → slice_get live at ≡ Some l → nat_eq l.number q ≡ false → find_live q (remove live at) ≡ find_live q live
unfolding find_live
find_removed q at [] l h n = cc
find_removed q zero (x ∷ live) l h n = let f : nat_eq x.number q ≡ false = (let k : x ≡ l = cc in ap (λ y. nat_eq y.number q) k ∙ n) in rw f refl
find_removed q (suc at) (x ∷ live) l h n = ap (λ o. if nat_eq x.number q then Some x else o) (find_removed q at live l h n)

pub live_removed_other : (q at : ℕ) (live : List Live) (l : Live) → slice_get live at ≡ Some l → nat_eq l.number q ≡ false → live_at (remove live at) q ≡ live_at live q
live_removed_other q at live l h n = is_found q (remove live at) ∙ find_removed q at live l h n ∙ sym (is_found q live)

pub numbers_removed : (at : ℕ) (live : List Live) (l : Live) → IsDistinct nat_eq (numbers live) → slice_get live at ≡ Some l → numbers (remove live at) ≡ without l.number (numbers live)
numbers_removed at [] l d h = cc
numbers_removed zero (x ∷ live) l d h =
    let t : nat_eq l.number x.number ≡ true = (let k : x ≡ l = cc in ap (λ y. nat_eq l.number y.number) k ∙ eq_self l.number) in rw t refl
numbers_removed (suc at) (x ∷ live) l d h =
    rw (eq_turned x.number l.number (later x live at l d h)) (ap (λ ns. x.number ∷ ns) (numbers_removed at live l (IsDistinct-tail nat_eq x.number (numbers live) d) h))
