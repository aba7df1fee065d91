-- Live connections by their numbers.
use Rattle.std.proofs.Common.{◌≡◌, ℕ, zero, suc, ◌+◌, ◌-◌, ◌≤◌, List, [], ◌∷◌, Bool, true, false, ◌||◌, if◌then◌else◌, Some, nat_eq, refl, sym, ap, ◌∙◌, arith, remove, set, get_or}
use Rattle.std.specs.List.{position_from, slice_get}
use Rattle.std.proofs.lemmas.Bool.Decides.{nat_tests}
use Rattle.number_table.specs.Table.{place_in}
use Rattle.number_table.proofs.Numbers.{placed_by}
use Rattle.proxy_core.specs.declared.live.Live.{Live}
use Rattle.proxy_core.specs.Ready.{numbers, is_in, place_of}
use Rattle.proxy_core.specs.Refusals.{live_at}

eq_number : (a b : ℕ) → nat_eq a b ≡ true → a ≡ b
eq_number a b h = grind (arith, nat_tests)

number_from : (number i at : ℕ) (ls : List Live) (l : Live) → position_from (λ x. nat_eq x.number number) i ls ≡ Some at → (i ≤ at) × (slice_get ls (at - i) ≡ Some l → l.number ≡ number)
number_from number i at [] l e = cc
number_from number i at (x ∷ xs) l e = by_cases (nat_eq x.number number) refl (λ f. number_from number (i + 1) at xs l f) e
  where
    by_cases : (b : Bool) → nat_eq x.number number ≡ b → (position_from (λ y. nat_eq y.number number) (i + 1) xs ≡ Some at → (i + 1 ≤ at) × (slice_get xs (at - (i + 1)) ≡ Some l → l.number ≡ number)) → (if b then Some i else position_from (λ y. nat_eq y.number number) (i + 1) xs) ≡ Some at → (i ≤ at) × (slice_get (x ∷ xs) (at - i) ≡ Some l → l.number ≡ number)
    by_cases true t rest f =
        let g : at ≡ i = cc in
        let z : at - i ≡ 0 = omega arith in
        (omega arith, rw z (λ h. let k : x ≡ l = cc in ap (λ y. y.number) (sym k) ∙ eq_number x.number number t))
    by_cases false t rest f =
        let r = rest f in
        let m : at - i ≡ suc (at - (i + 1)) = omega (arith, r.0) in
        (omega (arith, r.0), rw m r.1)

-- the connection at the place of a number has that number
pub number_at : (number at : ℕ) (ls : List Live) (l : Live) → place_of ls number ≡ Some at → slice_get ls at ≡ Some l → l.number ≡ number
number_at number at ls l e h =
    let m : at - 0 ≡ at = omega arith in (number_from number 0 at ls l e).1 (rw m h)

pub live_there : (number at : ℕ) (ls : List Live) (l : Live) → place_of ls number ≡ Some at → slice_get ls at ≡ Some l → live_at ls number ≡ Some l
live_there number at ls l e h = rw e h

pub in_numbers : (at : ℕ) (ls : List Live) (l : Live) → slice_get ls at ≡ Some l → is_in (numbers ls) l.number ≡ true
in_numbers at [] l h = cc
in_numbers zero (x ∷ xs) l h =
    let k : x ≡ l = cc in
    let t : nat_eq l.number x.number ≡ true = grind (arith, nat_tests, ap (λ y. y.number) k) in
    rw t refl
in_numbers (suc at) (x ∷ xs) l h = later (nat_eq l.number x.number) (is_in (numbers xs) l.number) (in_numbers at xs l h)
  where
    later : (a b : Bool) → b ≡ true → (a || b) ≡ true
    later true b g = refl
    later false b g = g

-- a connection that changes keeps its number
pub numbers_set : (at : ℕ) (ls : List Live) (l m : Live) → slice_get ls at ≡ Some l → m.number ≡ l.number → numbers (set ls at m) ≡ numbers ls
numbers_set at [] l m h e = refl
numbers_set zero (x ∷ xs) l m h e = let k : x ≡ l = cc in ap (λ n. n ∷ numbers xs) (e ∙ ap (λ y. y.number) (sym k))
numbers_set (suc at) (x ∷ xs) l m h e = ap (λ ns. x.number ∷ ns) (numbers_set at xs l m h e)

-- those that are left were there
pub in_before : (at : ℕ) (ls : List Live) (q : ℕ) → is_in (numbers (remove ls at)) q ≡ true → is_in (numbers ls) q ≡ true
in_before zero [] q g = g
in_before (suc at) [] q g = g
in_before zero (x ∷ xs) q g = later (nat_eq q x.number) (is_in (numbers xs) q) g
  where
    later : (a b : Bool) → b ≡ true → (a || b) ≡ true
    later true b h = refl
    later false b h = h
in_before (suc at) (x ∷ xs) q g = by_cases (nat_eq q x.number) g (in_before at xs q)
  where
    by_cases : (b : Bool) → (b || is_in (numbers (remove xs at)) q) ≡ true → (is_in (numbers (remove xs at)) q ≡ true → is_in (numbers xs) q ≡ true) → (b || is_in (numbers xs) q) ≡ true
    by_cases true k rest = refl
    by_cases false k rest = rest k

-- the place of a number among the numbers is that of its connection
pub placed : (number : ℕ) (ls : List Live) → place_in (numbers ls) number ≡ place_of ls number
placed number ls = placed_by (λ l. l.number) number ls

-- the number at a place
pub number_in : (at : ℕ) (ns : List ℕ) (ls : List Live) (l : Live) → ns ≡ numbers ls → slice_get ls at ≡ Some l → get_or ns at 0 ≡ l.number
number_in at ns ls l e h = rw e (by_place at ls h)
  where
    by_place : (i : ℕ) (ks : List Live) → slice_get ks i ≡ Some l → get_or (numbers ks) i 0 ≡ l.number
    by_place i [] h = cc
    by_place zero (x ∷ ks) h = let k : x ≡ l = cc in ap (λ y. y.number) k
    by_place (suc i) (x ∷ ks) h = by_place i ks h

pub numbers_removed_at : (at : ℕ) (ls : List Live) → numbers (remove ls at) ≡ remove (numbers ls) at
numbers_removed_at zero [] = refl
numbers_removed_at (suc at) [] = refl
numbers_removed_at zero (x ∷ ls) = refl
numbers_removed_at (suc at) (x ∷ ls) = ap (λ ns. x.number ∷ ns) (numbers_removed_at at ls)

-- what is read twice is the same
pub read_again : (ls : List Live) (at : ℕ) (l m : Live) → slice_get ls at ≡ Some l → slice_get ls at ≡ Some m → l ≡ m
read_again ls at l m h k = let e : Some l ≡ Some m = sym h ∙ k in cc

-- and what was written is read
pub read_set : (at : ℕ) (ls : List Live) (l m : Live) → slice_get ls at ≡ Some l → slice_get (set ls at m) at ≡ Some m
read_set at [] l m h = cc
read_set zero (x ∷ xs) l m h = refl
read_set (suc at) (x ∷ xs) l m h = read_set at xs l m h

pub remove_set : (at : ℕ) (ls : List Live) (m : Live) → remove (set ls at m) at ≡ remove ls at
remove_set at [] m = refl
remove_set zero (x ∷ xs) m = refl
remove_set (suc at) (x ∷ xs) m = ap (λ l. x ∷ l) (remove_set at xs m)
