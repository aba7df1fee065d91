-- Numbers in a ring, each once.
use Rattle.std.proofs.Common.{◌≡◌, ◌∙◌, refl, sym, ap, ℕ, suc, ◌+◌, ◌-◌, ◌<◌, ◌≤◌, List, [], ◌∷◌, ◌++◌}
use Rattle.std.proofs.Common.{Bool, true, false, ◌||◌, if◌then◌else◌, Option, Some, None, IfSome, option_to_list}
use Rattle.std.proofs.Common.{nat_eq, length, arith, remove, length-append, subst}
use Rattle.std.specs.List.{IsDistinct, AllByRecursion, position_from}
use Rattle.std.proofs.lemmas.Bool.Decides.{nat_tests}
use Rattle.std.proofs.lemmas.Map.Keys.{IsDistinct-cons, IsDistinct-head, IsDistinct-tail}
use Rattle.std.proofs.lemmas.Map.Made.{length-le_from_is_member}
use Rattle.std.proofs.lemmas.Cmp.{nat_eq_equiv}
use Rattle.index_lists.specs.Ring.{is_in, without}

pub eq_self : (n : ℕ) → nat_eq n n ≡ true
eq_self n = grind (arith, nat_tests)

pub eq_same : (n m : ℕ) → nat_eq n m ≡ true → n ≡ m
eq_same n m h = grind (arith, nat_tests)

pub eq_turned : (n m : ℕ) → nat_eq n m ≡ false → nat_eq m n ≡ false
eq_turned n m h = grind (arith, nat_tests)

pub or_false : (a b : Bool) → (a || b) ≡ false → (a ≡ false) × (b ≡ false)
or_false false b h = (refl, h)
or_false true b h = cc

or_none : (a : Bool) → (a || false) ≡ true → a ≡ true
or_none false h = h
or_none true h = refl

pub or_later : (a b : Bool) → b ≡ true → (a || b) ≡ true
or_later false b h = h
or_later true b h = refl

or_first : (a b : Bool) → a ≡ true → (a || b) ≡ true
or_first true b h = refl
or_first false b h = cc

-- the second of two, where the first doesn't hold
pub or_true : (a b : Bool) → (a || b) ≡ true → a ≡ false → b ≡ true
or_true false b h n = h
or_true true b h n = cc

pub all_absent : (n : ℕ) (xs : List ℕ) → is_in xs n ≡ false → AllByRecursion (λ y. nat_eq n y ≡ false) xs
all_absent n [] h = tt
all_absent n (x ∷ xs) h = let e = or_false (nat_eq n x) (is_in xs n) h in (e.0, all_absent n xs e.1)

pub absent_all : (n : ℕ) (xs : List ℕ) → AllByRecursion (λ y. nat_eq n y ≡ false) xs → is_in xs n ≡ false
absent_all n [] h = refl
absent_all n (x ∷ xs) h = rw h.0 (absent_all n xs h.1)

pub front_not_in_rest : (n : ℕ) (rest : List ℕ) → IsDistinct nat_eq (n ∷ rest) → is_in rest n ≡ false
front_not_in_rest n rest d = absent_all n rest (IsDistinct-head nat_eq n rest d)

pub distinct_none : IsDistinct nat_eq []
unfolding IsDistinct
distinct_none = tt

all_push : (n m : ℕ) (xs : List ℕ) → AllByRecursion (λ y. nat_eq m y ≡ false) xs → nat_eq m n ≡ false → AllByRecursion (λ y. nat_eq m y ≡ false) (xs ++ n ∷ [])
all_push n m [] a h = (h, tt)
all_push n m (x ∷ xs) a h = (a.0, all_push n m xs a.1 h)

pub distinct_push : (n : ℕ) (xs : List ℕ) → IsDistinct nat_eq xs → is_in xs n ≡ false → IsDistinct nat_eq (xs ++ n ∷ [])
distinct_push n [] d h = IsDistinct-cons nat_eq n [] tt distinct_none
distinct_push n (x ∷ xs) d h =
    let e = or_false (nat_eq n x) (is_in xs n) h in
    IsDistinct-cons nat_eq x (xs ++ n ∷ []) (all_push n x xs (IsDistinct-head nat_eq x xs d) (eq_turned n x e.0)) (distinct_push n xs (IsDistinct-tail nat_eq x xs d) e.1)

all_without : (n m : ℕ) (xs : List ℕ) → AllByRecursion (λ y. nat_eq m y ≡ false) xs → AllByRecursion (λ y. nat_eq m y ≡ false) (without n xs)
all_without n m [] a = tt
all_without n m (x ∷ xs) a = by_cases (nat_eq n x) (all_without n m xs a.1)
  where
    by_cases : (b : Bool) → AllByRecursion (λ y. nat_eq m y ≡ false) (without n xs) → AllByRecursion (λ y. nat_eq m y ≡ false) (if b then xs else x ∷ without n xs)
    by_cases true r = a.1
    by_cases false r = (a.0, r)

pub distinct_without : (n : ℕ) (xs : List ℕ) → IsDistinct nat_eq xs → IsDistinct nat_eq (without n xs)
distinct_without n [] d = d
distinct_without n (x ∷ xs) d = by_cases (nat_eq n x) (distinct_without n xs (IsDistinct-tail nat_eq x xs d))
  where
    by_cases : (b : Bool) → IsDistinct nat_eq (without n xs) → IsDistinct nat_eq (if b then xs else x ∷ without n xs)
    by_cases true r = IsDistinct-tail nat_eq x xs d
    by_cases false r = IsDistinct-cons nat_eq x (without n xs) (all_without n x xs (IsDistinct-head nat_eq x xs d)) r

-- which numbers are in a ring that changed
pub in_pushed_self : (n : ℕ) (ns : List ℕ) → is_in (ns ++ n ∷ []) n ≡ true
in_pushed_self n [] = rw (eq_self n) refl
in_pushed_self n (m ∷ ns) = or_later (nat_eq n m) _ (in_pushed_self n ns)

pub in_pushed_other : (n q : ℕ) (ns : List ℕ) → nat_eq q n ≡ false → is_in (ns ++ n ∷ []) q ≡ is_in ns q
in_pushed_other n q [] h = rw h refl
in_pushed_other n q (m ∷ ns) h = ap (λ b. nat_eq q m || b) (in_pushed_other n q ns h)

pub in_without_other : (n q : ℕ) (ns : List ℕ) → nat_eq q n ≡ false → is_in (without n ns) q ≡ is_in ns q
in_without_other n q [] h = refl
in_without_other n q (m ∷ ns) h = by_cases (nat_eq n m) refl (in_without_other n q ns h)
  where
    by_cases : (b : Bool) → nat_eq n m ≡ b → is_in (without n ns) q ≡ is_in ns q → is_in (if b then ns else m ∷ without n ns) q ≡ (nat_eq q m || is_in ns q)
    by_cases true e k = let f : nat_eq q m ≡ false = grind (arith, nat_tests, h, eq_same n m e) in rw f refl
    by_cases false e k = ap (λ b. nat_eq q m || b) k

pub in_rest_other : (n q : ℕ) (rest : List ℕ) → nat_eq q n ≡ false → is_in rest q ≡ is_in (n ∷ rest) q
in_rest_other n q rest h = rw h refl

pub not_in_without : (n : ℕ) (ns : List ℕ) → IsDistinct nat_eq ns → is_in (without n ns) n ≡ false
not_in_without n [] d = refl
not_in_without n (m ∷ ns) d = by_cases (nat_eq n m) refl (not_in_without n ns (IsDistinct-tail nat_eq m ns d))
  where
    by_cases : (b : Bool) → nat_eq n m ≡ b → is_in (without n ns) n ≡ false → is_in (if b then ns else m ∷ without n ns) n ≡ false
    by_cases true e h = let same = eq_same n m e in rw same (absent_all m ns (IsDistinct-head nat_eq m ns d))
    by_cases false e h = rw e h

-- a number that is taken out
found_from : (n i at : ℕ) (xs : List ℕ) → Some at ≡ position_from (nat_eq n) i xs → (i ≤ at) × ((at - i < length xs) × (without n xs ≡ remove xs (at - i)))
found_from n i at [] e = cc
found_from n i at (x ∷ xs) e = by_cases (nat_eq n x) (λ f. found_from n (i + 1) at xs f) e
  where
    by_cases : (b : Bool) → (Some at ≡ position_from (nat_eq n) (i + 1) xs → (i + 1 ≤ at) × ((at - (i + 1) < length xs) × (without n xs ≡ remove xs (at - (i + 1))))) → Some at ≡ (if b then Some i else position_from (nat_eq n) (i + 1) xs) → (i ≤ at) × ((at - i < length (x ∷ xs)) × ((if b then xs else x ∷ without n xs) ≡ remove (x ∷ xs) (at - i)))
    by_cases true rest f = let g : at ≡ i = cc in let z : at - i ≡ 0 = omega arith in (omega arith, (omega arith, rw z refl))
    by_cases false rest f =
        let r = rest f in
        let m : at - i ≡ suc (at - (i + 1)) = omega (arith, r.0) in
        (omega (arith, r.0), (omega (arith, r.0, r.1.0), rw m (ap (λ l. x ∷ l) r.1.1)))

pub without_found : (n at : ℕ) (xs : List ℕ) → Some at ≡ position_from (nat_eq n) 0 xs → without n xs ≡ remove xs at
without_found n at xs e = let m : at - 0 ≡ at = omega arith in rw m at ((found_from n 0 at xs e).1.1)

pub found_within : (n at : ℕ) (xs : List ℕ) → Some at ≡ position_from (nat_eq n) 0 xs → at < length xs
found_within n at xs e = omega (arith, (found_from n 0 at xs e).1.0)

absent_from : (n i : ℕ) (xs : List ℕ) → None ≡ position_from (nat_eq n) i xs → without n xs ≡ xs
absent_from n i [] e = refl
absent_from n i (x ∷ xs) e = by_cases (nat_eq n x) (λ f. absent_from n (i + 1) xs f) e
  where
    by_cases : (b : Bool) → (None ≡ position_from (nat_eq n) (i + 1) xs → without n xs ≡ xs) → None ≡ (if b then Some i else position_from (nat_eq n) (i + 1) xs) → (if b then xs else x ∷ without n xs) ≡ x ∷ xs
    by_cases true rest f = cc
    by_cases false rest f = ap (λ l. x ∷ l) (rest f)

pub without_absent : (n : ℕ) (xs : List ℕ) → None ≡ position_from (nat_eq n) 0 xs → without n xs ≡ xs
without_absent n xs e = absent_from n 0 xs e

pub without_missing : (n : ℕ) (xs : List ℕ) → is_in xs n ≡ false → without n xs ≡ xs
without_missing n [] h = refl
without_missing n (x ∷ xs) h = let e = or_false (nat_eq n x) (is_in xs n) h in rw e.0 (ap (λ l. x ∷ l) (without_missing n xs e.1))

-- the ring is no longer than the numbers are many, and shorter where one isn't in it
pub ring_within : (ring ns : List ℕ) → IsDistinct nat_eq ring → ((q : ℕ) → is_in ring q ≡ true → is_in ns q ≡ true) → length ring ≤ length ns
ring_within ring ns d w = length-le_from_is_member nat_eq_equiv ring ns d w

pub pushed_within : (ring ns : List ℕ) (n : ℕ) → ((q : ℕ) → is_in ring q ≡ true → is_in ns q ≡ true) → is_in ns n ≡ true → (q : ℕ) → is_in (ring ++ n ∷ []) q ≡ true → is_in ns q ≡ true
pushed_within ring ns n w there q h = by_cases (nat_eq q n) refl
  where
    by_cases : (b : Bool) → nat_eq q n ≡ b → is_in ns q ≡ true
    by_cases true e = rw (eq_same q n e) there
    by_cases false e = w q (sym (in_pushed_other n q ring e) ∙ h)

pub ring_room : (ring ns : List ℕ) (n : ℕ) → IsDistinct nat_eq ring → ((q : ℕ) → is_in ring q ≡ true → is_in ns q ≡ true) → is_in ring n ≡ false → is_in ns n ≡ true → length ring < length ns
ring_room ring ns n d w absent there =
    let more = length-le_from_is_member nat_eq_equiv (ring ++ n ∷ []) ns (distinct_push n ring d absent) (λ q h. pushed_within ring ns n w there q h) in
    omega (arith, length-append ring (n ∷ []), more)

-- whether a number has a place
missing_from : (n i : ℕ) (xs : List ℕ) → None ≡ position_from (nat_eq n) i xs → is_in xs n ≡ false
missing_from n i [] e = refl
missing_from n i (x ∷ xs) e = by_cases (nat_eq n x) (λ f. missing_from n (i + 1) xs f) e
  where
    by_cases : (b : Bool) → (None ≡ position_from (nat_eq n) (i + 1) xs → is_in xs n ≡ false) → None ≡ (if b then Some i else position_from (nat_eq n) (i + 1) xs) → (b || is_in xs n) ≡ false
    by_cases true rest f = cc
    by_cases false rest f = rest f

pub missing_out : (n : ℕ) (xs : List ℕ) → None ≡ position_from (nat_eq n) 0 xs → is_in xs n ≡ false
missing_out n xs e = missing_from n 0 xs e

there_from : (n i at : ℕ) (xs : List ℕ) → Some at ≡ position_from (nat_eq n) i xs → is_in xs n ≡ true
there_from n i at [] e = cc
there_from n i at (x ∷ xs) e = by_cases (nat_eq n x) (λ f. there_from n (i + 1) at xs f) e
  where
    by_cases : (b : Bool) → (Some at ≡ position_from (nat_eq n) (i + 1) xs → is_in xs n ≡ true) → Some at ≡ (if b then Some i else position_from (nat_eq n) (i + 1) xs) → (b || is_in xs n) ≡ true
    by_cases true rest f = refl
    by_cases false rest f = rest f

pub found_in : (n at : ℕ) (xs : List ℕ) → Some at ≡ position_from (nat_eq n) 0 xs → is_in xs n ≡ true
found_in n at xs e = there_from n 0 at xs e

-- the front is taken off
pub rest_distinct : (o : Option ℕ) (old rest : List ℕ) → old ≡ option_to_list o ++ rest → IsDistinct nat_eq old → IsDistinct nat_eq rest
rest_distinct None old rest e d = subst (λ xs. IsDistinct nat_eq xs) e d
rest_distinct (Some n) old rest e d = IsDistinct-tail nat_eq n rest (subst (λ xs. IsDistinct nat_eq xs) e d)

pub front_once_of : (o : Option ℕ) (old rest : List ℕ) → old ≡ option_to_list o ++ rest → IsDistinct nat_eq old → IfSome o (λ n. is_in rest n ≡ false)
front_once_of None old rest e d = tt
front_once_of (Some n) old rest e d = front_not_in_rest n rest (subst (λ xs. IsDistinct nat_eq xs) e d)
