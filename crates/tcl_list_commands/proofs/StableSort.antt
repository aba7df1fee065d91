-- A stable sort by an order gives one list: the one that insertion gives.
use Rattle.std.proofs.Common.{◌≡◌, ℕ, zero, suc, ◌+◌, ◌<◌, Bool, true, false, not, ◌&&◌, cond, List}
use Rattle.std.proofs.Common.{[], ◌∷◌, length, get_or, refl, ap, ap₂, sym, subst, ◌∙◌, arith}
use Rattle.std.specs.Cmp.{IsStrictWeakOrder}
use Rattle.std.specs.List.{filter}
use Rattle.std.specs.List.Sorted.{IsPermutation, IsSortedBy, IsStableBy, ties}
use Rattle.std.specs.Ordering.{is_lt}
use Rattle.std.specs.declared.cmp.Ordering.{Ordering}
use Rattle.std.proofs.lemmas.Bool.{false≢true}
use Rattle.std.proofs.lemmas.List.Sorted.{sorted_far, IsPermutation-cons, IsPermutation-middle}
use Rattle.std.proofs.lemmas.List.Sorted.{IsPermutation-refl, IsPermutation-trans}
use Rattle.tcl_list_commands.specs.Sorted.{inserted, sorted}

-- TESTS

both : (s t : Bool) → (not s && not t) ≡ true → (s ≡ false) × (t ≡ false)
both false false h = (refl, refl)
both false true h = absurd (false≢true h)
both true t h = absurd (false≢true h)

cons_tail : {X : Type 0} (t : Bool) (y : X) (a b : List X) → cond t (y ∷ a) a ≡ cond t (y ∷ b) b → a ≡ b
cons_tail true y a b e = cc
cons_tail false y a b e = e

swapped : {X : Type 0} (s t : Bool) (y z : X) (l : List X) → (s ≡ true → t ≡ true → ⊥) → cond t (z ∷ cond s (y ∷ l) l) (cond s (y ∷ l) l) ≡ cond s (y ∷ cond t (z ∷ l) l) (cond t (z ∷ l) l)
swapped true true y z l never = absurd (never refl refl)
swapped true false y z l never = refl
swapped false true y z l never = refl
swapped false false y z l never = refl

module _ {X : Type 0} (compared : X → X → Ordering) (o : IsStrictWeakOrder (λ x y. is_lt (compared x y))) where
  abbrev below : X → X → Bool
  below x y = is_lt (compared x y)

  -- no item of the list is below this one
  abbrev Low : X → List X → Type 0
  Low x [] = Unit {0}
  Low x (y ∷ ys) = (below y x ≡ false) × Low x ys

  abbrev Ordered : List X → Type 0
  Ordered [] = Unit {0}
  Ordered (x ∷ xs) = Low x xs × Ordered xs

  itself_by : (x : X) (t : Bool) → below x x ≡ t → below x x ≡ false
  itself_by x true e = absurd (false≢true (sym (o.one_way x x e) ∙ e))
  itself_by x false e = e

  itself : (x : X) → ties below x x ≡ true
  itself x = let e = itself_by x (below x x) refl in ap₂ (λ s t. not s && not t) e e

  lower : (x y : X) (ys : List X) → below y x ≡ false → Low y ys → Low x ys
  lower x y [] e low = tt
  lower x y (z ∷ zs) e low = (o.chain z y x low.0 e, lower x y zs e low.1)

  -- INSERTION

  low_by : (x y z : X) (zs more : List X) (s : Bool) → below y x ≡ false → below z x ≡ false → Low x zs → Low x more → Low x (cond s (z ∷ more) (y ∷ (z ∷ zs)))
  low_by x y z zs more true e f low other = (f, other)
  low_by x y z zs more false e f low other = (e, (f, low))

  low_inserted : (x y : X) (ys : List X) → below y x ≡ false → Low x ys → Low x (inserted compared y ys)
  low_inserted x y [] e low = (e, tt)
  low_inserted x y (z ∷ zs) e low = low_by x y z zs (inserted compared y zs) (below z y) e low.0 low.1 (low_inserted x y zs e low.1)

  ordered_by : (x y : X) (ys : List X) (s : Bool) → below y x ≡ s → Low y ys → Ordered ys → Ordered (inserted compared x ys) → Ordered (cond s (y ∷ inserted compared x ys) (x ∷ (y ∷ ys)))
  ordered_by x y ys true e low up more = (low_inserted y x ys (o.one_way y x e) low, more)
  ordered_by x y ys false e low up more = ((e, lower x y ys e low), (low, up))

  ordered_inserted : (x : X) (ys : List X) → Ordered ys → Ordered (inserted compared x ys)
  ordered_inserted x [] up = (tt, tt)
  ordered_inserted x (y ∷ ys) up = ordered_by x y ys (below y x) refl up.0 up.1 (ordered_inserted x ys up.1)

  sorted_ordered : (xs : List X) → Ordered (sorted compared xs)
  sorted_ordered [] = tt
  sorted_ordered (x ∷ xs) = ordered_inserted x (sorted compared xs) (sorted_ordered xs)

  not_both : (x y z : X) → below z y ≡ true → ties below x y ≡ true → ties below x z ≡ true → ⊥
  not_both x y z e p q =
      let first = both (below x y) (below y x) p in
      let second = both (below x z) (below z x) q in
      false≢true (sym (o.chain z x y second.1 first.0) ∙ e)

  stable_by : (x y z : X) (zs : List X) (s : Bool) → below z y ≡ s → filter (ties below x) (inserted compared y zs) ≡ filter (ties below x) (y ∷ zs)
      → filter (ties below x) (cond s (z ∷ inserted compared y zs) (y ∷ (z ∷ zs))) ≡ filter (ties below x) (y ∷ (z ∷ zs))
  stable_by x y z zs true e same =
      ap (λ l. cond (ties below x z) (z ∷ l) l) same ∙ swapped (ties below x y) (ties below x z) y z (filter (ties below x) zs) (not_both x y z e)
  stable_by x y z zs false e same = refl

  stable_inserted : (x y : X) (ys : List X) → filter (ties below x) (inserted compared y ys) ≡ filter (ties below x) (y ∷ ys)
  stable_inserted x y [] = refl
  stable_inserted x y (z ∷ zs) = stable_by x y z zs (below z y) refl (stable_inserted x y zs)

  sorted_stable : (x : X) (xs : List X) → filter (ties below x) (sorted compared xs) ≡ filter (ties below x) xs
  sorted_stable x [] = refl
  sorted_stable x (y ∷ ys) = stable_inserted x y (sorted compared ys) ∙ ap (λ l. cond (ties below x y) (y ∷ l) l) (sorted_stable x ys)

  -- ONE LIST

  strictly : (x y w : X) (t : Bool) → below x w ≡ t → below x y ≡ true → below w y ≡ false → below x w ≡ true
  strictly x y w true e p q = e
  strictly x y w false e p q = absurd (false≢true (sym (o.chain x w y e q) ∙ p))

  no_tie : (x w : X) (l : List X) → below x w ≡ true → cond (ties below x w) (w ∷ l) l ≡ l
  no_tie x w l e = ap (λ s. cond (not s && not (below w x)) (w ∷ l) l) e

  none_tie : (x y : X) (ws : List X) → below x y ≡ true → Low y ws → filter (ties below x) ws ≡ []
  none_tie x y [] e low = refl
  none_tie x y (w ∷ ws) e low = no_tie x w (filter (ties below x) ws) (strictly x y w (below x w) refl e low.0) ∙ none_tie x y ws e low.1

  kept_first : (x y : X) (l : List X) → ties below x y ≡ true → cond (ties below x y) (y ∷ l) l ≡ y ∷ l
  kept_first x y l e = ap (λ t. cond t (y ∷ l) l) e

  not_below_by : (y z : X) (ys zs : List X) (t : Bool) → below y z ≡ t → Low z zs → filter (ties below y) (y ∷ ys) ≡ filter (ties below y) (z ∷ zs) → below y z ≡ false
  not_below_by y z ys zs true e low same =
      let none : filter (ties below y) (z ∷ zs) ≡ [] = no_tie y z (filter (ties below y) zs) e ∙ none_tie y z zs e low in
      let some : y ∷ filter (ties below y) ys ≡ [] = sym (kept_first y y (filter (ties below y) ys) (itself y)) ∙ same ∙ none in
      cc
  not_below_by y z ys zs false e low same = e

  heads : (y z : X) (ys zs : List X) → ties below y z ≡ true → filter (ties below y) (y ∷ ys) ≡ filter (ties below y) (z ∷ zs) → y ≡ z
  heads y z ys zs tie same =
      let e : y ∷ filter (ties below y) ys ≡ z ∷ filter (ties below y) zs = sym (kept_first y y (filter (ties below y) ys) (itself y)) ∙ same ∙ kept_first y z (filter (ties below y) zs) tie in
      cc

  one_list : (ys zs : List X) → Ordered ys → Ordered zs → ((x : X) → filter (ties below x) ys ≡ filter (ties below x) zs) → ys ≡ zs
  one_list [] [] up other same = refl
  one_list [] (z ∷ zs) up other same =
      let e : [] ≡ z ∷ filter (ties below z) zs = same z ∙ kept_first z z (filter (ties below z) zs) (itself z) in cc
  one_list (y ∷ ys) [] up other same =
      let e : y ∷ filter (ties below y) ys ≡ [] = sym (kept_first y y (filter (ties below y) ys) (itself y)) ∙ same y in cc
  one_list (y ∷ ys) (z ∷ zs) up other same =
      let p = not_below_by y z ys zs (below y z) refl other.0 (same y) in
      let q = not_below_by z y zs ys (below z y) refl up.0 (sym (same z)) in
      let tie : ties below y z ≡ true = ap₂ (λ s t. not s && not t) p q in
      let first : y ≡ z = heads y z ys zs tie (same y) in
      let rest : ys ≡ zs = one_list ys zs up.1 other.1 (λ x. cons_tail (ties below x z) z _ _ (ap (λ w. cond (ties below x w) (w ∷ filter (ties below x) ys) (filter (ties below x) ys)) (sym first) ∙ same x)) in
      ap₂ (λ h t. h ∷ t) first rest

  -- WHAT A SORT ENSURES

  tail_sorted : (y : X) (ys : List X) → IsSortedBy below (y ∷ ys) → IsSortedBy below ys
  tail_sorted y ys up k d l h =
      let next : suc k + 1 ≡ suc (k + 1) = omega arith in
      subst (λ n. below (get_or (y ∷ ys) n d) (get_or ys k d) ≡ false) next (up (suc k) d (omega arith) (omega arith))

  low_from : (x : X) (ys : List X) → ((j : ℕ) (d : X) → j < length ys → below (get_or ys j d) x ≡ false) → Low x ys
  low_from x [] all = tt
  low_from x (y ∷ ys) all = (all 0 y (omega arith), low_from x ys (λ j d l. all (suc j) d (omega arith)))

  ordered_from : (ys : List X) → IsSortedBy below ys → Ordered ys
  ordered_from [] up = tt
  ordered_from (y ∷ ys) up =
      (low_from y ys (λ j d l. sorted_far below o (y ∷ ys) up 0 (suc j) d (omega arith) (omega arith)), ordered_from ys (tail_sorted y ys up))

  sorted_from : (ys : List X) → Ordered ys → IsSortedBy below ys
  sorted_from [] up k d l h = absurd (omega arith)
  sorted_from (y ∷ []) up k d l h = absurd (omega arith)
  sorted_from (y ∷ (z ∷ zs)) up zero d l h = up.0.0
  sorted_from (y ∷ (z ∷ zs)) up (suc k) d l h =
      let next : suc (k + 1) ≡ suc k + 1 = omega arith in
      subst (λ n. below (get_or (y ∷ (z ∷ zs)) n d) (get_or (z ∷ zs) k d) ≡ false) next (sorted_from (z ∷ zs) up.1 k d (omega arith) (omega arith))

  -- this list is in order, and equals keep theirs
  pub sorted_is_ordered : (xs : List X) → IsSortedBy below (sorted compared xs)
  sorted_is_ordered xs = sorted_from (sorted compared xs) (sorted_ordered xs)

  pub sorted_is_stable : (xs : List X) → IsStableBy below xs (sorted compared xs)
  sorted_is_stable xs x = sorted_stable x xs

  -- a stable sort gives this list
  pub stable_sorted : (xs ys : List X) → IsSortedBy below ys → IsStableBy below xs ys → ys ≡ sorted compared xs
  stable_sorted xs ys up stable = one_list ys (sorted compared xs) (ordered_from ys up) (sorted_ordered xs) (λ x. stable x ∙ sym (sorted_stable x xs))

-- IT HAS THE SAME ITEMS

module _ {X : Type 0} (compared : X → X → Ordering) where
  inserted_by : (x y : X) (ys more : List X) (t : Bool) → IsPermutation (x ∷ ys) more → IsPermutation (x ∷ (y ∷ ys)) (cond t (y ∷ more) (x ∷ (y ∷ ys)))
  inserted_by x y ys more true same = IsPermutation-trans _ _ _ (IsPermutation-middle (x ∷ []) y ys) (IsPermutation-cons y (x ∷ ys) more same)
  inserted_by x y ys more false same = IsPermutation-refl (x ∷ (y ∷ ys))

  inserted_same : (x : X) (ys : List X) → IsPermutation (x ∷ ys) (inserted compared x ys)
  inserted_same x [] = IsPermutation-refl (x ∷ [])
  inserted_same x (y ∷ ys) = inserted_by x y ys (inserted compared x ys) (is_lt (compared y x)) (inserted_same x ys)

  pub sorted_same : (xs : List X) → IsPermutation xs (sorted compared xs)
  sorted_same [] = IsPermutation-refl []
  sorted_same (x ∷ xs) = IsPermutation-trans _ _ _ (IsPermutation-cons x xs (sorted compared xs) (sorted_same xs)) (inserted_same x (sorted compared xs))
