-- A list by priority.
use Rattle.std.proofs.Common.{◌≡◌, ℕ, zero, suc, ◌+◌, ◌<◌, Bool, true, false, cond, List, [], ◌∷◌, length, get_or, refl, ap, subst, ◌∙◌, arith}
use Rattle.std.specs.Prelude.{nat_le}
use Rattle.std.specs.List.{filter}
use Rattle.std.specs.List.Sorted.{IsSortedBy, IsPermutation, IsStableBy, ties}
use Rattle.std.proofs.lemmas.Bool.Decides.{nat_tests}
use Rattle.std.proofs.lemmas.List.Sorted.{IsPermutation-refl, IsPermutation-cons, IsPermutation-middle, IsPermutation-sym, IsPermutation-trans}
use Rattle.record_model.specs.Order.{put, by_priority, runs_before}

module _ {A : Type 0} (key : A → ℕ) where
  -- ---- sorted

  abbrev no_later : (g : A) (xs : List A) → Type 0
  no_later g xs = (d : A) → 0 < length xs → (runs_before key) (get_or xs 0 d) g ≡ false

  sorted_cons : (g : A) (xs : List A) → no_later g xs → IsSortedBy (runs_before key) xs → IsSortedBy (runs_before key) (g ∷ xs)
  sorted_cons g xs first rest zero d low high = first d (omega arith)
  sorted_cons g xs first rest (suc k) d low high =
      let next : suc (k + 1) ≡ suc k + 1 = omega arith in
      subst (λ m. (runs_before key) (get_or (g ∷ xs) m d) (get_or (g ∷ xs) (suc k) d) ≡ false) next (rest k d (omega arith) (omega arith))

  sorted_tail : (g : A) (xs : List A) → IsSortedBy (runs_before key) (g ∷ xs) → IsSortedBy (runs_before key) xs
  sorted_tail g xs up k d low high =
      let next : suc k + 1 ≡ suc (k + 1) = omega arith in
      subst (λ m. (runs_before key) (get_or (g ∷ xs) m d) (get_or (g ∷ xs) (suc k) d) ≡ false) next (up (suc k) d (omega arith) (omega arith))

  sorted_first : (g : A) (xs : List A) → IsSortedBy (runs_before key) (g ∷ xs) → no_later g xs
  sorted_first g xs up d some = up zero d (omega arith) (omega arith)

  put_first : (g h : A) (xs : List A) → (runs_before key) h g ≡ false → no_later g xs → no_later g (put key h xs)
  put_first g h [] here there d some = here
  put_first g h (x ∷ xs) here there d some =
      elim (nat_le (key h) (key x)) as (λ b. (runs_before key) (get_or (cond b (h ∷ x ∷ xs) (x ∷ put key h xs)) 0 d) g ≡ false) [
        | true ↦ here
        | false ↦ there d (omega arith)
      ]

  put_sorted : (h : A) (xs : List A) → IsSortedBy (runs_before key) xs → IsSortedBy (runs_before key) (put key h xs)
  put_sorted h [] up = sorted_cons h [] (λ d some. absurd (omega arith)) up
  put_sorted h (x ∷ xs) up =
      elim (nat_le (key h) (key x)) as (λ b. nat_le (key h) (key x) ≡ b → IsSortedBy (runs_before key) (cond b (h ∷ x ∷ xs) (x ∷ put key h xs))) [
        | true ↦ λ le. sorted_cons h (x ∷ xs) (λ d some. grind (arith, nat_tests)) up
        | false ↦ λ gt.
            sorted_cons x (put key h xs) (put_first x h xs (grind (arith, nat_tests)) (sorted_first x xs up)) (put_sorted h xs (sorted_tail x xs up))
      ] refl

  pub all_sorted : (hs : List A) → IsSortedBy (runs_before key) (by_priority key hs)
  all_sorted [] = λ k d low high. absurd (omega arith)
  all_sorted (h ∷ hs) = put_sorted h (by_priority key hs) (all_sorted hs)

  -- ---- each once

  put_once : (h : A) (xs : List A) → IsPermutation (h ∷ xs) (put key h xs)
  put_once h [] = IsPermutation-refl (h ∷ [])
  put_once h (x ∷ xs) =
      elim (nat_le (key h) (key x)) as (λ b. IsPermutation (h ∷ x ∷ xs) (cond b (h ∷ x ∷ xs) (x ∷ put key h xs))) [
        | true ↦ IsPermutation-refl (h ∷ x ∷ xs)
        | false ↦
            IsPermutation-trans (h ∷ x ∷ xs) (x ∷ h ∷ xs) (x ∷ put key h xs)
            (IsPermutation-sym (x ∷ h ∷ xs) (h ∷ x ∷ xs) (IsPermutation-middle (x ∷ []) h xs))
            (IsPermutation-cons x (h ∷ xs) (put key h xs) (put_once h xs))
      ]

  pub all_once : (hs : List A) → IsPermutation hs (by_priority key hs)
  all_once [] = IsPermutation-refl []
  all_once (h ∷ hs) =
      IsPermutation-trans (h ∷ hs) (h ∷ by_priority key hs) (put key h (by_priority key hs))
      (IsPermutation-cons h hs (by_priority key hs) (all_once hs)) (put_once h (by_priority key hs))

  -- ---- stable

  tied : (x h : A) → ties (runs_before key) x h ≡ true → (key x) ≡ (key h)
  tied x h e = grind (arith, nat_tests)

  -- two that don't both pass stand in either order
  either_order : (p : A → Bool) (a b : Bool) (x h : A) (xs ys : List A) → p x ≡ a → p h ≡ b → (a ≡ true → b ≡ true → ⊥)
      → ys ≡ filter p (h ∷ xs) → cond (p x) (x ∷ ys) ys ≡ filter p (h ∷ x ∷ xs)
  either_order p true true x h xs ys is_x is_h not_both same = absurd (not_both refl refl)
  either_order p true false x h xs ys is_x is_h not_both same = grind arith
  either_order p false true x h xs ys is_x is_h not_both same = grind arith
  either_order p false false x h xs ys is_x is_h not_both same = grind arith

  put_stable : (y h : A) (xs : List A) → filter (ties (runs_before key) y) (put key h xs) ≡ filter (ties (runs_before key) y) (h ∷ xs)
  put_stable y h [] = refl
  put_stable y h (x ∷ xs) =
      elim (nat_le (key h) (key x)) as (λ b. nat_le (key h) (key x) ≡ b → filter (ties (runs_before key) y) (cond b (h ∷ x ∷ xs) (x ∷ put key h xs)) ≡ filter (ties (runs_before key) y) (h ∷ x ∷ xs)) [
        | true ↦ λ le. refl
        | false ↦ λ gt.
            either_order (ties (runs_before key) y) _ _ x h xs (filter (ties (runs_before key) y) (put key h xs)) refl refl
            (λ tied_x tied_h. let one = tied y x tied_x in let other = tied y h tied_h in grind (arith, nat_tests))
            (put_stable y h xs)
      ] refl

  with_one : (p : A → Bool) (h : A) (xs ys : List A) → filter p xs ≡ filter p ys → filter p (h ∷ xs) ≡ filter p (h ∷ ys)
  with_one p h xs ys same = ap (λ l. cond (p h) (h ∷ l) l) same

  pub all_stable : (hs : List A) → IsStableBy (runs_before key) hs (by_priority key hs)
  all_stable [] y = refl
  all_stable (h ∷ hs) y =
      put_stable y h (by_priority key hs) ∙ with_one (ties (runs_before key) y) h (by_priority key hs) hs (all_stable hs y)
