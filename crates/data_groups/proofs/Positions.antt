-- The first place that passes a test, in a list that grows, and by two tests that agree.
use Rattle.std.proofs.Common.{◌≡◌, ℕ, suc, ◌+◌, ◌<◌, ◌≤◌, Bool, true, false, not, cond}
use Rattle.std.proofs.Common.{List, [], ◌∷◌, ◌++◌, Option, Some, None, length, take, get_or}
use Rattle.std.proofs.Common.{sym, refl, ap, ◌∙◌, arith, option_map}
use Rattle.std.proofs.Common.{inl, inr, ⊎_elim}
use Rattle.std.specs.Prelude.{nat_lt, slice_get}
use Rattle.std.specs.List.{position, position_or_len}
use Rattle.std.specs.Option.{option_or}
use Rattle.std.proofs.lemmas.Bool.{cases_lt, lt-ltb}
use Rattle.std.proofs.lemmas.Bool.Decides.{nat_tests}
use Rattle.std.proofs.lemmas.List.Quantifiers.{position-Some}
use Rattle.std.proofs.lemmas.List.Sums.{fails_before_first, prefix_len-le-length}
use Rattle.std.proofs.lemmas.Option.{get_or_from_slice_get, slice_get_cases}
use Rattle.px_bytes.proofs.Positions.{no_position}
use Rattle.std.proofs.lemmas.List.{take_more, length-take-le}

-- ---- the first place, by recursion
first_passes : (n : ℕ) → nat_lt 0 (suc n) ≡ true
first_passes n = lt-ltb 0 (suc n) (omega arith)

lifted_test : (m n : ℕ) → nat_lt (1 + m) (suc n) ≡ nat_lt m n
lifted_test m n = grind (arith, nat_tests)

lifted : (b : Bool) (m : ℕ) → cond b (Some (1 + m)) None ≡ option_map suc (cond b (Some m) None)
lifted true m = ap Some (omega arith)
lifted false m = refl

module _ {X : Type 0} (p : X → Bool) where
  abbrev found_at : ℕ → ℕ → Option ℕ
  found_at m n = cond (nat_lt m n) (Some m) None

  pub position-cons : (x : X) (xs : List X) → position p (x ∷ xs) ≡ cond (p x) (Some 0) (option_map suc (position p xs))
  position-cons x xs =
      let m = position_or_len p xs in
      let n = length xs in
      elim (p x) as (λ b. found_at (cond (not b) (1 + m) 0) (suc n) ≡ cond b (Some 0) (option_map suc (found_at m n))) [
        | true ↦ ap (λ b. cond b (Some 0) None) (first_passes n)
        | false ↦ ap (λ b. cond b (Some (1 + m)) None) (lifted_test m n) ∙ lifted (nat_lt m n) m
      ]

  -- one more element
  pushed : (b c : Bool) (o : Option ℕ) (n : ℕ) → cond b (Some 0) (option_map suc (option_or o (cond c (Some n) None)))
      ≡ option_or (cond b (Some 0) (option_map suc o)) (cond c (Some (suc n)) None)
  pushed true c o n = refl
  pushed false c (Some k) n = refl
  pushed false true None n = refl
  pushed false false None n = refl

  pub position-push : (xs : List X) (y : X) → position p (xs ++ y ∷ []) ≡ option_or (position p xs) (cond (p y) (Some (length xs)) None)
  position-push [] y = position-cons y []
  position-push (x ∷ xs) y =
      position-cons x (xs ++ y ∷ []) ∙ ap (λ o. cond (p x) (Some 0) (option_map suc o)) (position-push xs y)
      ∙ pushed (p x) (p y) (position p xs) (length xs)
      ∙ ap (λ o. option_or o (cond (p y) (Some (suc (length xs))) None)) (sym (position-cons x xs))

  pub position-more : (xs : List X) (i : ℕ) (d : X) → i < length xs
      → position p (take (i + 1) xs) ≡ option_or (position p (take i xs)) (cond (p (get_or xs i d)) (Some i) None)
  position-more xs i d inside =
      ap (position p) (take_more xs i d inside) ∙ position-push (take i xs) (get_or xs i d)
      ∙ ap (λ n. option_or (position p (take i xs)) (cond (p (get_or xs i d)) (Some n) None)) (length-take-le i xs (omega arith))

  -- where the first place of a front is known, it is that of all
  pub front_settles : (xs ys : List X) (at : ℕ) → position p xs ≡ Some at → position p (xs ++ ys) ≡ Some at
  front_settles [] ys at found = cc
  front_settles (x ∷ xs) ys at found =
      let P : Bool → Type 0 = λ b. cond b (Some 0) (option_map suc (position p xs)) ≡ Some at
      → cond b (Some 0) (option_map suc (position p (xs ++ ys))) ≡ Some at in
      position-cons x (xs ++ ys) ∙ elim (p x) as P [
        | true ↦ λ e. e
        | false ↦ λ e. elim (position p xs) as (λ o. position p xs ≡ o → option_map suc o ≡ Some at → option_map suc (position p (xs ++ ys)) ≡ Some at) [
          | None ↦ λ _ e. cc
          | Some k ↦ λ h e. ap (option_map suc) (front_settles xs ys k h) ∙ e
        ] refl e
      ] (sym (position-cons x xs) ∙ found)

  -- where an element that passes can stand
  pub not_before : (xs : List X) (at i : ℕ) (x : X) → position p xs ≡ Some at → slice_get xs i ≡ Some x → p x ≡ true → at ≤ i
  not_before xs at i x found stands passed =
      let same = ap p (get_or_from_slice_get xs i x x stands) in
      ⊎_elim (λ before. let no = (position-Some p xs at x found).2 i before in cc) (λ behind. behind) (cases_lt i at)

  pub not_absent : (xs : List X) (i : ℕ) (x : X) → position p xs ≡ None → slice_get xs i ≡ Some x → p x ≡ true → ⊥
  not_absent xs i x none stands passed =
      let same = ap p (get_or_from_slice_get xs i x x stands) in
      let whole = no_position _ _ _ (prefix_len-le-length _ xs) refl none in
      elim (slice_get_cases xs i).1 [
        | inl c ↦ let no = fails_before_first p xs i x (omega arith) in cc
        | inr c ↦ let gone = c.1 in cc
      ]

-- no element passes
pub position-never : {X : Type 0} (xs : List X) → position (λ (x : X). false) xs ≡ None
position-never [] = refl
position-never (x ∷ xs) = position-cons (λ y. false) x xs ∙ ap (option_map suc) (position-never xs)

-- tests that agree on each element
pub position-same : {X : Type 0} (p q : X → Bool) → ((x : X) → p x ≡ q x) → (xs : List X) → position p xs ≡ position q xs
position-same p q same [] = refl
position-same p q same (x ∷ xs) =
    position-cons p x xs ∙ ap (λ b. cond b (Some 0) (option_map suc (position p xs))) (same x)
    ∙ ap (λ o. cond (q x) (Some 0) (option_map suc o)) (position-same p q same xs) ∙ sym (position-cons q x xs)
