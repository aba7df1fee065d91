-- A list with the first element that passes a test changed, by the place that was found.
use Rattle.std.proofs.Common.{◌≡◌, ℕ, suc, ◌+◌, ◌<◌, Bool, true, false, not, ◌||◌, cond, List}
use Rattle.std.proofs.Common.{[], ◌∷◌}
use Rattle.std.proofs.Common.{Some, None, length, get_or, sym, refl, ap, ◌∙◌, arith}
use Rattle.std.proofs.Math.ListN.{set}
use Rattle.std.specs.Prelude.{find, slice_get}
use Rattle.std.specs.List.{list_any, position, position_or_len}
use Rattle.std.proofs.lemmas.List.Folds.{find_at}
use Rattle.std.proofs.lemmas.List.Sums.{prefix_len-le-length}
use Rattle.std.proofs.lemmas.Option.{slice_get_past}
use Rattle.px_bytes.proofs.Positions.{at_position, no_position}
use Rattle.px_bytes.specs.First.{with_first}

module _ {X : Type 0} (test : X → Bool) where
  abbrev first : List X → ℕ
  first xs = position_or_len test xs

  changed_first : (change : X → X) (xs : List X) (d : X) → first xs < length xs → with_first test change xs ≡ set xs (first xs) (change (get_or xs (first xs) d))
  changed_first change [] d inside = absurd (omega arith)
  changed_first change (x ∷ xs) d inside =
      elim (test x) as (λ b. cond (not b) (1 + first xs) 0 < suc (length xs)
      → cond b (change x ∷ xs) (x ∷ with_first test change xs) ≡ set (x ∷ xs) (cond (not b) (1 + first xs) 0) (change (get_or (x ∷ xs) (cond (not b) (1 + first xs) 0) d))) [
        | true ↦ λ h. refl
        | false ↦ λ h. let shape : 1 + first xs ≡ suc (first xs) = omega arith in
            rw shape (ap (λ ys. x ∷ ys) (changed_first change xs d (omega arith)))
      ] inside

  unchanged : (change : X → X) (xs : List X) → first xs ≡ length xs → with_first test change xs ≡ xs
  unchanged change [] none = refl
  unchanged change (x ∷ xs) none =
      elim (test x) as (λ b. cond (not b) (1 + first xs) 0 ≡ suc (length xs) → cond b (change x ∷ xs) (x ∷ with_first test change xs) ≡ x ∷ xs) [
        | true ↦ λ h. absurd (omega arith)
        | false ↦ λ h. ap (λ ys. x ∷ ys) (unchanged change xs (omega arith))
      ] none

  any_first : (xs : List X) → first xs < length xs → list_any test xs ≡ true
  any_first [] inside = absurd (omega arith)
  any_first (x ∷ xs) inside =
      elim (test x) as (λ b. cond (not b) (1 + first xs) 0 < suc (length xs) → (b || list_any test xs) ≡ true) [
        | true ↦ λ h. refl
        | false ↦ λ h. any_first xs (omega arith)
      ] inside

  any_none : (xs : List X) → first xs ≡ length xs → list_any test xs ≡ false
  any_none [] none = refl
  any_none (x ∷ xs) none =
      elim (test x) as (λ b. cond (not b) (1 + first xs) 0 ≡ suc (length xs) → (b || list_any test xs) ≡ false) [
        | true ↦ λ h. absurd (omega arith)
        | false ↦ λ h. any_none xs (omega arith)
      ] none

  -- by the place that `position` found
  pub record At (xs : List X) (at : ℕ) : Type 0 where
    pub changed : (change : X → X) (x : X) → get_or xs at x ≡ x → with_first test change xs ≡ set xs at (change x)
    pub any : list_any test xs ≡ true
    pub found : find test xs ≡ slice_get xs at

  pub at_first : (xs : List X) (at : ℕ) → position test xs ≡ Some at → At xs at
  at_first xs at found =
      let is = at_position _ at (first xs) (length xs) refl found in
      record {
        changed = λ change x here. changed_first change xs x is.1 ∙ ap (λ k. set xs k (change (get_or xs k x))) (sym is.0) ∙ ap (λ y. set xs at (change y)) here;
        any = any_first xs is.1;
        found = find_at test xs ∙ ap (slice_get xs) (sym is.0);
      }

  pub record Nowhere (xs : List X) : Type 0 where
    pub same : (change : X → X) → with_first test change xs ≡ xs
    pub none : list_any test xs ≡ false
    pub not_found : find test xs ≡ None

  pub nowhere : (xs : List X) → position test xs ≡ None → Nowhere xs
  nowhere xs none =
      let end = no_position _ (first xs) (length xs) (prefix_len-le-length _ xs) refl none in
      record {
        same = λ change. unchanged change xs end;
        none = any_none xs end;
        not_found = find_at test xs ∙ ap (slice_get xs) end ∙ slice_get_past xs (length xs) (omega arith);
      }
