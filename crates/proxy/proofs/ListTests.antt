-- Tests over lists.
use Rattle.std.proofs.Common.{◌≡◌, refl, sym, ap, ◌∙◌, ℕ, zero, suc, ◌+◌, List, [], ◌∷◌, drop, map, Bool, true, ◌&&◌, Option, Some, None, option_map, arith}
use Rattle.std.specs.List.{list_all}
use Rattle.std.specs.Prelude.{is_none, slice_get}

pub all_map : {A B : Type 0} (p : B → Bool) (f : A → B) (xs : List A) → list_all p (map f xs) ≡ list_all (λ x. p (f x)) xs
all_map p f [] = refl
all_map p f (x ∷ xs) = ap (λ b. p (f x) && b) (all_map p f xs)

module _ {A : Type 0} (p : A → Bool) where
  -- behind the last one nothing is left
  pub all_past : (xs : List A) (i : ℕ) → option_map p (slice_get xs i) ≡ None → list_all p (drop i xs) ≡ true
  all_past [] zero e = refl
  all_past [] (suc i) e = refl
  all_past (x ∷ xs) zero e = absurd (cc)
  all_past (x ∷ xs) (suc i) e = all_past xs i e

  -- those from a place on
  pub all_next : (xs : List A) (i : ℕ) (b : Bool) → option_map p (slice_get xs i) ≡ Some b → list_all p (drop i xs) ≡ (b && list_all p (drop (i + 1) xs))
  all_next [] zero b e = absurd (cc)
  all_next [] (suc i) b e = absurd (cc)
  all_next (x ∷ xs) zero b e = let same : p x ≡ b = cc in ap (λ c. c && list_all p xs) same
  all_next (x ∷ xs) (suc i) b e =
      let next : suc i + 1 ≡ suc (i + 1) = omega arith in
      all_next xs i b e ∙ sym (ap (λ n. b && list_all p (drop n (x ∷ xs))) next)

  pub none_of : (o : Option A) → is_none o ≡ true → option_map p o ≡ None
  none_of None e = refl
  none_of (Some x) e = absurd (cc)
