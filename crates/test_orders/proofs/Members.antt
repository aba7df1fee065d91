-- What is among lists that are put together.
use Rattle.std.proofs.Common.{◌≡◌, ◌⊎◌, List, [], ◌∷◌, ◌++◌, map, inl, inr, refl, ap, subst}
use Rattle.std.specs.List.{flat_map}
use Rattle.test_orders.specs.Laws.{Among, Distinct}

module _ {X : Type 0} where
  pub among_either : (x : X) (xs ys : List X) → Among x (xs ++ ys) → Among x xs ⊎ Among x ys
  among_either x [] ys a = inr a
  among_either x (y ∷ xs) ys (inl e) = inl (inl e)
  among_either x (y ∷ xs) ys (inr a) = elim (among_either x xs ys a) [ inl b ↦ inl (inr b) | inr b ↦ inr b ]

  pub among_left : (x : X) (xs ys : List X) → Among x xs → Among x (xs ++ ys)
  among_left x [] ys a = absurd a
  among_left x (y ∷ xs) ys (inl e) = inl e
  among_left x (y ∷ xs) ys (inr a) = inr (among_left x xs ys a)

  pub among_right : (x : X) (xs ys : List X) → Among x ys → Among x (xs ++ ys)
  among_right x [] ys a = a
  among_right x (y ∷ xs) ys a = inr (among_right x xs ys a)

  -- two lists with nothing in common
  pub distinct_both : (xs ys : List X) → Distinct xs → Distinct ys → ((x : X) → Among x xs → Among x ys → ⊥) → Distinct (xs ++ ys)
  distinct_both [] ys p q apart = q
  distinct_both (x ∷ xs) ys p q apart = (
    λ a. elim (among_either x xs ys a) [ inl b ↦ p.0 b | inr b ↦ apart x (inl refl) b ],
    distinct_both xs ys p.1 q (λ y a b. apart y (inr a) b),
  )

module _ {X Y : Type 0} (f : X → Y) where
  pub among_map : (xs : List X) (y : Y) → Among y (map f xs) → (x : X) × Among x xs × (y ≡ f x)
  among_map [] y a = absurd a
  among_map (x ∷ xs) y (inl e) = (x, inl refl, e)
  among_map (x ∷ xs) y (inr a) = let r = among_map xs y a in (r.0, inr r.1, r.2)

  pub map_among : (xs : List X) (x : X) → Among x xs → Among (f x) (map f xs)
  map_among [] x a = absurd a
  map_among (y ∷ xs) x (inl e) = inl (ap f e)
  map_among (y ∷ xs) x (inr a) = inr (map_among xs x a)

  pub distinct_map : ((x y : X) → f x ≡ f y → x ≡ y) → (xs : List X) → Distinct xs → Distinct (map f xs)
  distinct_map apart [] d = tt
  distinct_map apart (x ∷ xs) d =
      (λ a. let r = among_map xs (f x) a in d.0 (rw (apart x r.0 r.2) r.1), distinct_map apart xs d.1)

module _ {X Y : Type 0} (f : X → List Y) where
  pub among_flat : (xs : List X) (y : Y) → Among y (flat_map f xs) → (x : X) × Among x xs × Among y (f x)
  among_flat [] y a = absurd a
  among_flat (x ∷ xs) y a = elim (among_either y (f x) (flat_map f xs) a) [
    | inl b ↦ (x, inl refl, b)
    | inr b ↦ let r = among_flat xs y b in (r.0, inr r.1, r.2)
  ]

  pub flat_among : (xs : List X) (x : X) (y : Y) → Among x xs → Among y (f x) → Among y (flat_map f xs)
  flat_among [] x y b a = absurd b
  flat_among (z ∷ xs) x y (inl e) a = among_left y (f z) (flat_map f xs) (subst (λ w. Among y (f w)) e a)
  flat_among (z ∷ xs) x y (inr b) a = among_right y (f z) (flat_map f xs) (flat_among xs x y b a)
