-- The bytes that the servers of a connection took.
use Rattle.std.specs.Prelude.{ℕ, List, [], ◌∷◌}

-- those of the last server connection changed
abbrev pub on_last : (List ℕ → List ℕ) → List (List ℕ) → List (List ℕ)
on_last f [] = []
on_last f (x ∷ []) = f x ∷ []
on_last f (x ∷ y ∷ more) = x ∷ on_last f (y ∷ more)
