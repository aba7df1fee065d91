-- Lists in order.
use Rattle.std.specs.Prelude.{List, [], ◌∷◌, if◌then◌else◌}
use Rattle.std.specs.Ordering.{is_eq, is_lt}
use Rattle.std.specs.declared.cmp.Ordering.{Ordering}

-- an item that stood before all of a list in order, put into its place: behind those below it
abbrev pub inserted : {X : Type 0} → (X → X → Ordering) → X → List X → List X
inserted compared x [] = x ∷ []
inserted compared x (y ∷ ys) =
    if is_lt (compared y x) then y ∷ inserted compared x ys else x ∷ (y ∷ ys)

-- the items in order; those that are equal keep theirs
abbrev pub sorted : {X : Type 0} → (X → X → Ordering) → List X → List X
sorted compared [] = []
sorted compared (x ∷ xs) = inserted compared x (sorted compared xs)

-- of items beside each other that are equal, the last one
abbrev pub last_of_equal : {X : Type 0} → (X → X → Ordering) → List X → List X
last_of_equal compared [] = []
last_of_equal compared (x ∷ []) = x ∷ []
last_of_equal compared (x ∷ (y ∷ ys)) =
    if is_eq (compared x y) then last_of_equal compared (y ∷ ys)
    else x ∷ last_of_equal compared (y ∷ ys)
