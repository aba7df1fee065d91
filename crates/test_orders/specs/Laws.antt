-- What the cuts and orders are.
use Rattle.std.specs.Prelude.{◌≡◌, ◌⊎◌, ◌↔◌, ℕ, ◌<◌, ◌==◌, List, [], ◌∷◌, get_or, length}
use Rattle.std.specs.List.{concat, filter}
use Rattle.test_orders.specs.Cuts.{cuts, pieces}
use Rattle.test_orders.specs.Orders.{group_of, numbers_from, orders}
use Rattle.test_orders.specs.declared.cut.Cut.{Cut}
use Rattle.test_orders.specs.declared.cut.Cut.TheVariants.{Whole, Bytes, At}

-- it is one of these
abbrev pub Among : {X : Type 0} → X → List X → Type 0
Among x [] = ⊥
Among x (y ∷ ys) = (x ≡ y) ⊎ Among x ys

-- no two are the same
abbrev pub Distinct : {X : Type 0} → List X → Type 0
Distinct [] = Unit {0}
Distinct (x ∷ xs) = (Among x xs → ⊥) × Distinct xs

-- the place has bytes of that text on both sides
abbrev pub IsCut : List ℕ → Cut → Type 0
IsCut lengths Whole = Unit {0}
IsCut lengths Bytes = Unit {0}
IsCut lengths (At send place) = (send < length lengths) × (0 < place) × (place < get_or lengths send 0)

-- No two cuts are the same, and one is among them exactly where there is such a place.
pub record EachCutOnce (lengths : List ℕ) : Type 0 where
  pub once : Distinct (cuts lengths)
  pub each : (cut : Cut) → Among cut (cuts lengths) ↔ IsCut lengths cut

-- what of each group stands in an order stands there as among the numbers
abbrev pub IsOrder : List ℕ → List ℕ → Type 0
IsOrder groups order = (group : ℕ) → filter (λ n. group_of groups n == group) order
    ≡ filter (λ n. group_of groups n == group) (numbers_from 0 (length groups))

-- No two orders are the same, and one is among them exactly where each group stays in order.
pub record EachOrderOnce (groups : List ℕ) : Type 0 where
  pub once : Distinct (orders groups)
  pub each : (order : List ℕ) → Among order (orders groups) ↔ IsOrder groups order

-- The pieces of a text are that text, and none is empty.
abbrev pub PiecesAreWhole : Type 0
PiecesAreWhole = (cut : Cut) (send : ℕ) (bytes : List ℕ) → (concat (pieces cut send bytes) ≡ bytes)
    × ((piece : List ℕ) → Among piece (pieces cut send bytes) → 0 < length piece)
