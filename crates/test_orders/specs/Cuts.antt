-- How the texts that a test sends may be cut.
use Rattle.std.specs.Prelude.{ℕ, zero, suc, ◌+◌, ◌-◌, ◌==◌, List, [], ◌∷◌, ◌++◌, map, take, drop, if◌then◌else◌}
use Rattle.test_orders.specs.declared.cut.Cut.{Cut}
use Rattle.test_orders.specs.declared.cut.Cut.TheVariants.{Whole, Bytes, At}

-- so many places of a text, from one on
abbrev pub places_from : (send place : ℕ) → ℕ → List Cut
places_from send place zero = []
places_from send place (suc more) = At send place ∷ places_from send (place + 1) more

-- every place in every text, which has bytes on both sides; the texts are told by their lengths
abbrev pub places_in : ℕ → List ℕ → List Cut
places_in send [] = []
places_in send (length ∷ lengths) = places_from send 1 (length - 1) ++ places_in (send + 1) lengths

-- all texts whole, all byte by byte, and each of them cut at each place
abbrev pub cuts : List ℕ → List Cut
cuts lengths = Whole ∷ (Bytes ∷ places_in 0 lengths)

-- the text, if it has a byte
abbrev pub unless_empty : List ℕ → List (List ℕ)
unless_empty [] = []
unless_empty bytes = bytes ∷ []

abbrev pub at_place : ℕ → List ℕ → List (List ℕ)
at_place place bytes = unless_empty (take place bytes) ++ unless_empty (drop place bytes)

-- the pieces of the text of a number, by a cut; none is empty
abbrev pub pieces : Cut → ℕ → List ℕ → List (List ℕ)
pieces Whole send bytes = unless_empty bytes
pieces Bytes send bytes = map (λ byte. byte ∷ []) bytes
pieces (At cut place) send bytes = if cut == send then at_place place bytes else unless_empty bytes
