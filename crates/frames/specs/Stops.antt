-- The numbers of a path.
use Rattle.std.specs.Prelude.{ℕ, List, [], ◌∷◌}
use Rattle.frames.specs.declared.stops.Numbers.{Numbers}
use Rattle.frames.specs.declared.stops.Numbers.TheVariants as numbers

abbrev pub numbers_of : Numbers → List ℕ
numbers_of numbers.None = []
numbers_of (numbers.One first) = first ∷ []
numbers_of (numbers.Two first second) = first ∷ second ∷ []
