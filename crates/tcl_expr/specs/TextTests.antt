-- The test of a text by a part, as a value: the iRules operator `contains`.
use Rattle.std.specs.Prelude.{ℕ, List, Bool, nat_eq}
use Rattle.std.specs.List.{starts_with}
use Rattle.px_bytes.specs.GlobTest.{some_end}

-- the text has the part somewhere; each text has the empty one
abbrev pub contains : List ℕ → List ℕ → Bool
contains text part = some_end (λ end. starts_with nat_eq end part) text
