-- What is told of a place of a test file.
use Rattle.std.specs.Prelude.{ℕ, List, [], ◌∷◌, ◌++◌, codes}
use Rattle.std.specs.Fmt.{decimal}
use Rattle.text_places.specs.Places.{column_of, line_of}

-- `FILE:LINE:COLUMN: what is wrong`
abbrev pub place_line : (name text : List ℕ) → ℕ → List ℕ → List ℕ
place_line name text place words =
    name ++ codes ":" ++ decimal (line_of text place) ++ codes ":" ++ decimal (column_of text place) ++ codes ": " ++ words ++ 10 ∷ []
