-- Which line of a record tells something.
use Rattle.std.specs.Prelude.{ℕ, ◌+◌, List, [], ◌∷◌, slice_get, Option, if◌then◌else◌}
use Rattle.table_mirror.specs.Plans.{is_comment}

-- the numbers of the lines that aren't skipped, of those from this number on
abbrev pub numbers_told : (line : ℕ) → List (List ℕ) → List ℕ
numbers_told line [] = []
numbers_told line (text ∷ lines) =
    if is_comment text then numbers_told (line + 1) lines else line ∷ numbers_told (line + 1) lines

-- the line that tells the thing of a place, the first line being 1 and the first place 0
abbrev pub number_told : List (List ℕ) → ℕ → Option ℕ
number_told lines place = slice_get (numbers_told 1 lines) place
