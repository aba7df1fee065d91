-- A place in a text as an editor counts it: each line but the last ends with a newline, which belongs to it, and lines and
-- the bytes of a line are counted from 1. A place beyond the text is at its end.
use Rattle.std.specs.Prelude.{ℕ, ◌+◌, ◌-◌, ◌==◌, Bool, not, List, length, take, drop}
use Rattle.std.specs.List.{before_first, count_by, suffix_len}

abbrev pub is_newline : ℕ → Bool
is_newline b = b == 10

-- how many bytes stand between the last newline before the place, or the text's beginning, and the place
abbrev pub bytes_before : List ℕ → ℕ → ℕ
bytes_before text at = suffix_len (λ b. not (is_newline b)) (take at text)

-- one more than the newlines before the place
abbrev pub line_of : List ℕ → ℕ → ℕ
line_of text at = 1 + count_by is_newline (take at text)

-- one more than the bytes before the place in its line
abbrev pub column_of : List ℕ → ℕ → ℕ
column_of text at = 1 + bytes_before text at

-- where the line of the place begins
abbrev pub line_start : List ℕ → ℕ → ℕ
line_start text at = length (take at text) - bytes_before text at

-- the line of the place, without its newline
abbrev pub line_at : List ℕ → ℕ → List ℕ
line_at text at = before_first is_newline (drop (line_start text at) text)
