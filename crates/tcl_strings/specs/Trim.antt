-- Bytes that are taken off the ends of a text: Tcl 8.4, string(n), `string trim`, `string
-- trimleft`, `string trimright`.
use Rattle.std.specs.Prelude.{ℕ, ◌-◌, Bool, List, [], ◌∷◌, ◌++◌, codes, length, take, drop}
use Rattle.std.specs.List.{prefix_len, suffix_len}

-- without "any leading characters" of a set, which is given by a test
abbrev pub trimmed_left : (ℕ → Bool) → List ℕ → List ℕ
trimmed_left test text = drop (prefix_len test text) text

-- without "any trailing characters" of it
abbrev pub trimmed_right : (ℕ → Bool) → List ℕ → List ℕ
trimmed_right test text = take (length text - suffix_len test text) text

-- without "any leading or trailing characters" of it
abbrev pub trimmed : (ℕ → Bool) → List ℕ → List ℕ
trimmed test text = trimmed_right test (trimmed_left test text)

-- "If chars is not specified then white space is removed": blank, tab, newline, vertical tab, form
-- feed and carriage return
abbrev pub white : List ℕ
white = codes " \t\n" ++ 11 ∷ 12 ∷ 13 ∷ []
