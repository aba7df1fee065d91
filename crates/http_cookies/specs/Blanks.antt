-- Optional white space around a text (RFC 9110, 5.6.3).
use Rattle.std.specs.Prelude.{ℕ, ◌-◌, Bool, ◌||◌, ◌==◌, List, length, take, drop}
use Rattle.std.specs.List.{prefix_len, suffix_len}

-- a blank or a tab
abbrev pub is_blank : ℕ → Bool
is_blank byte = byte == 32 || byte == 9

abbrev pub without_first : List ℕ → List ℕ
without_first text = drop (prefix_len is_blank text) text

abbrev pub without_last : List ℕ → List ℕ
without_last text = take (length text - suffix_len is_blank text) text

-- the text without the blanks around it
abbrev pub without_blanks : List ℕ → List ℕ
without_blanks text = without_last (without_first text)
