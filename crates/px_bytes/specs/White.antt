-- White space around numbers and between the elements of lists: the six bytes for which C's
-- `isspace` holds, as in Tcl 8.4, expr(n) and lindex(n).
use Rattle.std.specs.Prelude.{ℕ, ◌-◌, Bool, ◌&&◌, ◌||◌, List, length, take, drop, nat_le, ◌==◌}
use Rattle.std.specs.List.{prefix_len, suffix_len}

-- a space, or one of the bytes from 9 to 13: tab, newline, vertical tab, form feed, carriage return
abbrev pub is_space : ℕ → Bool
is_space byte = byte == 32 || (nat_le 9 byte && nat_le byte 13)

-- the text without the white space that it begins with
abbrev pub trimmed_start : List ℕ → List ℕ
trimmed_start text = drop (prefix_len is_space text) text

-- the text without the white space that it ends with
abbrev pub trimmed_end : List ℕ → List ℕ
trimmed_end text = take (length text - suffix_len is_space text) text

-- the text without the white space around it
abbrev pub trimmed : List ℕ → List ℕ
trimmed text = trimmed_end (trimmed_start text)
