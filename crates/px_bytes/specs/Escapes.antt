-- Bytes as printable ASCII text, in this project's own spelling.
use Rattle.std.specs.Prelude.{ℕ, Bool, ◌||◌, List, [], ◌∷◌, ◌++◌, flat_map, codes, nat_lt, ◌==◌}
use Rattle.std.specs.Prelude.{if◌then◌else◌}
use Rattle.px_bytes.specs.Hexadecimal.{hex_pair}

-- a byte below a space or above `~`, or `\`
abbrev pub needs_escape : ℕ → Bool
needs_escape byte = nat_lt byte 0x20 || nat_lt 0x7e byte || byte == 0x5c

-- `\x` and the two hexadecimal digits of a byte
abbrev pub digits_escape : ℕ → List ℕ
digits_escape byte = codes "\\x" ++ hex_pair byte

-- a byte that needs it as `\x` and two digits, and each other byte as it is
abbrev pub escaped_byte : ℕ → List ℕ
escaped_byte byte = if needs_escape byte then digits_escape byte else byte ∷ []

-- each byte's escape, in order
abbrev pub escaped : List ℕ → List ℕ
escaped bytes = flat_map escaped_byte bytes
