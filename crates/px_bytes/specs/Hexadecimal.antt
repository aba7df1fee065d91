-- Bytes in hexadecimal. The digits are base16 of RFC 4648, 8, in lower case; `-` for no bytes is
-- this project's own.
use Rattle.std.specs.Prelude.{ℕ, ◌/◌, ◌%◌, List, [], ◌∷◌, flat_map, codes}
use Rattle.std.specs.Char.{digit_char}

-- the two hexadecimal digits of a byte, in lower case
abbrev pub hex_pair : ℕ → List ℕ
hex_pair byte = digit_char (byte / 16) ∷ digit_char (byte % 16) ∷ []

-- two digits for each byte, and `-` for no bytes
abbrev pub hex_text : List ℕ → List ℕ
hex_text [] = codes "-"
hex_text (byte ∷ more) = flat_map hex_pair (byte ∷ more)
