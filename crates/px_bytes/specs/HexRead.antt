-- Hexadecimal read back: base16 of RFC 4648, 8, in either case.
use Rattle.std.specs.Prelude.{◌≡◌, ◌<◌, ℕ, ◌+◌, ◌*◌, ◌&&◌, List, [], ◌∷◌, Option, Some, None}
use Rattle.std.specs.Prelude.{option_map, if◌then◌else◌}
use Rattle.std.specs.Char.{digit_value, is_digit}
use Rattle.std.specs.List.{All}
use Rattle.px_bytes.specs.Hexadecimal.{hex_text}

-- the byte of two digits
abbrev pub hex_byte : ℕ → ℕ → Option ℕ
hex_byte high low =
    if is_digit high 16 && is_digit low 16 then Some (16 * digit_value high + digit_value low) else None

-- a byte before others, where both are there
abbrev pub byte_before : Option ℕ → Option (List ℕ) → Option (List ℕ)
byte_before None bytes = None
byte_before (Some byte) bytes = option_map (λ more. byte ∷ more) bytes

-- the bytes of pairs of digits; none where the last has no second
abbrev pub hex_pairs : List ℕ → Option (List ℕ)
hex_pairs [] = Some []
hex_pairs (high ∷ []) = None
hex_pairs (high ∷ (low ∷ more)) = byte_before (hex_byte high low) (hex_pairs more)

-- the bytes of one pair or more
abbrev pub hex_bytes : List ℕ → Option (List ℕ)
hex_bytes [] = None
hex_bytes (high ∷ more) = hex_pairs (high ∷ more)

-- the text of bytes, of which there is one or more, was read as these bytes
abbrev pub ReadsPrinted : List ℕ → Option (List ℕ) → Type 0
ReadsPrinted text read = (first : ℕ) (more : List ℕ) → All (λ byte. byte < 256) (first ∷ more)
    → text ≡ hex_text (first ∷ more) → read ≡ Some (first ∷ more)
