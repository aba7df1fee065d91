-- What a `%` of a format asks for: Tcl 8.4, format(n), for the conversions `s`, `d`, `x`, `X`, `o`
-- and `c`, the flags `-` and `0`, and a width of at most 1,000.
use Rattle.std.specs.Prelude.{ℕ, ◌+◌, ℤ, pos, negsuc, Bool, ◌||◌, ◌&&◌, List, [], ◌∷◌, take, drop}
use Rattle.std.specs.Prelude.{Option, Some, None, ◌==◌, nat_le, if◌then◌else◌}
use Rattle.std.specs.List.{list_any, prefix_len}
use Rattle.px_bytes.specs.Whole.{whole}
use Rattle.tcl_strings.specs.declared.conversion.Letter.{Letter}
use Rattle.tcl_strings.specs.declared.conversion.Letter.TheVariants.{Text, Decimal, LowerHex}
use Rattle.tcl_strings.specs.declared.conversion.Letter.TheVariants.{UpperHex, Octal, Byte}
use Rattle.tcl_strings.specs.declared.conversion.Item.{Item}
use Rattle.tcl_strings.specs.declared.conversion.Item.TheVariants.{Percent, Asks, TooWide, Unknown}

-- `-` and `0`
abbrev pub is_flag : ℕ → Bool
is_flag byte = byte == 45 || byte == 48

abbrev pub is_digit_byte : ℕ → Bool
is_digit_byte byte = nat_le 48 byte && nat_le byte 57

-- "any of the following flag characters"
abbrev pub flags : List ℕ → List ℕ
flags text = take (prefix_len is_flag text) text

abbrev pub behind_flags : List ℕ → List ℕ
behind_flags text = drop (prefix_len is_flag text) text

-- "a number giving a minimum field width", and what stands behind it
abbrev pub width_digits : List ℕ → List ℕ
width_digits text = take (prefix_len is_digit_byte (behind_flags text)) (behind_flags text)

abbrev pub behind_width : List ℕ → List ℕ
behind_width text = drop (prefix_len is_digit_byte (behind_flags text)) (behind_flags text)

abbrev pub width_by : Option ℤ → Option ℕ
width_by (Some (pos n)) = if nat_le n 1000 then Some n else None
width_by (Some (negsuc n)) = None
width_by None = None

-- the width that digits give; none where it is above 1,000
abbrev pub width_of : List ℕ → Option ℕ
width_of [] = Some 0
width_of (d ∷ ds) = width_by (whole (d ∷ ds))

-- what a byte converts a value to
abbrev pub letter_of : ℕ → Option Letter
letter_of byte =
    if byte == 115 then Some Text
    else (if byte == 100 then Some Decimal
    else (if byte == 120 then Some LowerHex
    else (if byte == 88 then Some UpperHex
    else (if byte == 111 then Some Octal
    else (if byte == 99 then Some Byte
    else None)))))

-- a byte that converts nothing
abbrev pub other_byte : Option ℕ → ℕ → Item
other_byte (Some n) byte = if byte == 37 then Percent else Unknown
other_byte None byte = Unknown

abbrev pub asks : List ℕ → Option Letter → Option ℕ → ℕ → Item
asks given (Some l) (Some n) byte = Asks (record {
  letter = l;
  left = list_any (λ b. b == 45) given;
  zeros = list_any (λ b. b == 48) given;
  width = n;
})
asks given (Some l) None byte = TooWide
asks given None n byte = other_byte n byte

-- the flags, the width, and the byte of the conversion
abbrev pub item_by : List ℕ → Option ℕ → List ℕ → Item
item_by given n [] = Unknown
item_by given n (byte ∷ more) = asks given (letter_of byte) n byte

-- what is asked for behind a `%`
abbrev pub item_of : List ℕ → Item
item_of text = item_by (flags text) (width_of (width_digits text)) (behind_width text)

-- how many bytes that takes, where the text doesn't end before
abbrev pub item_len : List ℕ → ℕ
item_len text = prefix_len is_flag text + prefix_len is_digit_byte (behind_flags text) + 1
