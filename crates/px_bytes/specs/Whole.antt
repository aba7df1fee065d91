-- Whole numbers: the integers of Tcl 8.4, expr(n), of 64 bits, written in decimal, octal or
-- hexadecimal.
use Rattle.std.specs.Prelude.{ℕ, ◌+◌, ◌*◌, ◌^◌, Bool, ◌&&◌, List, [], ◌∷◌, length, drop, Option}
use Rattle.std.specs.Prelude.{Some, None, ℤ, pos, neg_ℤ, nat_lt, nat_le, ◌==◌, slice_index}
use Rattle.std.specs.Prelude.{if◌then◌else◌}
use Rattle.std.specs.Char.{digit_value, is_digit}
use Rattle.std.specs.Str.Parse.{starts_with_minus, without_leading_sign}
use Rattle.px_bytes.specs.White.{trimmed}

-- the number that digits write behind those of n; none where one isn't a digit of the radix
abbrev pub digits_behind : ℕ → ℕ → List ℕ → Option ℕ
digits_behind radix n [] = Some n
digits_behind radix n (c ∷ cs) =
    if is_digit c radix then digits_behind radix (n * radix + digit_value c) cs else None

-- the number that one digit or more write
abbrev pub digits : ℕ → List ℕ → Option ℕ
digits radix [] = None
digits radix (c ∷ cs) = digits_behind radix 0 (c ∷ cs)

-- `0x` and hexadecimal digits of either case
abbrev pub is_hexadecimal : List ℕ → Bool
is_hexadecimal text = slice_index text 0 == 48 && slice_index text 1 == 120

-- `0` and further bytes
abbrev pub is_octal : List ℕ → Bool
is_octal text = slice_index text 0 == 48 && nat_lt 1 (length text)

-- a number without sign: `0x` and hexadecimal digits, `0` and octal digits, or decimal digits that
-- don't begin with 0, or `0`
abbrev pub magnitude : List ℕ → Option ℕ
magnitude text =
    if is_hexadecimal text then digits 16 (drop 2 text)
    else (if is_octal text then digits 8 (drop 1 text) else digits 10 text)

-- a number from -2^63 on, below 2^63
abbrev pub negative : ℕ → Option ℤ
negative n = if nat_le n (2 ^ 63) then Some (neg_ℤ (pos n)) else None

abbrev pub positive : ℕ → Option ℤ
positive n = if nat_lt n (2 ^ 63) then Some (pos n) else None

-- a number with its sign, in that range
abbrev pub signed : Bool → Option ℕ → Option ℤ
signed minus None = None
signed minus (Some n) = if minus then negative n else positive n

-- a number behind `-`, `+` or no sign
abbrev pub signed_number : List ℕ → Option ℤ
signed_number text = signed (starts_with_minus text) (magnitude (without_leading_sign text))

-- the whole number that a text spells, with or without white space around it
abbrev pub whole : List ℕ → Option ℤ
whole text = signed_number (trimmed text)

-- a number of 64 bits without sign
abbrev pub fits_64 : Option ℕ → Option ℕ
fits_64 None = None
fits_64 (Some n) = if nat_lt n (2 ^ 64) then Some n else None
