-- How a format writes a value: Tcl 8.4, format(n).
use Rattle.std.specs.Prelude.{ℕ, suc, ◌-◌, ℤ, pos, negsuc, true, false, ◌&&◌, not, List, []}
use Rattle.std.specs.Prelude.{◌∷◌, ◌++◌, length, replicate, Option, Some, None, nat_lt}
use Rattle.std.specs.Prelude.{if◌then◌else◌}
use Rattle.std.specs.Fmt.{decimal, radix_digits}
use Rattle.px_bytes.specs.Whole.{whole}
use Rattle.tcl_strings.specs.declared.conversion.Conversion.{Conversion}
use Rattle.tcl_strings.specs.declared.conversion.Letter.{Letter}
use Rattle.tcl_strings.specs.declared.conversion.Letter.TheVariants.{Text, Decimal, LowerHex}
use Rattle.tcl_strings.specs.declared.conversion.Letter.TheVariants.{UpperHex, Octal, Byte}
use Rattle.tcl_strings.specs.Field.{Field, byte, value, missing, unknown}

-- how many bytes are wanting to the width
abbrev pub wanting : Conversion → List ℕ → ℕ
wanting c text = c.width - length text

-- padded to the width "by adding extra spaces on the left"; `-` "specifies that the converted
-- argument should be left-justified in its field"
abbrev pub in_width : Conversion → List ℕ → List ℕ
in_width c text =
    if c.left then text ++ replicate (wanting c text) 32 else replicate (wanting c text) 32 ++ text

-- `0` "specifies that the number should be padded on the left with zeroes", behind its sign; where
-- it is at the left, there are none
abbrev pub number_in_width : Conversion → List ℕ → List ℕ → List ℕ
number_in_width c sign digits =
    if c.zeros && not c.left then sign ++ replicate (wanting c (sign ++ digits)) 48 ++ digits
    else in_width c (sign ++ digits)

-- the whole number that a value is; where it isn't one, the format is a fault
abbrev pub or_zero : Option ℤ → ℤ
or_zero (Some n) = n
or_zero None = pos 0

abbrev pub number_of : List ℕ → ℤ
number_of text = or_zero (whole text)

abbrev pub sign_of : ℤ → List ℕ
sign_of (pos n) = []
sign_of (negsuc n) = 45 ∷ []

abbrev pub magnitude : ℤ → ℕ
magnitude (pos n) = n
magnitude (negsuc n) = suc n

-- in decimal, in hexadecimal of either case, or in octal
abbrev pub digits_of : Letter → ℕ → List ℕ
digits_of Text n = decimal n
digits_of Decimal n = decimal n
digits_of LowerHex n = radix_digits 16 false n
digits_of UpperHex n = radix_digits 16 true n
digits_of Octal n = radix_digits 8 false n
digits_of Byte n = decimal n

-- the byte of a number, which is one of 0 to 255
abbrev pub byte_of : ℤ → ℕ
byte_of (pos n) = if nat_lt n 256 then n else 0
byte_of (negsuc n) = 0

-- a number by its conversion
abbrev pub number_text : Conversion → Letter → ℤ → List ℕ
number_text c letter n = number_in_width c (sign_of n) (digits_of letter (magnitude n))

abbrev pub value_by : Letter → Conversion → List ℕ → List ℕ
value_by Text c text = in_width c text
value_by Byte c text = in_width c (byte_of (number_of text) ∷ [])
value_by letter c text = number_text c letter (number_of text)

-- the text of a value
abbrev pub value_text : Conversion → List ℕ → List ℕ
value_text c text = value_by c.letter c text

-- the text of a piece
abbrev pub field_text : Field → List ℕ
field_text (byte b) = b ∷ []
field_text (value c text) = value_text c text
field_text missing = []
field_text unknown = []
