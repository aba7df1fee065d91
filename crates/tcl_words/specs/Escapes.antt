-- Backslash substitution. Each character has a number, and a value is a list of bytes, in which the
-- character numbered n below 256 is the byte n.
use Rattle.std.specs.Prelude.{ℕ, zero, suc, ◌+◌, ◌-◌, ◌*◌, ◌%◌, List, length, slice_index, Bool}
use Rattle.std.specs.Prelude.{◌&&◌, ◌==◌, nat_lt, nat_le, if◌then◌else◌}
use Rattle.tcl_words.specs.Places.{stands}
use Rattle.tcl_words.specs.Skips.{spaces_end}

-- a hexadecimal digit's value, and 16 for any other byte
unfoldable pub digit : ℕ → ℕ
digit b =
    if nat_le 48 b && nat_le b 57 then b - 48
    else (if nat_le 97 b && nat_le b 102 then b - 87
    else (if nat_le 65 b && nat_le b 70 then b - 55 else 16))

unfoldable pub is_digit : ℕ → List ℕ → ℕ → Bool
is_digit base text at = nat_lt at (length text) && nat_lt (digit (slice_index text at)) base

-- one more digit; the low 16 bits are kept
unfoldable pub with_digit : ℕ → ℕ → ℕ → ℕ
with_digit base number b = (number * base + digit b) % 65536

-- the number that n digits or fewer spell, as many as there are, and the place after them
unfoldable pub digits : ℕ → List ℕ → ℕ → ℕ → ℕ → ℕ × ℕ
digits base text zero at number = (number, at)
digits base text (suc n) at number =
    if is_digit base text at
    then digits base text n (at + 1) (with_digit base number (slice_index text at))
    else (number, at)

-- `\a \b \f \n \r \t \v`; "the backslash is dropped" before any other character
unfoldable pub letter : ℕ → ℕ
letter b =
    if b == 97 then 7
    else (if b == 98 then 8
    else (if b == 102 then 12
    else (if b == 110 then 10
    else (if b == 114 then 13
    else (if b == 116 then 9
    else (if b == 118 then 11 else b))))))

-- `\ooo`: one to three octal digits; `\xhh`: "any number of hexadecimal digits may be present;
-- however, all but the last two are ignored"; `\uhhhh`: one to four hexadecimal digits
unfoldable pub after_backslash : List ℕ → ℕ → ℕ × ℕ
after_backslash text at =
    if is_digit 8 text at then digits 8 text 3 at 0
    else (if stands text at 120 && is_digit 16 text (at + 1)
    then (let d = digits 16 text (length text) (at + 1) 0 in (d.0 % 256, d.1))
    else (if stands text at 117 && is_digit 16 text (at + 1) then digits 16 text 4 (at + 1) 0
    else (if nat_lt at (length text) then (letter (slice_index text at), at + 1) else (92, at))))

-- `\<newline>whiteSpace`: "a single space character replaces the backslash, newline, and all spaces
-- and tabs after the newline"
unfoldable pub escape : List ℕ → ℕ → ℕ × ℕ
escape text at =
    if stands text (at + 1) 10 then (32, spaces_end text (at + 2))
    else after_backslash text (at + 1)

-- the number of one character, and the place after it
unfoldable pub unit : List ℕ → ℕ → ℕ × ℕ
unit text at = if stands text at 92 then escape text at else (slice_index text at, at + 1)
