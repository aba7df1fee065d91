-- Chunk lines: RFC 9112, 7.1, in this profile: 1 to 15 hexadecimal digits, no white space, extensions of any
-- bytes but CR and LF, at most 4,096 bytes.
use Rattle.std.specs.Prelude.{ℕ, ◌+◌, Bool, not, ◌||◌, ◌==◌, List, [], ◌∷◌, take, drop, nat_lt, ◌≤◌, ⊤}
use Rattle.std.specs.Prelude.{if◌then◌else◌}
use Rattle.std.specs.Char.{is_ascii_hexdigit}
use Rattle.std.specs.List.{position_or_len}
use Rattle.std.specs.Str.Parse.{digits_value}
use Rattle.http_frames.specs.declared.chunk_line.Line.{Line}
use Rattle.http_frames.specs.declared.chunk_line.Line.TheVariants.{Whole, Begins, Never}

abbrev pub is_no_digit : ℕ → Bool
is_no_digit byte = not (is_ascii_hexdigit byte)

abbrev pub is_line_end : ℕ → Bool
is_line_end byte = byte == 13 || byte == 10

-- how many digits stand at the front
abbrev pub digits_length : List ℕ → ℕ
digits_length text = position_or_len is_no_digit text

-- `;` and what stands behind it up to a CR or LF
abbrev pub extension_length : List ℕ → ℕ
extension_length [] = 0
extension_length (byte ∷ text) =
    if byte == 59 then 1 + position_or_len is_line_end text else 0

-- digits and extensions
abbrev pub text_length : List ℕ → ℕ
text_length text = digits_length text + extension_length (drop (digits_length text) text)

-- a CRLF at the front of a text: it is there, or the text is the front of one, or neither
pub data Crlf : Type 0 where
  There : List ℕ → Crlf
  Due Other : Crlf

abbrev pub behind_cr : List ℕ → Crlf
behind_cr [] = Due
behind_cr (byte ∷ rest) = if byte == 10 then There rest else Other

abbrev pub crlf : List ℕ → Crlf
crlf [] = Due
crlf (byte ∷ rest) = if byte == 13 then behind_cr rest else Other

-- the line of that text, by what stands behind it
abbrev pub line_by : (size length : ℕ) → Crlf → Line
line_by size length (There rest) = Whole (length + 2) size
line_by size length Due = Begins
line_by size length Other = Never

abbrev pub line_size : List ℕ → ℕ
line_size text = digits_value 16 (take (digits_length text) text)

abbrev pub line_ended : List ℕ → Line
line_ended text =
    if nat_lt 4094 (text_length text) then Never
    else line_by (line_size text) (text_length text) (crlf (drop (text_length text) text))

-- the line at the front of a text: it is there, or the text is the front of one, or neither
abbrev pub line_of : List ℕ → Line
line_of [] = Begins
line_of (byte ∷ text) =
    if digits_length (byte ∷ text) == 0 || nat_lt 15 (digits_length (byte ∷ text)) then Never
    else line_ended (byte ∷ text)

-- a line that is there has two bytes or more, at most 4,096, and no more than there are
abbrev pub IsWithin : ℕ → Line → Type 0
IsWithin size (Whole length n) = (2 ≤ length) × (length ≤ 4096) × (length ≤ size)
IsWithin size Begins = ⊤
IsWithin size Never = ⊤
