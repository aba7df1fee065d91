-- The commands `URI::encode` and `URI::decode` (iRules): percent-encoding of RFC 3986, 2.1.
use Rattle.std.specs.Prelude.{◌≡◌, ◌<◌, ℕ, ◌+◌, ◌/◌, ◌%◌, Bool, true, ◌||◌, ◌==◌, List, [], ◌∷◌}
use Rattle.std.specs.Prelude.{length, flat_map, codes, Result, if◌then◌else◌}
use Rattle.std.specs.Char.{is_ascii_alphanumeric}
use Rattle.std.specs.Fmt.{digit_glyph}
use Rattle.percent_encoding.specs.Percent.{percent_decode}
use Rattle.px_bytes.specs.declared.fault.TclFault.{TclFault}
use Rattle.px_bytes.specs.Limit.{limited}
use Rattle.tcl_encodings.specs.Words.{of_one_word}

-- the unreserved characters of RFC 3986, 2.3: letters, digits, `-`, `.`, `_` and `~`
abbrev pub is_unreserved : ℕ → Bool
is_unreserved byte =
    is_ascii_alphanumeric byte || ((byte == 45 || byte == 46) || (byte == 95 || byte == 126))

-- `%` and the two hexadecimal digits of a byte, which 2.1 asks in upper case
abbrev pub escape : ℕ → List ℕ
escape byte = 37 ∷ digit_glyph true (byte / 16) ∷ digit_glyph true (byte % 16) ∷ []

abbrev pub escaped_byte : ℕ → List ℕ
escaped_byte byte = if is_unreserved byte then byte ∷ [] else escape byte

-- the text with each byte escaped that isn't unreserved
abbrev pub escaped : List ℕ → List ℕ
escaped text = flat_map escaped_byte text

abbrev pub uri_encode_value : List (List ℕ) → Result (List ℕ) TclFault
uri_encode_value arguments =
    of_one_word (codes "URI::encode") (λ text. limited (escaped text)) arguments

-- Each `%` that two hexadecimal digits of either case follow is replaced, with them, by the byte
-- that they write. Any other `%` stays, and what stands for a `%` begins no escape.
abbrev pub uri_decode_value : List (List ℕ) → Result (List ℕ) TclFault
uri_decode_value arguments =
    of_one_word (codes "URI::decode") (λ text. limited (percent_decode text)) arguments

-- the text decodes to one byte and what is behind it
pub record GivesOneByte (text behind : List ℕ) : Type 0 where
  pub one_more : length (percent_decode text) ≡ length (percent_decode behind) + 1
  pub shorter : length behind < length text
