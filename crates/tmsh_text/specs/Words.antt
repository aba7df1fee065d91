-- How a key or a value is printed: as it is where it is a plain token, else in quotes.
use Rattle.std.specs.Prelude.{ℕ, ◌==◌, Bool, not, ◌&&◌, ◌||◌, nat_lt, List, [], ◌∷◌, flat_map, length}
use Rattle.std.specs.Prelude.{codes, if◌then◌else◌}
use Rattle.std.specs.List.{list_all}
use Rattle.px_bytes.specs.Hexadecimal.{hex_text}
use Rattle.tmsh_read.specs.Tokens.{is_mark}
use Rattle.tmsh_text.specs.Items.{joined}

abbrev pub is_plain : List ℕ → Bool
is_plain text = list_all (λ byte. not (is_mark byte)) text

-- a quote and a backslash stand behind a backslash, and what no terminal prints in hexadecimal
abbrev pub quoted_byte : ℕ → List ℕ
quoted_byte byte =
    if byte == 34 || byte == 92 then 92 ∷ byte ∷ []
    else (if nat_lt byte 32 || byte == 127
    then joined (codes "\\x" ∷ hex_text (byte ∷ []) ∷ []) else byte ∷ [])

abbrev pub quoted_bytes : List ℕ → List ℕ
quoted_bytes bytes = flat_map quoted_byte bytes

abbrev pub quoted : List ℕ → List ℕ
quoted text = joined (codes "\"" ∷ quoted_bytes text ∷ codes "\"" ∷ [])

abbrev pub word : List ℕ → List ℕ
word text = if not (length text == 0) && is_plain text then text else quoted text
