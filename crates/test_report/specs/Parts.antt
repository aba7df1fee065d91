-- Parts of a report.
use Rattle.std.specs.Prelude.{ℕ, ◌&&◌, nat_le, Bool, List, [], ◌∷◌, codes, flat_map, if◌then◌else◌}
use Rattle.px_bytes.specs.Escapes.{escaped}

abbrev pub joined : List (List ℕ) → List ℕ
joined parts = flat_map (λ part. part) parts

-- from a space to `~`
abbrev pub is_printable : ℕ → Bool
is_printable byte = nat_le 32 byte && nat_le byte 126

abbrev pub ascii_byte : ℕ → List ℕ
ascii_byte byte = if is_printable byte then byte ∷ [] else escaped (byte ∷ [])

-- printable bytes as they are, each other one as `\x` and two digits
abbrev pub ascii : List ℕ → List ℕ
ascii bytes = flat_map ascii_byte bytes

abbrev pub ascii_line : (before line : List ℕ) → List ℕ
ascii_line before line = joined (before ∷ ascii line ∷ codes "\n" ∷ [])

abbrev pub ascii_lines : (before : List ℕ) → List (List ℕ) → List ℕ
ascii_lines before lines = flat_map (ascii_line before) lines
