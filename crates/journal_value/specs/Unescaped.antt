-- Escapes of the notes' logged texts read back.
use Rattle.std.specs.Prelude.{ℕ, ◌+◌, ◌*◌, ◌-◌, ◌%◌, List, [], ◌∷◌, ◌==◌, nat_lt, if◌then◌else◌}

-- the number of a hexadecimal digit in lower case
abbrev pub nibble : ℕ → ℕ
nibble digit = (digit - (if nat_lt digit 97 then 48 else 87)) % 16

-- each `\x` with two digits as its byte, and each other byte as it is
abbrev pub unescaped : List ℕ → List ℕ
unescaped (byte ∷ (x ∷ (high ∷ (low ∷ rest)))) =
    if byte == 92 then (16 * nibble high + nibble low) ∷ unescaped rest
    else byte ∷ unescaped (x ∷ (high ∷ (low ∷ rest)))
unescaped (byte ∷ rest) = byte ∷ unescaped rest
unescaped [] = []
