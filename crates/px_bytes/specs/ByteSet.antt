-- Sets of bytes.
use Rattle.std.specs.Prelude.{ℕ, Bool, false, List, ◌==◌, slice_index_or}
use Rattle.std.specs.List.{list_any}

-- the byte is one of these
abbrev pub is_among : List ℕ → ℕ → Bool
is_among bytes byte = list_any (λ other. other == byte) bytes

-- the flag of the byte
abbrev pub has_byte : List Bool → ℕ → Bool
has_byte set byte = slice_index_or set byte false
