-- Tables whose names stand in order, and the bytes of an index.
use Rattle.std.specs.Prelude.{ℕ, List, length, Option, Some, None}
use Rattle.std.specs.List.Sorted.{IsStrictlySortedBy}
use Rattle.std.specs.Ordering.{nat_cmp}
use Rattle.std.specs.Cmp.Lexicographic.{slice_cmp}
use Rattle.std.specs.Map.{keys_of}
use Rattle.tcl_vars.specs.Scopes.{Table, Level, elements}

-- each name once, in the order of the names' bytes
abbrev pub IsInOrder : {X : Type 0} → Table X → Type 0
IsInOrder table = IsStrictlySortedBy (slice_cmp nat_cmp) (keys_of table)

-- the tables in which a variable or an element is found are in order
abbrev pub IsInOrderAt : Level → List ℕ → Option (List ℕ) → Type 0
IsInOrderAt level name None = IsInOrder level.plain
IsInOrderAt level name (Some index) = IsInOrder level.arrays × IsInOrder (elements name level)

-- the bytes of an index
abbrev pub index_bytes : Option (List ℕ) → ℕ
index_bytes None = 0
index_bytes (Some index) = length index
