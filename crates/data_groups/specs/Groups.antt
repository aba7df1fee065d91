-- Data groups (iRules: `class`): rows of a key and a value, of one kind of keys.
use Rattle.std.specs.Prelude.{◌≡◌, ℕ, Bool, true, not, is_some, List, Option, None, Some, position}
use Rattle.std.specs.Prelude.{Result, Ok, Err}
use Rattle.px_bytes.specs.Whole.{whole}
use Rattle.tcl_encodings.specs.Addresses.{network_of}
use Rattle.data_groups.specs.declared.fault.GroupFault.{GroupFault}
use Rattle.data_groups.specs.declared.fault.GroupFault.TheVariants.{BadKey, Memory}
use Rattle.data_groups.specs.declared.kind.GroupKind.{GroupKind}
use Rattle.data_groups.specs.declared.kind.GroupKind.TheVariants.{String, Ip, Integer}

-- a key and its value
abbrev pub Row : Type 0
Row = List ℕ × List ℕ

-- the rows stand in the order of the file
pub record DataGroup : Type 0 where
  pub kind : GroupKind
  pub rows : List Row

-- which texts are keys: any text, a network or an address, a whole number
abbrev pub is_key : GroupKind → List ℕ → Bool
is_key String key = true
is_key Ip key = is_some (network_of key)
is_key Integer key = is_some (whole key)

-- the place of the first row whose key isn't of the kind
abbrev pub bad_key : GroupKind → List Row → Option ℕ
bad_key kind rows = position (λ row. not (is_key kind row.0)) rows

-- the group of these rows, or the place of the first bad key; out of memory says nothing
abbrev pub MakesGroup : GroupKind → List Row → Result DataGroup GroupFault → Type 0
MakesGroup kind rows (Ok group) =
    (group ≡ record { kind = kind; rows = rows }) × (bad_key kind rows ≡ None)
MakesGroup kind rows (Err (BadKey at)) = bad_key kind rows ≡ Some at
MakesGroup kind rows (Err Memory) = Unit {0}
