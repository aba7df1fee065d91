-- The bytes under which a key is found without going through the rows: keys that equal the same
-- items have the same bytes.
use Rattle.std.specs.Prelude.{◌≡◌, ℕ, ℤ, ◌/◌, ◌-◌, ◌^◌, false, List, ◌∷◌, Option, Some, None}
use Rattle.std.specs.Prelude.{Result, Ok, Err, option_map, position, if◌then◌else◌}
use Rattle.std.specs.Int.{cast_unsigned, to_be_bytes, w32, w64}
use Rattle.std.specs.Map.{lookup}
use Rattle.std.specs.Option.{option_map_or, option_or}
use Rattle.std.specs.Str.{bytes_eq}
use Rattle.px_bytes.specs.Whole.{whole}
use Rattle.px_bytes.specs.declared.addr.Net4.{Net4}
use Rattle.tcl_encodings.specs.Addresses.{network_of}
use Rattle.data_groups.specs.Groups.{Row, bad_key}
use Rattle.data_groups.specs.declared.fault.GroupFault.{GroupFault}
use Rattle.data_groups.specs.declared.fault.GroupFault.TheVariants.{BadKey, Memory}
use Rattle.data_groups.specs.declared.kind.GroupKind.{GroupKind}
use Rattle.data_groups.specs.declared.kind.GroupKind.TheVariants.{String, Ip, Integer}

-- the bytes of a number
abbrev pub number_bytes : ℤ → List ℕ
number_bytes number = to_be_bytes w64 (cast_unsigned w64 number)

-- how many bits count, and the number that they are
abbrev pub prefix_bytes : ℕ → ℕ → List ℕ
prefix_bytes bits ip = bits ∷ to_be_bytes w32 (ip / 2 ^ (32 - bits))

abbrev pub network_bytes : Net4 → List ℕ
network_bytes net = prefix_bytes net.bits net.ip

-- the bytes of a key of a kind
abbrev pub key_bytes : GroupKind → List ℕ → Option (List ℕ)
key_bytes String key = Some key
key_bytes Ip key = option_map network_bytes (network_of key)
key_bytes Integer key = option_map number_bytes (whole key)

-- the place of the first row whose key has these bytes
abbrev pub first_with : GroupKind → List Row → List ℕ → Option ℕ
first_with kind rows bytes =
    position (λ row. option_map_or (bytes_eq bytes) (key_bytes kind row.0) false) rows

-- keys by their bytes, with places
abbrev pub KeyPlaces : Type 0
KeyPlaces = List (List ℕ × ℕ)

abbrev pub place_of : KeyPlaces → List ℕ → Option ℕ
place_of places bytes = lookup (bytes_eq bytes) places

-- what is found with one key more: the place that was found before, and else the new one
abbrev pub with_place : KeyPlaces → List ℕ → ℕ → List ℕ → Option ℕ
with_place places bytes at asked =
    option_or (place_of places asked) (if bytes_eq asked bytes then Some at else None)

-- the places of all rows, whose keys are of the kind; or the place of the first that isn't
abbrev pub IndexesRows : GroupKind → List Row → Result KeyPlaces GroupFault → Type 0
IndexesRows kind rows (Ok places) =
    ((bytes : List ℕ) → place_of places bytes ≡ first_with kind rows bytes)
    × (bad_key kind rows ≡ None)
IndexesRows kind rows (Err (BadKey at)) = bad_key kind rows ≡ Some at
IndexesRows kind rows (Err Memory) = Unit {0}
