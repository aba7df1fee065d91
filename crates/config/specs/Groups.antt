-- What is wrong with a data group.
use Rattle.std.specs.Prelude.{ℕ, ◌+◌, ◌==◌, Bool, true, List, [], ◌++◌, Option, Some, None}
use Rattle.std.specs.Prelude.{option_and_then, option_map, if◌then◌else◌}
use Rattle.data_groups.specs.Groups.{Row, is_key}
use Rattle.data_groups.specs.declared.kind.GroupKind.{GroupKind}
use Rattle.data_groups.specs.declared.kind.GroupKind.TheVariants.{String, Ip, Integer}
use Rattle.toml.specs.Data.{Data, Items, no_items, item, Members, as_array, as_str}
use Rattle.config.specs.Keys.{group_keys, group_type, name_key, rows}
use Rattle.config.specs.Names.{once_faults}
use Rattle.config.specs.Places.{item_place}
use Rattle.config.specs.Read.{array_at, chosen}
use Rattle.config.specs.Tables.{faults_of, keys_faults, unknown_faults}
use Rattle.config.specs.Values.{judged}
use Rattle.config.specs.declared.fault.ConfigFault.{ConfigFault}
use Rattle.config.specs.declared.fault.ConfigFaultKind.{ConfigFaultKind}

-- the kind of the keys, by the place of its word
abbrev pub kind_at : ℕ → GroupKind
kind_at at = if at == 0 then String else (if at == 1 then Ip else Integer)

abbrev pub group_kind : Members → Option GroupKind
group_kind ms = option_map kind_at (chosen group_type ms)

abbrev pub row_with : Option (List ℕ) → Option (List ℕ) → Option Row
row_with (Some key) (Some value) = Some (key, value)
row_with (Some key) None = None
row_with None value = None

-- one or two texts; a value that isn't there is empty
abbrev pub row_in : Items → Option Row
row_in no_items = None
row_in (item k no_items) = row_with (as_str k) (Some [])
row_in (item k (item v no_items)) = row_with (as_str k) (as_str v)
row_in (item k (item v (item d ds))) = None

abbrev pub row_of : Data → Option Row
row_of d = option_and_then row_in (as_array d)

-- keys are judged where the kind is known
abbrev pub key_fits : Option GroupKind → Row → Bool
key_fits None row = true
key_fits (Some kind) row = is_key kind row.0

abbrev pub row_flaw : Option GroupKind → Data → Option ConfigFaultKind
row_flaw kind d = judged (option_map (key_fits kind) (row_of d))

abbrev pub rows_from : Option GroupKind → List ℕ → ℕ → Items → List ConfigFault
rows_from kind prefix at no_items = []
rows_from kind prefix at (item d ds) =
    faults_of (item_place prefix rows.name at) (row_flaw kind d)
    ++ rows_from kind prefix (at + 1) ds

abbrev pub rows_of : Option GroupKind → List ℕ → Option Items → List ConfigFault
rows_of kind prefix None = []
rows_of kind prefix (Some ds) = rows_from kind prefix 0 ds

-- the keys of its table, then its rows
abbrev pub group_faults : (groups : List ℕ → Option ℕ) → List ℕ → ℕ → Members → List ConfigFault
group_faults groups prefix at ms =
    keys_faults prefix group_keys ms
    ++ (unknown_faults prefix group_keys ms
    ++ (once_faults groups at prefix name_key ms
    ++ rows_of (group_kind ms) prefix (array_at rows ms)))
