-- What is wrong with a pool and with its members.
use Rattle.std.specs.Prelude.{ℕ, ◌+◌, List, [], ◌∷◌, ◌++◌, Option, Some, None}
use Rattle.toml.specs.Data.{Items, no_items, item, Members, as_table}
use Rattle.config.specs.Faults.{fault_at}
use Rattle.config.specs.Keys.{addr, member_keys, members, name_key, pool_keys}
use Rattle.config.specs.Names.{once_faults}
use Rattle.config.specs.Places.{item_place, prefix_of}
use Rattle.config.specs.Read.{array_at, member_count}
use Rattle.config.specs.Tables.{keys_faults, unknown_faults}
use Rattle.config.specs.Texts.{first_place}
use Rattle.config.specs.declared.fault.ConfigFault.{ConfigFault}
use Rattle.config.specs.declared.version.Version.{Version}
use Rattle.config.specs.declared.fault.ConfigFaultKind.TheVariants.{WrongKind}

-- of the member at this place of the array, whose address is none of those before
abbrev pub member_faults : Version → (own : List ℕ → Option ℕ) → List ℕ → ℕ → Members
    → List ConfigFault
member_faults version own prefix at ms =
    keys_faults prefix (member_keys version) ms
    ++ (unknown_faults prefix (member_keys version) ms ++ once_faults own at prefix addr ms)

abbrev pub member_at : Version → (own : List ℕ → Option ℕ) → List ℕ → ℕ → Option Members
    → List ConfigFault
member_at version own place at None = fault_at WrongKind place ∷ []
member_at version own place at (Some ms) = member_faults version own (prefix_of place) at ms

abbrev pub members_from : Version → (own : List ℕ → Option ℕ) → List ℕ → ℕ → Items
    → List ConfigFault
members_from version own prefix at no_items = []
members_from version own prefix at (item d ds) =
    member_at version own (item_place prefix members.name at) at (as_table d)
    ++ members_from version own prefix (at + 1) ds

abbrev pub members_of : Version → List ℕ → Option Items → List ConfigFault
members_of version prefix None = []
members_of version prefix (Some ds) =
    members_from version (first_place (Some addr.name) ds) prefix 0 ds

abbrev pub pool_keys_faults : Version → List ℕ → Members → List ConfigFault
pool_keys_faults version prefix ms =
    keys_faults prefix (pool_keys version (member_count ms)) ms
    ++ unknown_faults prefix (pool_keys version (member_count ms)) ms

-- the keys of its table, then its members
abbrev pub pool_faults : Version → (pools : List ℕ → Option ℕ) → List ℕ → ℕ → Members
    → List ConfigFault
pool_faults version pools prefix at ms =
    pool_keys_faults version prefix ms
    ++ (once_faults pools at prefix name_key ms ++ members_of version prefix (array_at members ms))
