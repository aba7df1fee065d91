-- What is wrong with the keys of a table.
use Rattle.std.specs.Prelude.{ℕ, Bool, List, [], ◌∷◌, ◌++◌, Option, Some, None, flat_map}
use Rattle.std.specs.Prelude.{if◌then◌else◌}
use Rattle.std.specs.List.{list_any}
use Rattle.std.specs.Str.{bytes_eq}
use Rattle.toml.specs.Data.{Data, Members, no_members, member, get_member}
use Rattle.config.specs.Faults.{fault_at}
use Rattle.config.specs.Keys.{TableKey}
use Rattle.config.specs.Places.{key_place}
use Rattle.config.specs.Values.{flaw}
use Rattle.config.specs.declared.fault.ConfigFault.{ConfigFault}
use Rattle.config.specs.declared.fault.ConfigFaultKind.{ConfigFaultKind}
use Rattle.config.specs.declared.fault.ConfigFaultKind.TheVariants.{UnknownKey, WrongKind}

-- a key that is required must be there
abbrev pub flaw_of : TableKey → Option Data → Option ConfigFaultKind
flaw_of key None = if key.required then Some WrongKind else None
flaw_of key (Some d) = flaw key.kind d

abbrev pub key_flaw : TableKey → Members → Option ConfigFaultKind
key_flaw key ms = flaw_of key (get_member key.name ms)

abbrev pub faults_of : List ℕ → Option ConfigFaultKind → List ConfigFault
faults_of place None = []
faults_of place (Some kind) = fault_at kind place ∷ []

abbrev pub key_faults : List ℕ → Members → TableKey → List ConfigFault
key_faults prefix ms key = faults_of (key_place prefix key.name) (key_flaw key ms)

-- in the order of the keys
abbrev pub keys_faults : List ℕ → List TableKey → Members → List ConfigFault
keys_faults prefix keys ms = flat_map (key_faults prefix ms) keys

abbrev pub is_known : List TableKey → List ℕ → Bool
is_known keys name = list_any (λ key. bytes_eq key.name name) keys

abbrev pub unknown_at : List ℕ → List TableKey → List ℕ → List ConfigFault
unknown_at prefix keys name =
    if is_known keys name then [] else fault_at UnknownKey (key_place prefix name) ∷ []

-- in the order of their bytes, in which a table's members stand
abbrev pub unknown_faults : List ℕ → List TableKey → Members → List ConfigFault
unknown_faults prefix keys no_members = []
unknown_faults prefix keys (member name d ms) =
    unknown_at prefix keys name ++ unknown_faults prefix keys ms
