-- What is wrong with a rule, but for its text.
use Rattle.std.specs.Prelude.{ℕ, Bool, List, [], ◌∷◌, ◌++◌, Option, is_some, if◌then◌else◌}
use Rattle.toml.specs.Data.{Members, get_member}
use Rattle.config.specs.Faults.{fault_at}
use Rattle.config.specs.Keys.{TableKey, name_key, rule_file, rule_keys, rule_text}
use Rattle.config.specs.Names.{once_faults}
use Rattle.config.specs.Places.{key_place}
use Rattle.config.specs.Tables.{keys_faults, unknown_faults}
use Rattle.config.specs.declared.fault.ConfigFault.{ConfigFault}
use Rattle.config.specs.declared.fault.ConfigFaultKind.TheVariants.{Range}

abbrev pub has : TableKey → Members → Bool
has key ms = is_some (get_member key.name ms)

-- both or neither of `text` and `file`
abbrev pub source_faults : List ℕ → Members → List ConfigFault
source_faults prefix ms =
    if has rule_text ms
    then (if has rule_file ms then fault_at Range (key_place prefix rule_text.name) ∷ [] else [])
    else (if has rule_file ms then [] else fault_at Range (key_place prefix rule_text.name) ∷ [])

abbrev pub rule_faults : (rules : List ℕ → Option ℕ) → List ℕ → ℕ → Members → List ConfigFault
rule_faults rules prefix at ms =
    keys_faults prefix rule_keys ms
    ++ (unknown_faults prefix rule_keys ms
    ++ (once_faults rules at prefix name_key ms ++ source_faults prefix ms))
