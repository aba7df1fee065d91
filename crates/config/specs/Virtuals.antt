-- What is wrong with a virtual server.
use Rattle.std.specs.Prelude.{ℕ, ◌+◌, Bool, ◌&&◌, ◌==◌, not, false, List, [], ◌∷◌, ◌++◌, Option}
use Rattle.std.specs.Prelude.{Some, None, if◌then◌else◌}
use Rattle.std.specs.Option.{option_map_or}
use Rattle.toml.specs.Data.{Items, no_items, item, Members, as_str}
use Rattle.config.specs.Faults.{fault_at}
use Rattle.config.specs.Keys.{name_key, listen, http, persist, pool_name, rule_names, virtual_front}
use Rattle.config.specs.Keys.{virtual_back, virtual_keys}
use Rattle.config.specs.Names.{missing, once_faults, there_faults, twice}
use Rattle.config.specs.Places.{item_place, key_place}
use Rattle.config.specs.Read.{array_at, chosen, truth_at}
use Rattle.config.specs.Tables.{faults_of, keys_faults, unknown_faults}
use Rattle.config.specs.Texts.{first_place}
use Rattle.config.specs.declared.fault.ConfigFault.{ConfigFault}
use Rattle.config.specs.declared.fault.ConfigFaultKind.TheVariants.{Range, WrongKind}

-- whether cookies tell the member, which is the third word
abbrev pub by_cookie : Members → Bool
by_cookie ms = option_map_or (λ n. n == 2) (chosen persist ms) false

-- cookies are only in HTTP
abbrev pub cookie_faults : List ℕ → Members → List ConfigFault
cookie_faults prefix ms =
    if by_cookie ms && not (truth_at http ms)
    then fault_at Range (key_place prefix persist.name) ∷ [] else []

-- a rule that isn't one of the configuration, or stands there already
abbrev pub rule_faults : (rules own : List ℕ → Option ℕ) → List ℕ → ℕ → Option (List ℕ) → List ConfigFault
rule_faults rules own place at None = fault_at WrongKind place ∷ []
rule_faults rules own place at (Some name) =
    faults_of place (twice own at (Some name)) ++ faults_of place (missing rules (Some name))

abbrev pub rules_from : (rules own : List ℕ → Option ℕ) → List ℕ → ℕ → Items → List ConfigFault
rules_from rules own prefix at no_items = []
rules_from rules own prefix at (item d ds) =
    rule_faults rules own (item_place prefix rule_names.name at) at (as_str d)
    ++ rules_from rules own prefix (at + 1) ds

abbrev pub rules_of : (rules : List ℕ → Option ℕ) → List ℕ → Option Items → List ConfigFault
rules_of rules prefix None = []
rules_of rules prefix (Some ds) = rules_from rules (first_place None ds) prefix 0 ds

-- The keys of its table, then its rules. `servers`, `listens`, `pools` and `rules` give the first
-- places of the names of the virtual servers, of the addresses where they listen, and so on.
abbrev pub server_faults : (servers listens pools rules : List ℕ → Option ℕ) → List ℕ → ℕ → Members
    → List ConfigFault
server_faults servers listens pools rules prefix at ms =
    keys_faults prefix virtual_front ms
    ++ (cookie_faults prefix ms
    ++ (keys_faults prefix virtual_back ms
    ++ (unknown_faults prefix virtual_keys ms
    ++ (once_faults servers at prefix name_key ms
    ++ (once_faults listens at prefix listen ms
    ++ (there_faults pools prefix pool_name ms
    ++ rules_of rules prefix (array_at rule_names ms)))))))
