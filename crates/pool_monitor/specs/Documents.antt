-- What is wrong with a monitors' file: of all faults, in the order of their places, the first one of
-- the smallest number is told. The faults and their numbers are those of configurations.
use Rattle.std.specs.Prelude.{ℕ, ◌+◌, ◌&&◌, Bool, true, false, List, [], ◌∷◌, ◌++◌, codes, length}
use Rattle.std.specs.Prelude.{Option, Some, None, is_some, nat_le, option_and_then, option_map}
use Rattle.std.specs.Prelude.{if◌then◌else◌}
use Rattle.std.specs.List.{list_any}
use Rattle.std.specs.Option.{option_or}
use Rattle.std.specs.Str.{bytes_eq}
use Rattle.toml.specs.Data.{Data, Items, no_items, item, Members, no_members, member, as_array}
use Rattle.toml.specs.Data.{as_integer, as_str, as_table, get_member}
use Rattle.config.specs.Faults.{fault_at, told_of}
use Rattle.config.specs.Names.{missing, twice}
use Rattle.config.specs.Places.{item_place, key_place, prefix_of, text_with}
use Rattle.config.specs.Tables.{faults_of}
use Rattle.config.specs.Texts.{first_place, here, text_at}
use Rattle.config.specs.Values.{in_range, judged}
use Rattle.config.specs.declared.config.PoolSettings.{PoolSettings}
use Rattle.config.specs.declared.fault.ConfigFault.{ConfigFault}
use Rattle.config.specs.declared.fault.ConfigFaultKind.{ConfigFaultKind}
use Rattle.config.specs.declared.fault.ConfigFaultKind.TheVariants.{UnknownKey, WrongKind}
use Rattle.pool_monitor.specs.Keys.{KeyKind, TableKey, whole, text, probing, array, interval_key}
use Rattle.pool_monitor.specs.Keys.{item_names, kind_key, monitors_key, pool_key, recv_key, send_key}
use Rattle.pool_monitor.specs.Keys.{timeout_key, top_names, version_key}
use Rattle.pool_monitor.specs.declared.place.Place.{Place}
use Rattle.pool_monitor.specs.declared.value.Probing.{Probing}
use Rattle.pool_monitor.specs.declared.value.Probing.TheVariants.{Tcp, Http, Unknown}

abbrev pub place_text : Place → List ℕ
place_text p = text_with p.prefix.now p.key.now p.item

-- ---- by what a pool is probed

abbrev pub probing_of : List ℕ → Probing
probing_of word =
    if bytes_eq word (codes "tcp") then Tcp
    else (if bytes_eq word (codes "http") then Http else Unknown)

abbrev pub is_probing : Probing → Bool
is_probing Tcp = true
is_probing Http = true
is_probing Unknown = false

abbrev pub probing_in : Option (List ℕ) → Probing
probing_in None = Unknown
probing_in (Some word) = probing_of word

abbrev pub probing_at : Members → Probing
probing_at ms = probing_in (text_at kind_key.name ms)

abbrev pub is_http : Probing → Bool
is_http Tcp = false
is_http Http = true
is_http Unknown = false

-- ---- a value

abbrev pub is_so_long : (least most length : ℕ) → Bool
is_so_long least most long = nat_le least long && nat_le long most

-- whether the value fits its key, where it is of the key's kind
abbrev pub fits : KeyKind → Data → Option Bool
fits (whole low high usual) d = option_map (λ n. is_some (in_range low high n)) (as_integer d)
fits (text least most) d = option_map (λ t. is_so_long least most (length t)) (as_str d)
fits probing d = option_map (λ t. is_probing (probing_of t)) (as_str d)
fits array d = option_map (λ _. true) (as_array d)

abbrev pub flaw : KeyKind → Data → Option ConfigFaultKind
flaw kind d = judged (fits kind d)

-- ---- a key

-- one that is required must be there
abbrev pub flaw_of : TableKey → Option Data → Option ConfigFaultKind
flaw_of key None = if key.required then Some WrongKind else None
flaw_of key (Some d) = flaw key.kind d

abbrev pub key_flaw : TableKey → Members → Option ConfigFaultKind
key_flaw key ms = flaw_of key (get_member key.name ms)

abbrev pub key_faults : List ℕ → Members → TableKey → List ConfigFault
key_faults prefix ms key = faults_of (key_place prefix key.name) (key_flaw key ms)

abbrev pub is_known : List (List ℕ) → List ℕ → Bool
is_known names name = list_any (λ known. bytes_eq known name) names

abbrev pub unknown_at : List ℕ → List (List ℕ) → List ℕ → List ConfigFault
unknown_at prefix names name =
    if is_known names name then [] else fault_at UnknownKey (key_place prefix name) ∷ []

-- in the order of their bytes, in which a table's members stand
abbrev pub unknown_faults : List ℕ → List (List ℕ) → Members → List ConfigFault
unknown_faults prefix names no_members = []
unknown_faults prefix names (member name d ms) =
    unknown_at prefix names name ++ unknown_faults prefix names ms

-- a probe by TCP has nothing to send or to wait for
abbrev pub no_faults : List ℕ → TableKey → Option Data → List ConfigFault
no_faults prefix key None = []
no_faults prefix key (Some d) = fault_at UnknownKey (key_place prefix key.name) ∷ []

abbrev pub check_faults : Probing → List ℕ → TableKey → Members → List ConfigFault
check_faults Tcp prefix key ms = no_faults prefix key (get_member key.name ms)
check_faults Http prefix key ms = key_faults prefix ms key
check_faults Unknown prefix key ms = key_faults prefix ms key

-- ---- pools

-- the first pool of a name, where the first of all has this place
abbrev pub pool_from : ℕ → List PoolSettings → List ℕ → Option ℕ
pool_from at [] asked = None
pool_from at (p ∷ ps) asked = option_or (here (Some p.name) asked at) (pool_from (at + 1) ps asked)

abbrev pub pool_place : List PoolSettings → List ℕ → Option ℕ
pool_place ps = pool_from 0 ps

-- `pools` gives the places of the configuration's pools, `named` the first of those that are named
abbrev pub pool_faults : (pools named : List ℕ → Option ℕ) → List ℕ → ℕ → Members → List ConfigFault
pool_faults pools named prefix at ms =
    key_faults prefix ms pool_key
    ++ (faults_of (key_place prefix pool_key.name) (twice named at (text_at pool_key.name ms))
    ++ faults_of (key_place prefix pool_key.name) (missing pools (text_at pool_key.name ms)))

-- ---- a monitor

abbrev pub table_faults : (pools named : List ℕ → Option ℕ) → List ℕ → ℕ → Members → List ConfigFault
table_faults pools named prefix at ms =
    pool_faults pools named prefix at ms
    ++ (key_faults prefix ms kind_key
    ++ (key_faults prefix ms interval_key
    ++ (key_faults prefix ms timeout_key
    ++ (check_faults (probing_at ms) prefix (send_key (is_http (probing_at ms))) ms
    ++ (check_faults (probing_at ms) prefix (recv_key (is_http (probing_at ms))) ms
    ++ unknown_faults prefix item_names ms)))))

-- it is a table
abbrev pub item_faults : (pools named : List ℕ → Option ℕ) → List ℕ → ℕ → Option Members → List ConfigFault
item_faults pools named place at None = fault_at WrongKind place ∷ []
item_faults pools named place at (Some ms) = table_faults pools named (prefix_of place) at ms

abbrev pub items_faults : (pools named : List ℕ → Option ℕ) → ℕ → Items → List ConfigFault
items_faults pools named at no_items = []
items_faults pools named at (item d ds) =
    item_faults pools named (item_place [] monitors_key.name at) at (as_table d)
    ++ items_faults pools named (at + 1) ds

abbrev pub array_faults : (pools : List ℕ → Option ℕ) → Option Items → List ConfigFault
array_faults pools None = []
array_faults pools (Some ds) = items_faults pools (first_place (Some pool_key.name) ds) 0 ds

abbrev pub monitors_at : Members → Option Items
monitors_at ms = option_and_then as_array (get_member monitors_key.name ms)

abbrev pub monitors_faults : (pools : List ℕ → Option ℕ) → Members → List ConfigFault
monitors_faults pools ms = array_faults pools (monitors_at ms)

-- ---- the document

abbrev pub faults_with : (pools : List ℕ → Option ℕ) → Members → List ConfigFault
faults_with pools ms =
    key_faults [] ms version_key
    ++ (key_faults [] ms monitors_key
    ++ (unknown_faults [] top_names ms ++ monitors_faults pools ms))

-- the fault that is told
unfoldable pub document_fault : List PoolSettings → Members → Option ConfigFault
document_fault ps ms = told_of (faults_with (pool_place ps) ms)
