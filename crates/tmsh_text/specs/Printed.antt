-- The text of a configuration: limits, virtual servers, pools, rules and data groups in its order,
-- and of each what hasn't its default.
use Rattle.std.specs.Prelude.{◌≡◌, ℕ, ◌==◌, List, [], ◌∷◌, length, flat_map, codes, Bool, Option, Some, None}
use Rattle.std.specs.Prelude.{Result, Ok, Err, if◌then◌else◌}
use Rattle.config.specs.declared.config.GroupSettings.{GroupSettings}
use Rattle.config.specs.declared.config.PoolSettings.{PoolSettings}
use Rattle.config.specs.declared.config.Settings.{Settings}
use Rattle.config.specs.declared.config.VirtualSettings.{VirtualSettings}
use Rattle.config.specs.declared.reader.LoadedConfig.{LoadedConfig}
use Rattle.config.specs.declared.rule_text.LoadedRule.{LoadedRule}
use Rattle.data_groups.specs.Groups.{Row}
use Rattle.data_groups.specs.declared.kind.GroupKind.{GroupKind}
use Rattle.data_groups.specs.declared.kind.GroupKind.TheVariants.{String, Ip, Integer}
use Rattle.pools.specs.declared.member.Member.{Member}
use Rattle.pools.specs.declared.member.Method.{Method}
use Rattle.pools.specs.declared.member.Method.TheVariants.{RoundRobin, Ratio}
use Rattle.px_bytes.specs.Address.{addr_text}
use Rattle.run_config.specs.declared.config.Persist.{Persist}
use Rattle.run_config.specs.declared.config.Persist.TheVariants as persist
use Rattle.tmsh_text.specs.Braces.{first_rule, is_not_utf8, is_unbalanced}
use Rattle.tmsh_text.specs.Items.{item, joined, number_item, short_item, stanza}
use Rattle.tmsh_text.specs.Words.{word}
use Rattle.tmsh_text.specs.declared.fault.PrintFault.{PrintFault}
use Rattle.tmsh_text.specs.declared.fault.PrintFault.TheVariants.{Unbalanced, NotUtf8, Memory}

-- ---- limits

abbrev pub limit_items : Settings → List ℕ
limit_items s = joined (
    number_item (codes "budget") 100000 s.budget
    ∷ number_item (codes "connections") 512 s.connections
    ∷ number_item (codes "idle") 300 s.idle
    ∷ number_item (codes "rows") 65536 s.rows
    ∷ [])

abbrev pub limits_with : List ℕ → List ℕ
limits_with items = if length items == 0 then items else stanza (codes "sys limits") [] items

abbrev pub limits : Settings → List ℕ
limits s = limits_with (limit_items s)

-- ---- virtual servers

abbrev pub http_item : Bool → List ℕ
http_item http = if http then codes "    profiles { http }\n" else []

abbrev pub pool_item : Option (List ℕ) → List ℕ
pool_item None = []
pool_item (Some name) = item (codes "pool") name

abbrev pub persist_item : Persist → List ℕ
persist_item persist.None = []
persist_item persist.SourceAddr = codes "    persist source_addr\n"
persist_item persist.Cookie = codes "    persist cookie\n"

abbrev pub named_rules : List (List ℕ) → List ℕ
named_rules names = flat_map (λ name. joined (codes " " ∷ name ∷ [])) names

abbrev pub rules_item : List (List ℕ) → List ℕ
rules_item names =
    if length names == 0 then []
    else joined (codes "    rules {" ∷ named_rules names ∷ codes " }\n" ∷ [])

abbrev pub server_items : VirtualSettings → List ℕ
server_items v = joined (
    item (codes "destination") (addr_text v.listen)
    ∷ http_item v.http
    ∷ pool_item v.pool
    ∷ persist_item v.persist
    ∷ number_item (codes "persist-timeout") 180 v.persist_timeout
    ∷ rules_item v.rules
    ∷ [])

abbrev pub server_text : VirtualSettings → List ℕ
server_text v = stanza (codes "ltm virtual ") v.name (server_items v)

abbrev pub servers_text : List VirtualSettings → List ℕ
servers_text vs = flat_map server_text vs

-- ---- pools

abbrev pub mode_item : Method → List ℕ
mode_item RoundRobin = []
mode_item Ratio = codes "    load-balancing-mode ratio-member\n"

abbrev pub member_line : Member → List ℕ
member_line m = joined (
    codes "        " ∷ addr_text m.addr ∷ codes " {"
    ∷ short_item (codes "ratio") 1 m.ratio
    ∷ short_item (codes "priority-group") 0 m.priority
    ∷ codes " }\n" ∷ [])

abbrev pub member_lines : List Member → List ℕ
member_lines ms = flat_map member_line ms

abbrev pub members_item : List Member → List ℕ
members_item ms =
    if length ms == 0 then []
    else joined (codes "    members {\n" ∷ member_lines ms ∷ codes "    }\n" ∷ [])

abbrev pub pool_items : PoolSettings → List ℕ
pool_items p = joined (
    mode_item p.method
    ∷ number_item (codes "min-active-members") 0 p.min_active
    ∷ members_item p.members
    ∷ [])

abbrev pub pool_text : PoolSettings → List ℕ
pool_text p = stanza (codes "ltm pool ") p.name (pool_items p)

abbrev pub pools_text : List PoolSettings → List ℕ
pools_text ps = flat_map pool_text ps

-- ---- rules

abbrev pub rule_text : LoadedRule → List ℕ
rule_text r = joined (codes "ltm rule " ∷ r.rule.name ∷ codes " {" ∷ r.text.bytes ∷ codes "}\n" ∷ [])

abbrev pub rules_text : List LoadedRule → List ℕ
rules_text rs = flat_map rule_text rs

-- ---- data groups

abbrev pub kind_item : GroupKind → List ℕ
kind_item String = codes "    type string\n"
kind_item Ip = codes "    type ip\n"
kind_item Integer = codes "    type integer\n"

abbrev pub data_item : List ℕ → List ℕ
data_item value = if length value == 0 then [] else joined (codes " data " ∷ word value ∷ [])

abbrev pub data_record : Row → List ℕ
data_record row = joined (codes "        " ∷ word row.0 ∷ codes " {" ∷ data_item row.1 ∷ codes " }\n" ∷ [])

abbrev pub records : List Row → List ℕ
records rows = flat_map data_record rows

abbrev pub records_item : List Row → List ℕ
records_item rows =
    if length rows == 0 then []
    else joined (codes "    records {\n" ∷ records rows ∷ codes "    }\n" ∷ [])

abbrev pub group_items : GroupSettings → List ℕ
group_items g = joined (kind_item g.kind ∷ records_item g.rows ∷ [])

abbrev pub group_text : GroupSettings → List ℕ
group_text g = stanza (codes "ltm data-group internal ") g.name (group_items g)

abbrev pub groups_text : List GroupSettings → List ℕ
groups_text gs = flat_map group_text gs

-- ---- a configuration

abbrev pub printed : LoadedConfig → List ℕ
printed C = joined (
    limits C.settings
    ∷ servers_text C.settings.virtuals
    ∷ pools_text C.settings.pools
    ∷ rules_text C.rules
    ∷ groups_text C.settings.groups
    ∷ [])

-- each rule's text may stand in a text
pub record IsPrintable (C : LoadedConfig) : Type 0 where
  pub balanced : first_rule is_unbalanced 0 C.rules ≡ None
  pub utf8 : first_rule is_not_utf8 0 C.rules ≡ None

-- unbalanced rules come first
abbrev pub Prints : LoadedConfig → Result (List ℕ) PrintFault → Type 0
Prints C (Ok text) = IsPrintable C × (text ≡ printed C)
Prints C (Err (Unbalanced at)) = first_rule is_unbalanced 0 C.rules ≡ Some at
Prints C (Err (NotUtf8 at)) =
    (first_rule is_unbalanced 0 C.rules ≡ None) × (first_rule is_not_utf8 0 C.rules ≡ Some at)
Prints C (Err Memory) = Unit {0}
