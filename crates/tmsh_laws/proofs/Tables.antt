-- The table of what is printed of a configuration.
use Rattle.std.proofs.Common.{ℕ, Bool, true, List, [], ◌∷◌, map, Option, Some, None}
use Rattle.std.specs.Prelude.{codes, if◌then◌else◌, option_map, pos}
use Rattle.toml.specs.Data.{Data, string, integer, boolean, array, table, Items, no_items, item, Members, no_members}
use Rattle.toml.specs.View.{items_of}
use Rattle.config.specs.declared.config.GroupSettings.{GroupSettings}
use Rattle.config.specs.declared.config.PoolSettings.{PoolSettings}
use Rattle.config.specs.declared.config.Settings.{Settings}
use Rattle.config.specs.declared.config.VirtualSettings.{VirtualSettings}
use Rattle.config.specs.declared.reader.LoadedConfig.{LoadedConfig}
use Rattle.config.specs.declared.rule_text.LoadedRule.{LoadedRule}
use Rattle.data_groups.specs.Groups.{Row}
use Rattle.data_groups.specs.declared.kind.GroupKind.{GroupKind}
use Rattle.data_groups.specs.declared.kind.GroupKind.TheVariants.{String, Ip, Integer}
use Rattle.pools.specs.declared.member.Member.{Member}
use Rattle.pools.specs.declared.member.Method.{Method}
use Rattle.pools.specs.declared.member.Method.TheVariants.{RoundRobin, Ratio}
use Rattle.px_bytes.specs.Address.{addr_text}
use Rattle.run_config.specs.declared.config.Persist.{Persist}
use Rattle.run_config.specs.declared.config.Persist.TheVariants as persist
use Rattle.tmsh_laws.proofs.Lines.{number_entry, put}

abbrev pub Entries : Type 0
Entries = List (List ℕ × Option Data)

-- one after another
abbrev pub puts : Entries → Members → Members
puts [] m = m
puts (e ∷ es) m = puts es (put e.0 e.1 m)

abbrev pub array_entry : Items → Option Data
array_entry no_items = None
array_entry (item d ds) = Some (array (item d ds))

abbrev pub tables : {A : Type 0} → (A → Members) → List A → Items
tables f xs = items_of (map (λ x. table (f x)) xs)

-- ---- virtual servers

abbrev pub http_entry : Bool → Option Data
http_entry http = if http then Some (boolean true) else None

abbrev pub pool_entry : Option (List ℕ) → Option Data
pool_entry name = option_map string name

abbrev pub persist_entry : Persist → Option Data
persist_entry persist.None = None
persist_entry persist.SourceAddr = Some (string (codes "source_addr"))
persist_entry persist.Cookie = Some (string (codes "cookie"))

abbrev pub names_items : List (List ℕ) → Items
names_items names = items_of (map string names)

abbrev pub server_entries : VirtualSettings → Entries
server_entries v =
    (codes "name", Some (string v.name))
    ∷ (codes "listen", Some (string (addr_text v.listen)))
    ∷ (codes "http", http_entry v.http)
    ∷ (codes "pool", pool_entry v.pool)
    ∷ (codes "persist", persist_entry v.persist)
    ∷ (codes "persist_timeout", number_entry 180 v.persist_timeout)
    ∷ (codes "rules", array_entry (names_items v.rules))
    ∷ []

abbrev pub server_members : VirtualSettings → Members
server_members v = puts (server_entries v) no_members

-- ---- pools

abbrev pub method_entry : Method → Option Data
method_entry RoundRobin = None
method_entry Ratio = Some (string (codes "ratio"))

abbrev pub member_entries : Member → Entries
member_entries m =
    (codes "addr", Some (string (addr_text m.addr)))
    ∷ (codes "ratio", number_entry 1 m.ratio)
    ∷ (codes "priority", number_entry 0 m.priority)
    ∷ []

abbrev pub member_members : Member → Members
member_members m = puts (member_entries m) no_members

abbrev pub pool_entries : PoolSettings → Entries
pool_entries p =
    (codes "name", Some (string p.name))
    ∷ (codes "method", method_entry p.method)
    ∷ (codes "min_active", number_entry 0 p.min_active)
    ∷ (codes "members", array_entry (tables member_members p.members))
    ∷ []

abbrev pub pool_members : PoolSettings → Members
pool_members p = puts (pool_entries p) no_members

-- ---- rules

abbrev pub rule_entries : LoadedRule → Entries
rule_entries r = (codes "name", Some (string r.rule.name)) ∷ (codes "text", Some (string r.text.bytes)) ∷ []

abbrev pub rule_members : LoadedRule → Members
rule_members r = puts (rule_entries r) no_members

-- ---- data groups

abbrev pub kind_word : GroupKind → List ℕ
kind_word String = codes "string"
kind_word Ip = codes "ip"
kind_word Integer = codes "integer"

-- a key, and a value unless it is empty
abbrev pub row_items : Row → Items
row_items (k, []) = item (string k) no_items
row_items (k, (b ∷ v)) = item (string k) (item (string (b ∷ v)) no_items)

abbrev pub rows_items : List Row → Items
rows_items rows = items_of (map (λ row. array (row_items row)) rows)

abbrev pub group_entries : GroupSettings → Entries
group_entries g =
    (codes "name", Some (string g.name))
    ∷ (codes "type", Some (string (kind_word g.kind)))
    ∷ (codes "rows", array_entry (rows_items g.rows))
    ∷ []

abbrev pub group_members : GroupSettings → Members
group_members g = puts (group_entries g) no_members

-- ---- the document

abbrev pub limit_entries : Settings → Entries
limit_entries s =
    (codes "budget", number_entry 100000 s.budget)
    ∷ (codes "connections", number_entry 512 s.connections)
    ∷ (codes "idle", number_entry 300 s.idle)
    ∷ (codes "rows", number_entry 65536 s.rows)
    ∷ []

abbrev pub section_entries : LoadedConfig → Entries
section_entries C =
    (codes "version", Some (integer (pos 2)))
    ∷ (codes "virtual", array_entry (tables server_members C.settings.virtuals))
    ∷ (codes "pool", array_entry (tables pool_members C.settings.pools))
    ∷ (codes "rule", array_entry (tables rule_members C.rules))
    ∷ (codes "group", array_entry (tables group_members C.settings.groups))
    ∷ []

abbrev pub config_members : LoadedConfig → Members
config_members C = puts (section_entries C) (puts (limit_entries C.settings) no_members)
