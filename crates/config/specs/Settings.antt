-- What a document without faults configures: what its tables say, and the defaults where they say
-- nothing. It is read by the keys of version 2: one of version 1 has none of the others.
use Rattle.std.specs.Prelude.{ℕ, ℤ, ◌==◌, nat_le, List, [], ◌∷◌, ◌++◌, Option, Some, None}
use Rattle.std.specs.Prelude.{option_and_then, option_map, unwrap_or, if◌then◌else◌}
use Rattle.data_groups.specs.Groups.{Row}
use Rattle.data_groups.specs.declared.kind.GroupKind.TheVariants.{String}
use Rattle.pools.specs.declared.member.Member.{Member}
use Rattle.pools.specs.declared.member.Method.{Method}
use Rattle.pools.specs.declared.member.Method.TheVariants.{RoundRobin, Ratio}
use Rattle.px_bytes.specs.declared.addr.Addr.{Addr}
use Rattle.toml.specs.Data.{Data, Items, no_items, item, Members, as_integer, as_str, as_table}
use Rattle.toml.specs.Data.{get_member}
use Rattle.tcl_encodings.specs.Addr.{addr_of}
use Rattle.config.specs.Documents.{items_at}
use Rattle.config.specs.Groups.{group_kind, row_of}
use Rattle.config.specs.Keys.{TableKey, KeyKind, whole, truth, text, one_of, array}
use Rattle.config.specs.Keys as key
use Rattle.config.specs.Read.{chosen, member_count, truth_at}
use Rattle.config.specs.Texts.{text_at}
use Rattle.config.specs.Values.{in_range}
use Rattle.config.specs.declared.config.GroupSettings.{GroupSettings}
use Rattle.config.specs.declared.config.PoolSettings.{PoolSettings}
use Rattle.run_config.specs.declared.config.Persist.{Persist}
use Rattle.run_config.specs.declared.config.Persist.TheVariants as persist
use Rattle.config.specs.declared.config.Settings.{Settings}
use Rattle.config.specs.declared.config.VirtualSettings.{VirtualSettings}

-- what the items are, in their order
abbrev pub each : {A : Type 0} → (Data → List A) → Items → List A
each f no_items = []
each f (item d ds) = f d ++ each f ds

abbrev pub one : {A : Type 0} → Option A → List A
one None = []
one (Some x) = x ∷ []

-- ---- what stands at a key

abbrev pub whole_or : KeyKind → Option ℤ → ℕ
whole_or (whole low high usual) None = usual
whole_or (whole low high usual) (Some n) = unwrap_or (in_range low high n) usual
whole_or truth n = 0
whole_or (text form) n = 0
whole_or (one_of words) n = 0
whole_or (array most) n = 0

abbrev pub whole_at : TableKey → Members → ℕ
whole_at k ms = whole_or k.kind (option_and_then as_integer (get_member k.name ms))

-- a text that is required
abbrev pub given : TableKey → Members → List ℕ
given k ms = unwrap_or (text_at k.name ms) []

abbrev pub no_addr : Addr
no_addr = record { ip = 0; port = 0 }

abbrev pub addr_at : TableKey → Members → Addr
addr_at k ms = unwrap_or (option_and_then addr_of (text_at k.name ms)) no_addr

-- ---- virtual servers

abbrev pub persist_of : Option ℕ → Persist
persist_of None = persist.None
persist_of (Some n) =
    if n == 1 then persist.SourceAddr else (if n == 2 then persist.Cookie else persist.None)

abbrev pub text_item : Data → List (List ℕ)
text_item d = one (as_str d)

abbrev pub server_of : Members → VirtualSettings
server_of ms = record {
  name = given key.name_key ms;
  listen = addr_at key.listen ms;
  http = truth_at key.http ms;
  pool = text_at key.pool_name.name ms;
  persist = persist_of (chosen key.persist ms);
  persist_timeout = whole_at key.persist_timeout ms;
  rules = each text_item (items_at key.rule_names ms);
}

abbrev pub server_item : Data → List VirtualSettings
server_item d = one (option_map server_of (as_table d))

-- ---- pools

abbrev pub method_of : Option ℕ → Method
method_of None = RoundRobin
method_of (Some n) = if n == 1 then Ratio else RoundRobin

abbrev pub ratio_of : ℕ → ℕ
ratio_of n = if nat_le n 100 then n else 1

abbrev pub priority_of : ℕ → ℕ
priority_of n = if nat_le n 100 then n else 0

abbrev pub member_of : Members → Member
member_of ms = record {
  addr = addr_at key.addr ms;
  ratio = ratio_of (whole_at key.ratio ms);
  priority = priority_of (whole_at key.priority ms);
}

abbrev pub member_item : Data → List Member
member_item d = one (option_map member_of (as_table d))

abbrev pub pool_of : Members → PoolSettings
pool_of ms = record {
  name = given key.name_key ms;
  method = method_of (chosen key.method ms);
  members = each member_item (items_at key.members ms);
  min_active = whole_at (key.min_active (member_count ms)) ms;
}

abbrev pub pool_item : Data → List PoolSettings
pool_item d = one (option_map pool_of (as_table d))

-- ---- groups

abbrev pub row_item : Data → List Row
row_item d = one (row_of d)

abbrev pub group_of : Members → GroupSettings
group_of ms = record {
  name = given key.name_key ms;
  kind = unwrap_or (group_kind ms) String;
  rows = each row_item (items_at key.rows ms);
}

abbrev pub group_item : Data → List GroupSettings
group_item d = one (option_map group_of (as_table d))

-- ---- the document

abbrev pub settings_of : Members → Settings
settings_of ms = record {
  budget = whole_at key.budget ms;
  connections = whole_at key.connections ms;
  idle = whole_at key.idle ms;
  rows = whole_at key.table_rows ms;
  virtuals = each server_item (items_at key.servers ms);
  pools = each pool_item (items_at key.pools ms);
  groups = each group_item (items_at key.groups ms);
}
