-- What a proxy runs for a configuration that loaded: the data groups and pools that rules name, and
-- virtual servers that name their rules by numbers.
use Rattle.std.specs.Prelude.{ℕ, List, [], ◌∷◌, length, map, flat_map, Bool, ◌&&◌, nat_le, is_none}
use Rattle.std.specs.Prelude.{Option, Some, None, option_map, unwrap_or, if◌then◌else◌}
use Rattle.std.specs.List.{list_all, position_from}
use Rattle.std.specs.Str.{bytes_eq}
use Rattle.config.specs.declared.config.GroupSettings as loaded
use Rattle.config.specs.declared.config.PoolSettings.{PoolSettings}
use Rattle.config.specs.declared.config.Settings.{Settings}
use Rattle.config.specs.declared.config.VirtualSettings.{VirtualSettings}
use Rattle.config.specs.declared.reader.LoadedConfig.{LoadedConfig}
use Rattle.config.specs.declared.rule_text.LoadedRule.{LoadedRule}
use Rattle.data_groups.specs.Groups.{bad_key}
use Rattle.irule_net.specs.declared.groups.Groups.{Groups}
use Rattle.irule_net.specs.declared.groups.NamedGroup.{NamedGroup}
use Rattle.irule_net.specs.declared.groups.PoolMembers.{PoolMembers}
use Rattle.pools.specs.Pools.{are_apart, new_pool, priority_fits, ratio_fits}
use Rattle.pools.specs.declared.member.Member.{Member}
use Rattle.shared_store.specs.declared.named.NamedPool as shared
use Rattle.run_config.specs.declared.config.Config as run
use Rattle.run_config.specs.declared.config.Virtual as served
use Rattle.config.specs.declared.made_groups.Made.{Made}

-- ---- data groups and pools

abbrev pub class_of : loaded.GroupSettings → NamedGroup
class_of g = record { name = g.name; group = record { kind = g.kind; rows = g.rows } }

-- each key is of the group's kind
abbrev pub has_keys : loaded.GroupSettings → Bool
has_keys g = is_none (bad_key g.kind g.rows)

abbrev pub made_class : loaded.GroupSettings → Option NamedGroup
made_class g = if has_keys g then Some (class_of g) else None

abbrev pub with_class : Option NamedGroup → Option (List NamedGroup) → Option (List NamedGroup)
with_class None more = None
with_class (Some class) more = option_map (λ classes. class ∷ classes) more

abbrev pub made_classes : List loaded.GroupSettings → Option (List NamedGroup)
made_classes [] = Some []
made_classes (g ∷ gs) = with_class (made_class g) (made_classes gs)

abbrev pub members_of : PoolSettings → PoolMembers
members_of p = record { name = p.name; members = map (λ m. m.addr) p.members }

abbrev pub groups_with : Settings → List NamedGroup → Groups
groups_with s classes = record { classes = classes; pools = map members_of s.pools }

-- these may be the members of a pool
abbrev pub may_be_members : List Member → Bool
may_be_members ms =
    nat_le (length ms) 1000
    && (list_all ratio_fits ms && (list_all priority_fits ms && are_apart ms))

-- a pool whose members are all up
abbrev pub pool_with : PoolSettings → shared.NamedPool
pool_with p = record { name = p.name; pool = new_pool p.method p.members p.min_active }

abbrev pub made_pool : PoolSettings → Option shared.NamedPool
made_pool p = if may_be_members p.members then Some (pool_with p) else None

abbrev pub with_pool : Option shared.NamedPool → Option (List shared.NamedPool)
    → Option (List shared.NamedPool)
with_pool None more = None
with_pool (Some pool) more = option_map (λ pools. pool ∷ pools) more

abbrev pub made_pools : List PoolSettings → Option (List shared.NamedPool)
made_pools [] = Some []
made_pools (p ∷ ps) = with_pool (made_pool p) (made_pools ps)

abbrev pub made_by : Option Groups → Option (List shared.NamedPool) → Option Made
made_by None pools = None
made_by (Some groups) None = None
made_by (Some groups) (Some pools) = Some (record { groups = groups; pools = pools })

-- the groups and pools, if each key is of its group's kind and the members of each pool may be
abbrev pub made_groups : Settings → Option Made
made_groups s = made_by (option_map (groups_with s) (made_classes s.groups)) (made_pools s.pools)

-- ---- virtual servers

-- the number of a rule by its name, and those of a virtual server
abbrev pub number_of : List LoadedRule → List ℕ → Option ℕ
number_of rules name = position_from (λ r. bytes_eq r.rule.name name) 0 rules

abbrev pub listed : Option ℕ → List ℕ
listed None = []
listed (Some n) = n ∷ []

abbrev pub numbers_of : List LoadedRule → List (List ℕ) → List ℕ
numbers_of rules names = flat_map (λ name. listed (number_of rules name)) names

-- the name of its default pool, empty where it has none
abbrev pub pool_of : VirtualSettings → List ℕ
pool_of v = unwrap_or v.pool []

abbrev pub server_of : List LoadedRule → VirtualSettings → served.Virtual
server_of rules v = record {
  name = v.name;
  listen = v.listen;
  http = v.http;
  pool = pool_of v;
  persist = v.persist;
  persist_timeout = v.persist_timeout;
  rules = numbers_of rules v.rules;
}

-- ---- a configuration

-- with these groups and pools
abbrev pub filled_with : LoadedConfig → Made → run.Config
filled_with C made = record {
  budget = C.settings.budget;
  connections = C.settings.connections;
  idle = C.settings.idle;
  rows = C.settings.rows;
  groups = made.groups;
  pools = made.pools;
  rules = map (λ r. r.rule) C.rules;
  virtuals = map (server_of C.rules) C.settings.virtuals;
}

-- what a proxy runs for a configuration, if its groups and pools may be
unfoldable pub filled : LoadedConfig → Option run.Config
filled C = option_map (filled_with C) (made_groups C.settings)
