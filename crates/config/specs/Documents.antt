-- What is wrong with a document: of all faults, in the order of their places, the first one of the
-- smallest number is told.
use Rattle.std.specs.Prelude.{ℕ, ◌+◌, List, [], ◌∷◌, ◌++◌, Option, Some, None}
use Rattle.toml.specs.Data.{Items, no_items, item, Members, as_table}
use Rattle.config.specs.Faults.{fault_at, told_of}
use Rattle.config.specs.Groups.{group_faults}
use Rattle.config.specs.Keys.{TableKey, groups, listen, name_key, pools, rules, servers, top_keys}
use Rattle.config.specs.Places.{item_place, prefix_of}
use Rattle.config.specs.Pools.{pool_faults}
use Rattle.config.specs.Read.{array_at}
use Rattle.config.specs.Rules.{rule_faults}
use Rattle.config.specs.Tables.{keys_faults, unknown_faults}
use Rattle.config.specs.Texts.{first_place, place_of}
use Rattle.config.specs.Versions.{version_of}
use Rattle.config.specs.Virtuals.{server_faults}
use Rattle.config.specs.declared.fault.ConfigFault.{ConfigFault}
use Rattle.config.specs.declared.fault.ConfigFaultKind.TheVariants.{WrongKind}
use Rattle.config.specs.declared.known.Known.{Known}
use Rattle.config.specs.declared.section.Section.{Section}
use Rattle.config.specs.declared.version.Version.{Version}
use Rattle.config.specs.declared.section.Section.TheVariants.{Virtual, Pool, Rule, Group}

-- the items of a section, none where there is no such array
abbrev pub or_none : Option Items → Items
or_none None = no_items
or_none (Some ds) = ds

abbrev pub items_at : TableKey → Members → Items
items_at key ms = or_none (array_at key ms)

-- the version, the first places of names, and of the addresses where virtual servers listen
pub record Names : Type 0 where
  pub version : Version
  pub servers : List ℕ → Option ℕ
  pub listens : List ℕ → Option ℕ
  pub pools : List ℕ → Option ℕ
  pub rules : List ℕ → Option ℕ
  pub groups : List ℕ → Option ℕ

abbrev pub names_in : Members → Names
names_in ms = record {
  version = version_of ms;
  servers = first_place (Some name_key.name) (items_at servers ms);
  listens = first_place (Some listen.name) (items_at servers ms);
  pools = first_place (Some name_key.name) (items_at pools ms);
  rules = first_place (Some name_key.name) (items_at rules ms);
  groups = first_place (Some name_key.name) (items_at groups ms);
}

-- those that the code keeps
abbrev pub names_of : Known → Names
names_of k = record {
  version = k.version;
  servers = place_of k.servers;
  listens = place_of k.listens;
  pools = place_of k.pools;
  rules = place_of k.rules;
  groups = place_of k.groups;
}

abbrev pub section_key : Section → TableKey
section_key Virtual = servers
section_key Pool = pools
section_key Rule = rules
section_key Group = groups

abbrev pub table_faults : Names → Section → List ℕ → ℕ → Members → List ConfigFault
table_faults n Virtual prefix at ms = server_faults n.servers n.listens n.pools n.rules prefix at ms
table_faults n Pool prefix at ms = pool_faults n.version n.pools prefix at ms
table_faults n Rule prefix at ms = rule_faults n.rules prefix at ms
table_faults n Group prefix at ms = group_faults n.groups prefix at ms

-- an item of a section is a table
abbrev pub item_faults : Names → Section → List ℕ → ℕ → Option Members → List ConfigFault
item_faults n s place at None = fault_at WrongKind place ∷ []
item_faults n s place at (Some ms) = table_faults n s (prefix_of place) at ms

abbrev pub section_from : Names → Section → ℕ → Items → List ConfigFault
section_from n s at no_items = []
section_from n s at (item d ds) =
    item_faults n s (item_place [] (section_key s).name at) at (as_table d)
    ++ section_from n s (at + 1) ds

abbrev pub section_of : Names → Section → Option Items → List ConfigFault
section_of n s None = []
section_of n s (Some ds) = section_from n s 0 ds

abbrev pub section_faults : Names → Section → Members → List ConfigFault
section_faults n s ms = section_of n s (array_at (section_key s) ms)

abbrev pub faults_with : Names → Members → List ConfigFault
faults_with n ms =
    keys_faults [] (top_keys n.version) ms
    ++ (unknown_faults [] (top_keys n.version) ms
    ++ (section_faults n Virtual ms
    ++ (section_faults n Pool ms
    ++ (section_faults n Rule ms ++ section_faults n Group ms))))

abbrev pub document_faults : Members → List ConfigFault
document_faults ms = faults_with (names_in ms) ms

-- the fault of a document that is told
unfoldable pub document_fault : Members → Option ConfigFault
document_fault ms = told_of (document_faults ms)
