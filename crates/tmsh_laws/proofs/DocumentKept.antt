-- The table of a configuration in print is one without faults, and says the same.
use Rattle.std.proofs.Common.{◌≡◌, ℕ, suc, zero, ◌+◌, Bool, true, false, pos, List, [], ◌∷◌, ◌++◌, map, Option, Some, None, refl, sym, ap, ap₂, subst, ◌∙◌, arith}
use Rattle.std.specs.Option.{option_or}
use Rattle.std.specs.Prelude.{codes, is_some, option_and_then, option_map, slice_get}
use Rattle.toml.specs.Data.{Data, string, integer, float, boolean, datetime, array, table, Items, no_items, item, Members, no_members, as_array, as_integer, as_table, get_member}
use Rattle.config.specs.Documents.{Names, document_fault, faults_with, item_faults, items_at, names_in, or_none, section_faults, section_from, section_key, section_of}
use Rattle.config.specs.Keys as key
use Rattle.config.specs.Keys.{top_keys}
use Rattle.config.specs.Loading.{AreLoaded}
use Rattle.config.specs.Misplaced.{first_misplaced, misplaced_at, place_in, server_misplaced}
use Rattle.config.specs.Outcomes.{Configures, misplaced_of}
use Rattle.config.specs.Places.{item_place, prefix_of}
use Rattle.config.specs.Read.{array_at}
use Rattle.config.specs.Settings.{each, group_item, group_of, pool_item, pool_of, server_item, server_of, settings_of, whole_at, whole_or}
use Rattle.config.specs.Tables.{flaw_of, keys_faults, unknown_faults}
use Rattle.config.specs.Texts.{first_place}
use Rattle.config.specs.Values.{judged}
use Rattle.config.specs.Versions.{version_said}
use Rattle.config.specs.declared.config.GroupSettings.{GroupSettings}
use Rattle.config.specs.declared.config.PoolSettings.{PoolSettings}
use Rattle.config.specs.declared.config.Settings.{Settings}
use Rattle.config.specs.declared.config.VirtualSettings.{VirtualSettings}
use Rattle.config.specs.declared.fault.ConfigFault.{ConfigFault}
use Rattle.config.proofs.DocumentTypes.{Group, One, Pool, Rule, Section, Two, Version, Virtual, by_version}
use Rattle.config.specs.declared.reader.LoadedConfig.{LoadedConfig}
use Rattle.config.specs.declared.rule_text.LoadedRule.{LoadedRule}
use Rattle.tmsh_laws.proofs.GroupKept.{GroupKept, all_rules_kept, all_still_loaded, group_kept, rules_long, rules_places}
use Rattle.tmsh_laws.proofs.Kept.{Flawless, InRange, all_known, array_ok, array_says, at_key, each_keys, flawless, has_none, keys_each, no_back, no_front, none, none_told, number_ok, number_says, range_is, range_of, whole_kept}
use Rattle.tmsh_laws.proofs.Lines.{number_entry}
use Rattle.tmsh_laws.proofs.PoolKept.{PoolKept, absent, pool_kept}
use Rattle.tmsh_laws.proofs.ServerKept.{ServerKept, server_kept}
use Rattle.tmsh_laws.proofs.Tabled.{all_kept, all_say, anew, as_many, from, same_places}
use Rattle.tmsh_laws.proofs.Tables.{Entries, array_entry, config_members, group_members, pool_members, rule_members, section_entries, server_members, tables}
use Rattle.tmsh_laws.specs.ReadBack.{in_one_text, in_place}

-- ---- sections

abbrev pub bad : Names → Section → ℕ → Option Members → List ConfigFault
bad n s at o = item_faults n s (item_place [] (section_key s).name at) at o

pub refuses : (n : Names) (s : Section) (at : ℕ) → bad n s at None ≡ [] → Unit {0} × ⊥
refuses n s at e = absurd (cc)

pub bad_from : (n : Names) (s : Section) (at : ℕ) (ds : Items) → section_from n s at ds ≡ from (bad n s) at ds
bad_from n s at no_items = refl
bad_from n s at (item d ds) = ap (λ x. bad n s at (as_table d) ++ x) (bad_from n s (at + 1) ds)

pub section_in : (n : Names) (s : Section) (o : Option Items) → section_of n s o ≡ [] → from (bad n s) 0 (or_none o) ≡ []
section_in n s None e = refl
section_in n s (Some ds) e = sym (bad_from n s 0 ds) ∙ e

section_by : (n : Names) (s : Section) (ds : Items) → section_of n s (option_and_then as_array (array_entry ds)) ≡ section_from n s 0 ds
section_by n s no_items = refl
section_by n s (item d ds) = refl

pub self : (f : List ℕ → Option ℕ) (t : List ℕ) → f t ≡ f t
self f t = refl

abbrev pub prefix_at : Section → ℕ → List ℕ
prefix_at s at = prefix_of (item_place [] (section_key s).name at)

-- ---- the keys of a document

-- what fits in version 1 fits in version 2
widen : (o : Option Data) → flaw_of (key.connections_in One) o ≡ None → flaw_of (key.connections_in Two) o ≡ None
widen None e = refl
widen (Some (integer z)) e =
    let (n, z_is, (l, h)) = range_of 1 4096 512 z e in
    ap (λ x. flaw_of (key.connections_in Two) (Some (integer x))) z_is ∙ ap (λ r. judged (Some (is_some r))) (range_is 1 8192 512 n (l, omega (arith, h)))
widen (Some (string t)) e = absurd (cc)
widen (Some (float x)) e = absurd (cc)
widen (Some (boolean b)) e = absurd (cc)
widen (Some (datetime x)) e = absurd (cc)
widen (Some (array ds)) e = absurd (cc)
widen (Some (table ms)) e = absurd (cc)

pub record TopParts (ms : Members) : Type 0 where
  pub budget : Flawless ms key.budget
  pub connections : Flawless ms key.connections
  pub idle : Flawless ms key.idle
  pub rows : Flawless ms key.table_rows
  pub servers : Flawless ms key.servers
  pub pools : Flawless ms key.pools
  pub rules : Flawless ms key.rules
  pub groups : Flawless ms key.groups

top_one : (ms : Members) → keys_faults [] (top_keys One) ms ≡ [] → unknown_faults [] (top_keys One) ms ≡ [] → TopParts ms
top_one ms e unknown =
    let k = keys_each [] (top_keys One) ms e in
    record {
      budget = k.1.0;
      connections = widen (get_member key.connections.name ms) k.1.1.0;
      idle = k.1.1.1.0;
      rows = ap (flaw_of key.table_rows) (absent [] (top_keys One) key.table_rows.name ms refl unknown);
      servers = k.1.1.1.1.0;
      pools = k.1.1.1.1.1.0;
      rules = k.1.1.1.1.1.1.0;
      groups = k.1.1.1.1.1.1.1.0;
    }

top_two : (ms : Members) → keys_faults [] (top_keys Two) ms ≡ [] → unknown_faults [] (top_keys Two) ms ≡ [] → TopParts ms
top_two ms e unknown =
    let k = keys_each [] (top_keys Two) ms e in
    record {
      budget = k.1.0;
      connections = k.1.1.0;
      idle = k.1.1.1.0;
      rows = k.1.1.1.1.0;
      servers = k.1.1.1.1.1.0;
      pools = k.1.1.1.1.1.1.0;
      rules = k.1.1.1.1.1.1.1.0;
      groups = k.1.1.1.1.1.1.1.1.0;
    }

pub top_parts : (v : Version) (ms : Members) → keys_faults [] (top_keys v) ms ≡ [] → unknown_faults [] (top_keys v) ms ≡ [] → TopParts ms
top_parts v ms e unknown =
    by_version (λ w. keys_faults [] (top_keys w) ms ≡ [] → unknown_faults [] (top_keys w) ms ≡ [] → TopParts ms) (top_one ms) (top_two ms) v e unknown

-- ---- events

module _ (f g : List ℕ → Option ℕ) (same : (t : List ℕ) → f t ≡ g t) where
  events_same : (http : Bool) (rs : List LoadedRule) (at : ℕ) → option_and_then (place_in http) (slice_get (map in_place rs) at) ≡ option_and_then (place_in http) (slice_get rs at)
  events_same http [] at = refl
  events_same true (r ∷ rs) zero = refl
  events_same false (r ∷ rs) zero = refl
  events_same http (r ∷ rs) (suc at) = events_same http rs at

  found_same : (http : Bool) (rs : List LoadedRule) (o : Option ℕ) → option_and_then (misplaced_at (map in_place rs) http) o ≡ option_and_then (misplaced_at rs http) o
  found_same http rs None = refl
  found_same http rs (Some at) = ap (option_map (λ place. record { rule = at; place = place })) (events_same http rs at)

  names_same : (http : Bool) (rs : List LoadedRule) (names : List (List ℕ)) → server_misplaced f (map in_place rs) http names ≡ server_misplaced g rs http names
  names_same http rs [] = refl
  names_same http rs (name ∷ names) =
      ap₂ option_or (ap (option_and_then (misplaced_at (map in_place rs) http)) (same name) ∙ found_same http rs (g name)) (names_same http rs names)

  servers_same : (rs : List LoadedRule) (vs : List VirtualSettings) → first_misplaced f (map in_place rs) vs ≡ first_misplaced g rs vs
  servers_same rs [] = refl
  servers_same rs (v ∷ vs) = ap₂ option_or (names_same v.http rs v.rules) (servers_same rs vs)

-- ---- a document without faults

pub record DocumentParts (top : Members) : Type 0 where
  pub keys : TopParts top
  pub servers : from (bad (names_in top) Virtual) 0 (items_at key.servers top) ≡ []
  pub pools : from (bad (names_in top) Pool) 0 (items_at key.pools top) ≡ []
  pub rules : from (bad (names_in top) Rule) 0 (items_at key.rules top) ≡ []
  pub groups : from (bad (names_in top) Group) 0 (items_at key.groups top) ≡ []

pub document_parts : (top : Members) → document_fault top ≡ None → DocumentParts top
document_parts top faultless =
    let n = names_in top in
    let e : faults_with n top ≡ [] = has_none top faultless in
    let keys = keys_faults [] (top_keys n.version) top in
    let unknown = unknown_faults [] (top_keys n.version) top in
    let vs = section_faults n Virtual top in
    let ps = section_faults n Pool top in
    let rs = section_faults n Rule top in
    let gs = section_faults n Group top in
    let e1 : unknown ++ (vs ++ (ps ++ (rs ++ gs))) ≡ [] = no_back keys _ e in
    let e2 : vs ++ (ps ++ (rs ++ gs)) ≡ [] = no_back unknown _ e1 in
    let e3 : ps ++ (rs ++ gs) ≡ [] = no_back vs _ e2 in
    let e4 : rs ++ gs ≡ [] = no_back ps _ e3 in
    record {
      keys = top_parts n.version top (no_front keys _ e) (no_front unknown _ e1);
      servers = section_in n Virtual (array_at key.servers top) (no_front vs _ e2);
      pools = section_in n Pool (array_at key.pools top) (no_front ps _ e3);
      rules = section_in n Rule (array_at key.rules top) (no_front rs gs e4);
      groups = section_in n Group (array_at key.groups top) (no_back rs gs e4);
    }

-- ---- its table anew

module _ (before : List ℕ → Option (List ℕ)) (top : Members) (rs : List LoadedRule) (loaded : AreLoaded before (items_at key.rules top) rs) (is : DocumentParts top) where
  abbrev n : Names
  n = names_in top

  abbrev S : Settings
  S = settings_of top

  abbrev C : LoadedConfig
  C = record { settings = S; rules = rs }

  abbrev d : Members
  d = config_members C

  abbrev entries : Entries
  entries =
      (codes "budget", number_entry 100000 S.budget)
      ∷ ((codes "connections", number_entry 512 S.connections)
      ∷ ((codes "idle", number_entry 300 S.idle)
      ∷ ((codes "rows", number_entry 65536 S.rows)
      ∷ section_entries C)))

  abbrev vs : Items
  vs = anew server_of server_members (items_at key.servers top)

  abbrev ps : Items
  ps = anew pool_of pool_members (items_at key.pools top)

  abbrev us : Items
  us = tables rule_members rs

  abbrev gs : Items
  gs = anew group_of group_members (items_at key.groups top)

  -- what stands at its keys
  budget_at : get_member (codes "budget") d ≡ number_entry 100000 S.budget
  budget_at = at_key entries (codes "budget") (number_entry 100000 S.budget) refl

  connections_at : get_member (codes "connections") d ≡ number_entry 512 S.connections
  connections_at = at_key entries (codes "connections") (number_entry 512 S.connections) refl

  idle_at : get_member (codes "idle") d ≡ number_entry 300 S.idle
  idle_at = at_key entries (codes "idle") (number_entry 300 S.idle) refl

  rows_at : get_member (codes "rows") d ≡ number_entry 65536 S.rows
  rows_at = at_key entries (codes "rows") (number_entry 65536 S.rows) refl

  version_at : get_member (codes "version") d ≡ Some (integer (pos 2))
  version_at = at_key entries (codes "version") (Some (integer (pos 2))) refl

  servers_at : get_member (codes "virtual") d ≡ array_entry vs
  servers_at = at_key entries (codes "virtual") (array_entry vs) refl

  pools_at : get_member (codes "pool") d ≡ array_entry ps
  pools_at = at_key entries (codes "pool") (array_entry ps) refl

  rules_at : get_member (codes "rule") d ≡ array_entry us
  rules_at = at_key entries (codes "rule") (array_entry us) refl

  groups_at : get_member (codes "group") d ≡ array_entry gs
  groups_at = at_key entries (codes "group") (array_entry gs) refl

  items_of_servers : items_at key.servers d ≡ vs
  items_of_servers = ap (λ o. or_none (option_and_then as_array o)) servers_at ∙ array_says vs

  items_of_pools : items_at key.pools d ≡ ps
  items_of_pools = ap (λ o. or_none (option_and_then as_array o)) pools_at ∙ array_says ps

  items_of_rules : items_at key.rules d ≡ us
  items_of_rules = ap (λ o. or_none (option_and_then as_array o)) rules_at ∙ array_says us

  items_of_groups : items_at key.groups d ≡ gs
  items_of_groups = ap (λ o. or_none (option_and_then as_array o)) groups_at ∙ array_says gs

  -- the names are the same ones
  abbrev m : Names
  m = record {
    version = Two;
    servers = first_place (Some key.name_key.name) vs;
    listens = first_place (Some key.listen.name) vs;
    pools = first_place (Some key.name_key.name) ps;
    rules = first_place (Some key.name_key.name) us;
    groups = first_place (Some key.name_key.name) gs;
  }

  abbrev named : Version → (a b c e : Items) → Names
  named v a b c e = record {
    version = v;
    servers = first_place (Some key.name_key.name) a;
    listens = first_place (Some key.listen.name) a;
    pools = first_place (Some key.name_key.name) b;
    rules = first_place (Some key.name_key.name) c;
    groups = first_place (Some key.name_key.name) e;
  }

  names_are : names_in d ≡ m
  names_are =
      let a = items_at key.servers d in
      let b = items_at key.pools d in
      let c = items_at key.rules d in
      let e = items_at key.groups d in
      ap (λ o. named (version_said (option_and_then as_integer o)) a b c e) version_at ∙ ap (λ x. named Two x b c e) items_of_servers ∙ ap (λ x. named Two vs x c e) items_of_pools
      ∙ ap (λ x. named Two vs ps x e) items_of_rules ∙ ap (λ x. named Two vs ps us x) items_of_groups

  server_self : (at : ℕ) (ms : Members) → bad n Virtual at (Some ms) ≡ [] → ServerKept n.servers n.listens n.pools n.rules (prefix_at Virtual at) at ms
  server_self at ms e =
      server_kept n.servers n.listens n.pools n.rules n.servers n.listens n.pools n.rules (self n.servers) (self n.listens) (self n.pools) (self n.rules) (prefix_at Virtual at) at ms e

  pool_self : (at : ℕ) (ms : Members) → bad n Pool at (Some ms) ≡ [] → PoolKept n.pools (prefix_at Pool at) at ms
  pool_self at ms e = pool_kept n.version n.pools n.pools (self n.pools) (prefix_at Pool at) at ms e

  group_self : (at : ℕ) (ms : Members) → bad n Group at (Some ms) ≡ [] → GroupKept n.groups (prefix_at Group at) at ms
  group_self at ms e = group_kept n.groups n.groups (self n.groups) (prefix_at Group at) at ms e

  rule_section : section_from n Rule 0 (items_at key.rules top) ≡ []
  rule_section = bad_from n Rule 0 (items_at key.rules top) ∙ is.rules

  servers_are : (t : List ℕ) → m.servers t ≡ n.servers t
  servers_are t = same_places server_of server_members (bad n Virtual) (refuses n Virtual) key.name_key.name (λ at ms e. (server_self at ms e).name) 0 (items_at key.servers top) is.servers t

  listens_are : (t : List ℕ) → m.listens t ≡ n.listens t
  listens_are t = same_places server_of server_members (bad n Virtual) (refuses n Virtual) key.listen.name (λ at ms e. (server_self at ms e).listen) 0 (items_at key.servers top) is.servers t

  pools_are : (t : List ℕ) → m.pools t ≡ n.pools t
  pools_are t = same_places pool_of pool_members (bad n Pool) (refuses n Pool) key.name_key.name (λ at ms e. (pool_self at ms e).name) 0 (items_at key.pools top) is.pools t

  rules_are : (t : List ℕ) → m.rules t ≡ n.rules t
  rules_are t = rules_places before n 0 (items_at key.rules top) rs loaded rule_section t

  groups_are : (t : List ℕ) → m.groups t ≡ n.groups t
  groups_are t = same_places group_of group_members (bad n Group) (refuses n Group) key.name_key.name (λ at ms e. (group_self at ms e).name) 0 (items_at key.groups top) is.groups t

  -- no faults in the sections
  servers_kept : section_from m Virtual 0 vs ≡ []
  servers_kept =
      bad_from m Virtual 0 vs
      ∙ all_kept server_of server_members (bad n Virtual) (refuses n Virtual) (bad m Virtual)
      (λ at ms e. (server_kept n.servers n.listens n.pools n.rules m.servers m.listens m.pools m.rules servers_are listens_are pools_are rules_are (prefix_at Virtual at) at ms e).faultless)
      0 (items_at key.servers top) is.servers

  pools_kept : section_from m Pool 0 ps ≡ []
  pools_kept =
      bad_from m Pool 0 ps
      ∙ all_kept pool_of pool_members (bad n Pool) (refuses n Pool) (bad m Pool) (λ at ms e. (pool_kept n.version n.pools m.pools pools_are (prefix_at Pool at) at ms e).faultless)
      0 (items_at key.pools top) is.pools

  rules_kept : section_from m Rule 0 us ≡ []
  rules_kept = all_rules_kept before n m rules_are 0 (items_at key.rules top) rs loaded rule_section

  groups_kept : section_from m Group 0 gs ≡ []
  groups_kept =
      bad_from m Group 0 gs
      ∙ all_kept group_of group_members (bad n Group) (refuses n Group) (bad m Group) (λ at ms e. (group_kept n.groups m.groups groups_are (prefix_at Group at) at ms e).faultless)
      0 (items_at key.groups top) is.groups

  -- the limits
  pub budget_in : InRange 1 1000000 100000 S.budget
  budget_in = whole_kept 1 1000000 100000 (codes "budget") (get_member (codes "budget") top) (omega arith, omega arith) is.keys.budget

  pub connections_in : InRange 1 8192 512 S.connections
  connections_in = whole_kept 1 8192 512 (codes "connections") (get_member (codes "connections") top) (omega arith, omega arith) is.keys.connections

  pub idle_in : InRange 1 86400 300 S.idle
  idle_in = whole_kept 1 86400 300 (codes "idle") (get_member (codes "idle") top) (omega arith, omega arith) is.keys.idle

  pub rows_in : InRange 1 131072 65536 S.rows
  rows_in = whole_kept 1 131072 65536 (codes "rows") (get_member (codes "rows") top) (omega arith, omega arith) is.keys.rows

  keys_kept : keys_faults [] (top_keys Two) d ≡ []
  keys_kept =
      each_keys [] (top_keys Two) d (
        flawless d key.version (Some (integer (pos 2))) version_at refl,
        (
          flawless d key.budget (number_entry 100000 S.budget) budget_at (number_ok 1 1000000 100000 (codes "budget") S.budget budget_in),
          (
            flawless d key.connections (number_entry 512 S.connections) connections_at (number_ok 1 8192 512 (codes "connections") S.connections connections_in),
            (
              flawless d key.idle (number_entry 300 S.idle) idle_at (number_ok 1 86400 300 (codes "idle") S.idle idle_in),
              (
                flawless d key.table_rows (number_entry 65536 S.rows) rows_at (number_ok 1 131072 65536 (codes "rows") S.rows rows_in),
                (
                  flawless d key.servers (array_entry vs) servers_at
                      (array_ok (codes "virtual") 65536 (get_member (codes "virtual") top) vs (as_many server_of server_members (bad n Virtual) (refuses n Virtual) 0 (items_at key.servers top) is.servers) is.keys.servers),
                  (
                    flawless d key.pools (array_entry ps) pools_at
                        (array_ok (codes "pool") 65536 (get_member (codes "pool") top) ps (as_many pool_of pool_members (bad n Pool) (refuses n Pool) 0 (items_at key.pools top) is.pools) is.keys.pools),
                    (
                      flawless d key.rules (array_entry us) rules_at
                          (array_ok (codes "rule") 65536 (get_member (codes "rule") top) us (rules_long before n 0 (items_at key.rules top) rs loaded) is.keys.rules),
                      (
                        flawless d key.groups (array_entry gs) groups_at
                            (array_ok (codes "group") 65536 (get_member (codes "group") top) gs (as_many group_of group_members (bad n Group) (refuses n Group) 0 (items_at key.groups top) is.groups) is.keys.groups),
                        tt,
                      ),
                    ),
                  ),
                ),
              ),
            ),
          ),
        ),
      )

  unknown_kept : unknown_faults [] (top_keys Two) d ≡ []
  unknown_kept = all_known [] (top_keys Two) entries no_members (refl, (refl, (refl, (refl, (refl, (refl, (refl, (refl, (refl, tt))))))))) refl

  all_faultless : faults_with m d ≡ []
  all_faultless =
      none _ _ keys_kept (none _ _ unknown_kept
      (none _ _ (ap (λ o. section_of m Virtual (option_and_then as_array o)) servers_at ∙ section_by m Virtual vs ∙ servers_kept)
      (none _ _ (ap (λ o. section_of m Pool (option_and_then as_array o)) pools_at ∙ section_by m Pool ps ∙ pools_kept)
      (none _ _ (ap (λ o. section_of m Rule (option_and_then as_array o)) rules_at ∙ section_by m Rule us ∙ rules_kept)
      (ap (λ o. section_of m Group (option_and_then as_array o)) groups_at ∙ section_by m Group gs ∙ groups_kept)))))

  pub faultless : document_fault d ≡ None
  faultless = none_told d (ap (λ x. faults_with x d) names_are ∙ all_faultless)

  -- what it says
  abbrev made : (b c i r : ℕ) → List VirtualSettings → List PoolSettings → List GroupSettings → Settings
  made b c i r v p g = record { budget = b; connections = c; idle = i; rows = r; virtuals = v; pools = p; groups = g }

  says : settings_of d ≡ S
  says =
      let b = whole_at key.budget d in
      let c = whole_at key.connections d in
      let i = whole_at key.idle d in
      let r = whole_at key.table_rows d in
      let v = each server_item (items_at key.servers d) in
      let p = each pool_item (items_at key.pools d) in
      let budget_is : b ≡ S.budget = ap (λ o. whole_or key.budget.kind (option_and_then as_integer o)) budget_at ∙ number_says 1 1000000 100000 S.budget budget_in in
      let connections_is : c ≡ S.connections = ap (λ o. whole_or key.connections.kind (option_and_then as_integer o)) connections_at ∙ number_says 1 8192 512 S.connections connections_in in
      let idle_is : i ≡ S.idle = ap (λ o. whole_or key.idle.kind (option_and_then as_integer o)) idle_at ∙ number_says 1 86400 300 S.idle idle_in in
      let rows_is : r ≡ S.rows = ap (λ o. whole_or key.table_rows.kind (option_and_then as_integer o)) rows_at ∙ number_says 1 131072 65536 S.rows rows_in in
      let servers_is : v ≡ S.virtuals =
      ap (each server_item) items_of_servers ∙ all_say server_of server_members (bad n Virtual) (refuses n Virtual) (λ at ms e. (server_self at ms e).says) 0 (items_at key.servers top) is.servers in
      let pools_is : p ≡ S.pools =
      ap (each pool_item) items_of_pools ∙ all_say pool_of pool_members (bad n Pool) (refuses n Pool) (λ at ms e. (pool_self at ms e).says) 0 (items_at key.pools top) is.pools in
      let groups_is : each group_item (items_at key.groups d) ≡ S.groups =
      ap (each group_item) items_of_groups ∙ all_say group_of group_members (bad n Group) (refuses n Group) (λ at ms e. (group_self at ms e).says) 0 (items_at key.groups top) is.groups in
      ap (λ x. made b c i r v p x) groups_is ∙ ap (λ x. made b c i r v x S.groups) pools_is ∙ ap (λ x. made b c i r x S.pools S.groups) servers_is
      ∙ ap (λ x. made b c i x S.virtuals S.pools S.groups) rows_is ∙ ap (λ x. made b c x S.rows S.virtuals S.pools S.groups) idle_is
      ∙ ap (λ x. made b x S.idle S.rows S.virtuals S.pools S.groups) connections_is ∙ ap (λ x. made x S.connections S.idle S.rows S.virtuals S.pools S.groups) budget_is

  pub configures : misplaced_of top rs ≡ None → (now : List ℕ → Option (List ℕ)) → Configures now d (in_one_text C)
  configures placed now = record {
    settings = sym says;
    loaded = subst (λ ds. AreLoaded now ds (map in_place rs)) (sym items_of_rules) (all_still_loaded before now (items_at key.rules top) rs loaded);
    placed =
        ap₂ (λ ds s. first_misplaced (first_place (Some key.name_key.name) ds) (map in_place rs) s.virtuals) items_of_rules says
        ∙ servers_same m.rules n.rules rules_are rs S.virtuals ∙ placed;
  }
