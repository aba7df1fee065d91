-- What a document without faults says is read back from print.
use Rattle.std.proofs.Common.{◌≡◌, ℕ, ◌+◌, ◌≤◌, Bool, true, false, not, List, [], ◌∷◌, ◌++◌, Option, Some, None, refl, sym, ap, subst, ◌∙◌, arith}
use Rattle.std.proofs.lemmas.Bool.{false≢true}
use Rattle.std.specs.Prelude.{codes, if◌then◌else◌, is_some, option_and_then, unwrap_or}
use Rattle.std.specs.Str.{is_utf8}
use Rattle.toml.specs.Data.{Data, Items, no_items, item, Members, as_str, as_table, get_member}
use Rattle.config.specs.Documents.{Names, items_at, names_in, or_none}
use Rattle.config.specs.Keys as key
use Rattle.config.specs.Keys.{rule_keys}
use Rattle.config.specs.Loading.{AreLoaded}
use Rattle.config.specs.Names.{missing, twice}
use Rattle.config.specs.Places.{item_place, key_place, prefix_of}
use Rattle.config.specs.Read.{array_at, member_count}
use Rattle.config.specs.Settings.{each, group_of, member_of, pool_of, priority_of, ratio_of, server_of, settings_of, text_item, whole_at, one}
use Rattle.config.specs.Tables.{faults_of, flaw_of, keys_faults}
use Rattle.config.specs.Texts.{first_place, text_at}
use Rattle.config.specs.Virtuals.{rule_faults, rules_from}
use Rattle.config.specs.declared.config.GroupSettings.{GroupSettings}
use Rattle.config.specs.declared.config.Settings.{Settings}
use Rattle.config.specs.declared.fault.ConfigFaultKind.TheVariants.{NoSuch}
use Rattle.config.proofs.DocumentTypes.{Group, Name, Pool, Rule, Virtual}
use Rattle.config.specs.declared.rule_text.LoadedRule.{LoadedRule}
use Rattle.tmsh_laws.proofs.DocumentKept.{DocumentParts, bad, budget_in, connections_in, idle_in, prefix_at, refuses, rows_in}
use Rattle.tmsh_laws.proofs.GroupKept.{rule_named}
use Rattle.tmsh_laws.proofs.Groups.{GroupReads, RowReads, RuleReads}
use Rattle.tmsh_laws.proofs.Kept.{Flawless, InRange, keys_each, no_back, no_flaw, no_front, required_text, whole_kept}
use Rattle.tmsh_laws.proofs.Lines.{Each}
use Rattle.tmsh_laws.proofs.PoolKept.{MemberParts, bad as bad_member, bad_from as bad_members_from, member_parts, members_in, pool_parts, refuses as refuses_member, small_priority, small_ratio}
use Rattle.tmsh_laws.proofs.Pools.{MemberReads, PoolReads}
use Rattle.tmsh_laws.proofs.Reading.{IsRun}
use Rattle.tmsh_laws.proofs.Runs.{addr_run, name_run, number_is}
use Rattle.tmsh_laws.proofs.ServerKept.{parts, rules_in}
use Rattle.tmsh_laws.proofs.Servers.{MaybeRun, ServerReads}
use Rattle.tmsh_laws.proofs.Tabled.{all_hold, found_holds, from}
use Rattle.tmsh_laws.proofs.Tables.{group_members, member_members, pool_members, server_members}
use Rattle.tmsh_laws.proofs.Whole.{ConfigReads}
use Rattle.tmsh_text.specs.Braces.{first_rule, is_balanced, is_not_utf8, is_unbalanced}
use Rattle.tmsh_text.specs.Printed.{IsPrintable}

-- ---- names

name_at : (o : Option Data) → flaw_of key.name_key o ≡ None → IsRun (unwrap_or (option_and_then as_str o) [])
name_at o e =
    let (t, is, form) = required_text (codes "name") Name o e in
    subst (λ x. IsRun (unwrap_or (option_and_then as_str x) [])) (sym is) (name_run t form)

name_form : (ms : Members) (t : List ℕ) → Flawless ms key.name_key → text_at key.name_key.name ms ≡ Some t → IsRun t
name_form ms t e is = let run = name_at (get_member key.name_key.name ms) e in subst (λ o. IsRun (unwrap_or o [])) is run

is_there : (f : List ℕ → Option ℕ) (t : List ℕ) → missing f (Some t) ≡ None → is_some (f t) ≡ true
is_there f t e = by_test (is_some (f t)) e
  where
    by_test : (b : Bool) → (if b then None else Some NoSuch) ≡ None → b ≡ true
    by_test true e = refl
    by_test false e = absurd (cc)

-- ---- rules that may be printed

module _ (test : List ℕ → Bool) where
  none_such : (at : ℕ) (rs : List LoadedRule) → first_rule test at rs ≡ None → Each (λ r. test r.text.bytes ≡ false) rs
  none_such at [] e = tt
  none_such at (r ∷ rs) e = by_test (test r.text.bytes) refl (none_such (at + 1) rs) e
    where
      by_test : (b : Bool) → test r.text.bytes ≡ b → (first_rule test (at + 1) rs ≡ None → Each (λ x. test x.text.bytes ≡ false) rs)
          → (if b then Some at else first_rule test (at + 1) rs) ≡ None → Each (λ x. test x.text.bytes ≡ false) (r ∷ rs)
      by_test true is more e = absurd (cc)
      by_test false is more e = (is, more e)

not_false : (b : Bool) → not b ≡ false → b ≡ true
not_false true e = refl
not_false false e = absurd (false≢true (sym e))

module _ (before : List ℕ → Option (List ℕ)) (top : Members) (rs : List LoadedRule) (loaded : AreLoaded before (items_at key.rules top) rs) (is : DocumentParts top) where
  abbrev n : Names
  n = names_in top

  -- of pools and of rules
  pool_named : (at : ℕ) (ms : Members) (t : List ℕ) → bad n Pool at (Some ms) ≡ [] → text_at key.name_key.name ms ≡ Some t → IsRun t
  pool_named at ms t e there = name_form ms t (pool_parts n.version n.pools (prefix_at Pool at) at ms e).name there

  found_pool : (t : List ℕ) → is_some (n.pools t) ≡ true → IsRun t
  found_pool t some = found_holds pool_of pool_members (bad n Pool) (refuses n Pool) key.name_key.name IsRun pool_named 0 (items_at key.pools top) is.pools t some

  rule_name_ok : (at : ℕ) (ms : Members) → bad n Rule at (Some ms) ≡ [] → Flawless ms key.name_key
  rule_name_ok at ms e = (keys_each (prefix_at Rule at) rule_keys ms (no_front (keys_faults (prefix_at Rule at) rule_keys ms) _ e)).0

  rule_found : (at : ℕ) (ms : Members) (t : List ℕ) → bad n Rule at (Some ms) ≡ [] → text_at key.name_key.name ms ≡ Some t → IsRun t
  rule_found at ms t e there = name_form ms t (rule_name_ok at ms e) there

  found_rule : (t : List ℕ) → is_some (n.rules t) ≡ true → IsRun t
  found_rule t some = found_holds (λ ms. ms) (λ ms. ms) (bad n Rule) (refuses n Rule) key.name_key.name IsRun rule_found 0 (items_at key.rules top) is.rules t some

  -- ---- virtual servers

  pool_run : (o : Option (List ℕ)) → missing n.pools o ≡ None → MaybeRun o
  pool_run None e = tt
  pool_run (Some t) e = found_pool t (is_there n.pools t e)

  rule_runs : (own : List ℕ → Option ℕ) (prefix : List ℕ) (at : ℕ) (ds : Items) → rules_from n.rules own prefix at ds ≡ [] → Each IsRun (each text_item ds)
  rule_runs own prefix at no_items e = tt
  rule_runs own prefix at (item d ds) e =
      let place = item_place prefix key.rule_names.name at in
      by_text place (as_str d) (no_front (rule_faults n.rules own place at (as_str d)) _ e)
      (rule_runs own prefix (at + 1) ds (no_back (rule_faults n.rules own place at (as_str d)) _ e))
    where
      by_text : (place : List ℕ) (o : Option (List ℕ)) → rule_faults n.rules own place at o ≡ [] → Each IsRun (each text_item ds) → Each IsRun (one o ++ each text_item ds)
      by_text place None e more = absurd (cc)
      by_text place (Some t) e more =
          (found_rule t (is_there n.rules t (no_flaw place (missing n.rules (Some t)) (no_back (faults_of place (twice own at (Some t))) _ e))), more)

  server_reads : (at : ℕ) (ms : Members) → bad n Virtual at (Some ms) ≡ [] → ServerReads (server_of ms)
  server_reads at ms e =
      let prefix = prefix_at Virtual at in
      let p = parts n.servers n.listens n.pools n.rules prefix at ms e in
      let timeout : InRange 1 86400 180 (whole_at key.persist_timeout ms) = whole_kept 1 86400 180 (codes "persist_timeout") (get_member (codes "persist_timeout") ms) (omega arith, omega arith) p.back.0 in
      let number = number_is (whole_at key.persist_timeout ms) 86400 timeout.1 (omega arith) in
      let old = or_none (array_at key.rule_names ms) in
      record {
        name = name_at (get_member key.name_key.name ms) p.front.0;
        listen = addr_run (codes "listen") (get_member (codes "listen") ms) p.front.1.0;
        pool = pool_run (text_at key.pool_name.name ms) (no_flaw (key_place prefix key.pool_name.name) (missing n.pools (text_at key.pool_name.name ms)) p.there);
        small = number.small;
        timeout = number.digits;
        rules = rule_runs (first_place None old) prefix 0 old (rules_in n.rules prefix (array_at key.rule_names ms) p.its);
      }

  -- ---- pools

  member_reads : (own : List ℕ → Option ℕ) (prefix : List ℕ) (at : ℕ) (ms : Members) → MemberParts own prefix at ms → MemberReads (member_of ms)
  member_reads own prefix at ms p =
      let w = whole_at key.ratio ms in
      let q = whole_at key.priority ms in
      let w_in : InRange 1 100 1 w = whole_kept 1 100 1 (codes "ratio") (get_member (codes "ratio") ms) (omega arith, omega arith) p.ratio in
      let q_in : InRange 0 100 0 q = whole_kept 0 100 0 (codes "priority") (get_member (codes "priority") ms) (omega arith, omega arith) p.priority in
      let ratio = number_is (ratio_of w) 100 (subst (λ x. x ≤ 100) (sym (small_ratio w w_in.1)) w_in.1) (omega arith) in
      let priority = number_is (priority_of q) 100 (subst (λ x. x ≤ 100) (sym (small_priority q q_in.1)) q_in.1) (omega arith) in
      record {
        addr = addr_run (codes "addr") (get_member (codes "addr") ms) p.addr;
        ratio_small = ratio.small;
        ratio = ratio.digits;
        priority_small = priority.small;
        priority = priority.digits;
      }

  pool_reads : (at : ℕ) (ms : Members) → bad n Pool at (Some ms) ≡ [] → PoolReads (pool_of ms)
  pool_reads at ms e =
      let prefix = prefix_at Pool at in
      let v = n.version in
      let p = pool_parts v n.pools prefix at ms e in
      let most = member_count ms in
      let active : InRange 0 most 0 (whole_at (key.min_active most) ms) = whole_kept 0 most 0 (codes "min_active") (get_member (codes "min_active") ms) (omega arith, omega arith) p.active in
      let few : most ≤ 4294967295 = omega arith in
      let number = number_is (whole_at (key.min_active most) ms) most active.1 (omega (arith, few)) in
      let old = or_none (array_at key.members ms) in
      let own = first_place (Some key.addr.name) old in
      let all : from (bad_member v own prefix) 0 old ≡ [] = sym (bad_members_from v own prefix 0 old) ∙ members_in v prefix (array_at key.members ms) p.its in
      record {
        name = name_at (get_member key.name_key.name ms) p.name;
        small = number.small;
        active = number.digits;
        members =
            all_hold member_of member_members (bad_member v own prefix) (refuses_member v own prefix) MemberReads
            (λ i m f. let q = prefix_of (item_place prefix key.members.name i) in member_reads own q i m (member_parts v own q i m f)) 0 old all;
      }

  -- ---- data groups

  group_named : (at : ℕ) (ms : Members) → bad n Group at (Some ms) ≡ [] → IsRun (group_of ms).name
  group_named at ms e =
      let prefix = prefix_at Group at in
      name_at (get_member key.name_key.name ms) (keys_each prefix key.group_keys ms (no_front (keys_faults prefix key.group_keys ms) _ e)).0

  abbrev AreTexts : GroupSettings → Type 0
  AreTexts g = Each RowReads g.rows

  both_read : (gs : List GroupSettings) → Each (λ g. IsRun g.name) gs → Each AreTexts gs → Each GroupReads gs
  both_read [] names rows = tt
  both_read (g ∷ gs) names rows = (record { name = names.0; rows = rows.0 }, both_read gs names.1 rows.1)

  -- ---- rules

  rules_named : (at : ℕ) (ds : Items) (us : List LoadedRule) → AreLoaded before ds us → from (bad n Rule) at ds ≡ [] → Each (λ r. IsRun r.rule.name) us
  rules_named at no_items [] all e = tt
  rules_named at no_items (r ∷ us) all e = absurd all
  rules_named at (item d ds) [] all e = absurd all
  rules_named at (item d ds) (r ∷ us) all e =
      by_table (as_table d) refl (no_front (bad n Rule at (as_table d)) _ e) (rules_named (at + 1) ds us all.1 (no_back (bad n Rule at (as_table d)) _ e))
    where
      by_table : (o : Option Members) → as_table d ≡ o → bad n Rule at o ≡ [] → Each (λ x. IsRun x.rule.name) us → Each (λ x. IsRun x.rule.name) (r ∷ us)
      by_table None there here_ more = absurd (cc)
      by_table (Some ms) there here_ more =
          let named : r.rule.name ≡ unwrap_or (text_at key.name_key.name ms) [] =
          rule_named before d r all.0 ∙ ap (λ o. unwrap_or (option_and_then (text_at key.name_key.name) o) []) there in
          (subst IsRun (sym named) (name_at (get_member key.name_key.name ms) (rule_name_ok at ms here_)), more)

  rules_read : (us : List LoadedRule) → Each (λ r. IsRun r.rule.name) us → Each (λ r. is_unbalanced r.text.bytes ≡ false) us → Each (λ r. is_not_utf8 r.text.bytes ≡ false) us → Each RuleReads us
  rules_read [] names balanced utf8 = tt
  rules_read (r ∷ us) names balanced utf8 =
      (record { name = names.0; utf8 = not_false (is_utf8 r.text.bytes) utf8.0; balanced = not_false (is_balanced r.text.bytes) balanced.0 }, rules_read us names.1 balanced.1 utf8.1)

  -- ---- all

  abbrev S : Settings
  S = settings_of top

  pub config_reads : IsPrintable (record { settings = S; rules = rs }) → Each AreTexts S.groups → ConfigReads (record { settings = S; rules = rs })
  config_reads printable texts =
      let b = budget_in before top rs loaded is in
      let c = connections_in before top rs loaded is in
      let i = idle_in before top rs loaded is in
      let r = rows_in before top rs loaded is in
      record {
        limits = record {
          budget = number_is S.budget 1000000 b.1 (omega arith);
          connections = number_is S.connections 8192 c.1 (omega arith);
          idle = number_is S.idle 86400 i.1 (omega arith);
          rows = number_is S.rows 131072 r.1 (omega arith);
        };
        servers = all_hold server_of server_members (bad n Virtual) (refuses n Virtual) ServerReads server_reads 0 (items_at key.servers top) is.servers;
        pools = all_hold pool_of pool_members (bad n Pool) (refuses n Pool) PoolReads pool_reads 0 (items_at key.pools top) is.pools;
        rules =
            rules_read rs (rules_named 0 (items_at key.rules top) rs loaded is.rules) (none_such is_unbalanced 0 rs printable.balanced) (none_such is_not_utf8 0 rs printable.utf8);
        groups =
            both_read S.groups
            (all_hold group_of group_members (bad n Group) (refuses n Group) (λ g. IsRun g.name) group_named 0 (items_at key.groups top) is.groups) texts;
      }
