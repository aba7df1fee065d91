-- What is printed of a configuration means its table.
use Rattle.std.proofs.Common.{◌≡◌, ℕ, Bool, List, [], ◌∷◌, ◌++◌, append-nil, Ok, refl, sym, ap, subst, ◌∙◌}
use Rattle.std.specs.Prelude.{IsUtf8, codes, fold, pos}
use Rattle.toml.specs.Data.{integer, table, Items, no_items, item, Members, no_members}
use Rattle.config.specs.declared.config.GroupSettings.{GroupSettings}
use Rattle.config.specs.declared.config.PoolSettings.{PoolSettings}
use Rattle.config.specs.declared.config.VirtualSettings.{VirtualSettings}
use Rattle.config.specs.declared.reader.LoadedConfig.{LoadedConfig}
use Rattle.config.specs.declared.rule_text.LoadedRule.{LoadedRule}
use Rattle.tmsh_laws.proofs.Groups.{GroupReads, RuleReads, group_goes, rule_goes, with_group, with_rule}
use Rattle.tmsh_laws.proofs.Limits.{LimitsRead, limited, limits_go}
use Rattle.tmsh_laws.proofs.Lines.{Each, Goes, all_go, nothing, put}
use Rattle.tmsh_laws.proofs.Pools.{PoolReads, pool_goes, with_pool}
use Rattle.tmsh_laws.proofs.Reading.{ReadsAll}
use Rattle.tmsh_laws.proofs.Servers.{ServerReads, piece, pushed, pushed_is, server_goes, with_server}
use Rattle.tmsh_laws.proofs.Stanzas.{idle}
use Rattle.tmsh_laws.proofs.Tables.{array_entry, config_members, group_members, limit_entries, pool_members, puts, rule_members, server_members, tables}
use Rattle.tmsh_read.specs.Reading.{Means, Reads, ended, blank, finished, with_array}
use Rattle.tmsh_read.specs.Sketch.{Sketch}
use Rattle.tmsh_read.specs.Tables.{with_member}
use Rattle.tmsh_read.proofs.GapKinds.{LineStart}
use Rattle.tmsh_read.proofs.NextKinds as next
use Rattle.tmsh_text.specs.Printed.{group_text, groups_text, limits, pool_text, pools_text, printed, rule_text, rules_text, server_text, servers_text}

pub record ConfigReads (C : LoadedConfig) : Type 0 where
  pub limits : LimitsRead C.settings
  pub servers : Each ServerReads C.settings.virtuals
  pub pools : Each PoolReads C.settings.pools
  pub rules : Each RuleReads C.rules
  pub groups : Each GroupReads C.settings.groups

-- ---- many stanzas

many_servers : (vs : List VirtualSettings) (s : Sketch) → fold with_server s vs ≡ record s { servers = pushed (λ v. table (server_members v)) s.servers vs }
many_servers [] s = refl
many_servers (v ∷ vs) s = many_servers vs (with_server s v)

many_pools : (ps : List PoolSettings) (s : Sketch) → fold with_pool s ps ≡ record s { pools = pushed (λ p. table (pool_members p)) s.pools ps }
many_pools [] s = refl
many_pools (p ∷ ps) s = many_pools ps (with_pool s p)

many_rules : (rs : List LoadedRule) (s : Sketch) → fold with_rule s rs ≡ record s { rules = pushed (λ r. table (rule_members r)) s.rules rs }
many_rules [] s = refl
many_rules (r ∷ rs) s = many_rules rs (with_rule s r)

many_groups : (gs : List GroupSettings) (s : Sketch) → fold with_group s gs ≡ record s { groups = pushed (λ g. table (group_members g)) s.groups gs }
many_groups [] s = refl
many_groups (g ∷ gs) s = many_groups gs (with_group s g)

-- ---- the table

put_array : (k : List ℕ) (ds : Items) (m : Members) → with_array k ds m ≡ put k (array_entry ds) m
put_array k no_items m = refl
put_array k (item d ds) m = refl

module _ (C : LoadedConfig) (b : Bool) where
  abbrev limit_table : Members
  limit_table = puts (limit_entries C.settings) no_members

  abbrev start : Sketch
  start = limited next.Stanza b limit_table

  -- all was read
  abbrev whole : (servers pools rules groups : Items) → Sketch
  whole vs ps rs gs = record start { servers = vs; pools = ps; rules = rs; groups = gs }

  table_is : finished (whole (tables server_members C.settings.virtuals) (tables pool_members C.settings.pools) (tables rule_members C.rules) (tables group_members C.settings.groups)) ≡ config_members C
  table_is =
      let m0 = with_member (codes "version") (integer (pos 2)) limit_table in
      let vs = tables server_members C.settings.virtuals in
      let ps = tables pool_members C.settings.pools in
      let rs = tables rule_members C.rules in
      let gs = tables group_members C.settings.groups in
      let m1 = put (codes "virtual") (array_entry vs) m0 in
      let m2 = put (codes "pool") (array_entry ps) m1 in
      let m3 = put (codes "rule") (array_entry rs) m2 in
      ap (λ m. with_array (codes "group") gs (with_array (codes "rule") rs (with_array (codes "pool") ps m))) (put_array (codes "virtual") vs m0)
      ∙ ap (λ m. with_array (codes "group") gs (with_array (codes "rule") rs m)) (put_array (codes "pool") ps m1)
      ∙ ap (λ m. with_array (codes "group") gs m) (put_array (codes "rule") rs m2)
      ∙ put_array (codes "group") gs m3

-- ---- the text

module _ (C : LoadedConfig) (is : ConfigReads C) where
  module _ (b : Bool) (head : Goes LineStart blank (limits C.settings) LineStart (limited next.Stanza b (puts (limit_entries C.settings) no_members))) where
    abbrev idles : Sketch → Sketch
    idles s = idle s next.Stanza

    abbrev s0 : Sketch
    s0 = start C b

    abbrev s1 : Sketch
    s1 = fold with_server s0 C.settings.virtuals

    abbrev s2 : Sketch
    s2 = fold with_pool s1 C.settings.pools

    abbrev s3 : Sketch
    s3 = fold with_rule s2 C.rules

    abbrev s4 : Sketch
    s4 = fold with_group s3 C.settings.groups

    all_read : Goes LineStart blank (printed C) LineStart (idles s4)
    all_read =
        let vs = C.settings.virtuals in
        let ps = C.settings.pools in
        let gs = C.settings.groups in
        let p1 = limits C.settings in
        let p2 = servers_text vs in
        let p3 = pools_text ps in
        let p4 = rules_text C.rules in
        let p5 = groups_text gs in
        piece blank (idles s0) (idles s4) p1 (p2 ∷ (p3 ∷ (p4 ∷ (p5 ∷ [])))) head
        (piece (idles s0) (idles s1) (idles s4) p2 (p3 ∷ (p4 ∷ (p5 ∷ []))) (all_go LineStart server_text idles with_server ServerReads server_goes vs is.servers s0)
        (piece (idles s1) (idles s2) (idles s4) p3 (p4 ∷ (p5 ∷ [])) (all_go LineStart pool_text idles with_pool PoolReads pool_goes ps is.pools s1)
        (piece (idles s2) (idles s3) (idles s4) p4 (p5 ∷ []) (all_go LineStart rule_text idles with_rule RuleReads rule_goes C.rules is.rules s2)
        (piece (idles s3) (idles s4) (idles s4) p5 [] (all_go LineStart group_text idles with_group GroupReads group_goes gs is.groups s3) (nothing LineStart (idles s4))))))

    last_is : idles s4 ≡ whole C b (tables server_members C.settings.virtuals) (tables pool_members C.settings.pools) (tables rule_members C.rules) (tables group_members C.settings.groups)
    last_is =
        let vs = C.settings.virtuals in
        let ps = C.settings.pools in
        let gs = C.settings.groups in
        let f1 : s1 ≡ whole C b (tables server_members vs) no_items no_items no_items =
        many_servers vs s0 ∙ ap (λ x. whole C b x no_items no_items no_items) (pushed_is (λ v. table (server_members v)) vs) in
        let f2 : s2 ≡ whole C b (tables server_members vs) (tables pool_members ps) no_items no_items =
        ap (λ s. fold with_pool s ps) f1 ∙ many_pools ps (whole C b (tables server_members vs) no_items no_items no_items)
        ∙ ap (λ x. whole C b (tables server_members vs) x no_items no_items) (pushed_is (λ p. table (pool_members p)) ps) in
        let f3 : s3 ≡ whole C b (tables server_members vs) (tables pool_members ps) (tables rule_members C.rules) no_items =
        ap (λ s. fold with_rule s C.rules) f2 ∙ many_rules C.rules (whole C b (tables server_members vs) (tables pool_members ps) no_items no_items)
        ∙ ap (λ x. whole C b (tables server_members vs) (tables pool_members ps) x no_items) (pushed_is (λ r. table (rule_members r)) C.rules) in
        let f4 : s4 ≡ whole C b (tables server_members vs) (tables pool_members ps) (tables rule_members C.rules) (tables group_members gs) =
        ap (λ s. fold with_group s gs) f3 ∙ many_groups gs (whole C b (tables server_members vs) (tables pool_members ps) (tables rule_members C.rules) no_items)
        ∙ ap (λ x. whole C b (tables server_members vs) (tables pool_members ps) (tables rule_members C.rules) x) (pushed_is (λ g. table (group_members g)) gs) in
        ap idles f4

    pub means_by : IsUtf8 (printed C) → Means (printed C) (config_members C)
    means_by utf8 =
        let last = idles s4 in
        let end : ReadsAll LineStart last [] last = λ at. ended LineStart last at [] last refl in
        let read : Reads LineStart blank 0 (printed C ++ []) (Ok last) = all_read [] last end 0 in
        record {
          utf8 = utf8;
          filled = record {
            last = last;
            reads = subst (λ text. Reads LineStart blank 0 text (Ok last)) (append-nil (printed C)) read;
            table_is = sym (ap finished last_is ∙ table_is C b);
          };
        }

  pub means : IsUtf8 (printed C) → Means (printed C) (config_members C)
  means utf8 = let (b, head) = limits_go C.settings is.limits in means_by b head utf8
