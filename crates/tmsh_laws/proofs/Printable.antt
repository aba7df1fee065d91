-- The text of a configuration is UTF-8.
use Rattle.std.proofs.Common.{◌≡◌, ℕ, Bool, true, false, eqb, List, [], ◌∷◌, length, Option, Some, None, refl}
use Rattle.std.proofs.lemmas.Str.{IsUtf8-from_is_utf8, IsUtf8-nil}
use Rattle.std.specs.Fmt.{decimal}
use Rattle.std.specs.Prelude.{IsUtf8, codes, if◌then◌else◌}
use Rattle.std.specs.Str.{is_utf8}
use Rattle.config.specs.declared.config.GroupSettings.{GroupSettings}
use Rattle.config.specs.declared.config.PoolSettings.{PoolSettings}
use Rattle.config.specs.declared.config.Settings.{Settings}
use Rattle.config.specs.declared.config.VirtualSettings.{VirtualSettings}
use Rattle.config.specs.declared.reader.LoadedConfig.{LoadedConfig}
use Rattle.config.specs.declared.rule_text.LoadedRule.{LoadedRule}
use Rattle.data_groups.specs.Groups.{Row}
use Rattle.data_groups.specs.declared.kind.GroupKind.{GroupKind}
use Rattle.data_groups.specs.declared.kind.GroupKind.TheVariants.{String, Ip, Integer}
use Rattle.pools.specs.declared.member.Member.{Member}
use Rattle.pools.specs.declared.member.Method.{Method}
use Rattle.pools.specs.declared.member.Method.TheVariants.{RoundRobin, Ratio}
use Rattle.px_bytes.specs.Address.{addr_text}
use Rattle.run_config.specs.declared.config.Persist.{Persist}
use Rattle.run_config.specs.declared.config.Persist.TheVariants as persist
use Rattle.tmsh_laws.proofs.Ascii.{is_small}
use Rattle.tmsh_laws.proofs.Groups.{GroupReads, RowReads, RuleReads}
use Rattle.tmsh_laws.proofs.Limits.{LimitsRead}
use Rattle.tmsh_laws.proofs.Lines.{Each}
use Rattle.tmsh_laws.proofs.Pools.{MemberReads, PoolReads}
use Rattle.tmsh_laws.proofs.Reading.{IsRun}
use Rattle.tmsh_laws.proofs.Servers.{MaybeRun, ServerReads}
use Rattle.tmsh_laws.proofs.Utf8.{literal, utf8_flat, utf8_if, utf8_joined, utf8_word}
use Rattle.tmsh_laws.proofs.Whole.{ConfigReads}
use Rattle.tmsh_text.specs.Items.{item, joined, number_item, short_item, stanza}
use Rattle.tmsh_text.specs.Printed.{data_item, data_record, group_items, group_text, groups_text, http_item, kind_item, limit_items, limits, member_line, member_lines, members_item, mode_item, named_rules, persist_item, pool_item, pool_items, pool_text, pools_text, printed, records, records_item, rule_text, rules_item, rules_text, server_items, server_text, servers_text}
use Rattle.tmsh_text.specs.Words.{word}

run : (w : List ℕ) → IsRun w → IsUtf8 w
run w is = IsUtf8-from_is_utf8 w is.utf8

u_item : (w v : List ℕ) → is_small w ≡ true → IsUtf8 v → IsUtf8 (item w v)
u_item w v lit utf8 =
    utf8_joined (codes "    " ∷ (w ∷ (codes " " ∷ (v ∷ (codes "\n" ∷ []))))) (literal (codes "    ") refl, (literal w lit, (literal (codes " ") refl, (utf8, (literal (codes "\n") refl, tt)))))

u_number : (w : List ℕ) (usual n : ℕ) → is_small w ≡ true → IsRun (decimal n) → IsUtf8 (number_item w usual n)
u_number w usual n lit is = utf8_if (eqb n usual) [] (item w (decimal n)) IsUtf8-nil (u_item w (decimal n) lit (run (decimal n) is))

u_short : (w : List ℕ) (usual n : ℕ) → is_small w ≡ true → IsRun (decimal n) → IsUtf8 (short_item w usual n)
u_short w usual n lit is =
    utf8_if (eqb n usual) [] (joined (codes " " ∷ (w ∷ (codes " " ∷ (decimal n ∷ []))))) IsUtf8-nil
    (utf8_joined (codes " " ∷ (w ∷ (codes " " ∷ (decimal n ∷ [])))) (literal (codes " ") refl, (literal w lit, (literal (codes " ") refl, (run (decimal n) is, tt)))))

u_stanza : (head name items : List ℕ) → is_small head ≡ true → IsUtf8 name → IsUtf8 items → IsUtf8 (stanza head name items)
u_stanza head name items lit n i =
    utf8_joined (head ∷ (name ∷ (codes " {\n" ∷ (items ∷ (codes "}\n" ∷ []))))) (literal head lit, (n, (literal (codes " {\n") refl, (i, (literal (codes "}\n") refl, tt)))))

-- a list of lines between braces, unless it is empty
u_lines : (none : Bool) (head lines : List ℕ) → is_small head ≡ true → IsUtf8 lines → IsUtf8 (if none then [] else joined (head ∷ (lines ∷ (codes "    }\n" ∷ []))))
u_lines none head lines lit utf8 =
    utf8_if none [] (joined (head ∷ (lines ∷ (codes "    }\n" ∷ [])))) IsUtf8-nil (utf8_joined (head ∷ (lines ∷ (codes "    }\n" ∷ []))) (literal head lit, (utf8, (literal (codes "    }\n") refl, tt))))

-- ---- limits

u_limits : (s : Settings) → LimitsRead s → IsUtf8 (limits s)
u_limits s is =
    let items : IsUtf8 (limit_items s) =
    utf8_joined (number_item (codes "budget") 100000 s.budget ∷ (number_item (codes "connections") 512 s.connections ∷ (number_item (codes "idle") 300 s.idle ∷ (number_item (codes "rows") 65536 s.rows ∷ [])))) (
      u_number (codes "budget") 100000 s.budget refl is.budget.digits,
      (
        u_number (codes "connections") 512 s.connections refl is.connections.digits,
        (u_number (codes "idle") 300 s.idle refl is.idle.digits, (u_number (codes "rows") 65536 s.rows refl is.rows.digits, tt)),
      ),
    ) in
    utf8_if (eqb (length (limit_items s)) 0) (limit_items s) (stanza (codes "sys limits") [] (limit_items s)) items (u_stanza (codes "sys limits") [] (limit_items s) refl IsUtf8-nil items)

-- ---- virtual servers

u_http : (http : Bool) → IsUtf8 (http_item http)
u_http true = literal (codes "    profiles { http }\n") refl
u_http false = IsUtf8-nil

u_pool : (name : Option (List ℕ)) → MaybeRun name → IsUtf8 (pool_item name)
u_pool None is = IsUtf8-nil
u_pool (Some name) is = u_item (codes "pool") name refl (run name is)

u_persist : (p : Persist) → IsUtf8 (persist_item p)
u_persist persist.None = IsUtf8-nil
u_persist persist.SourceAddr = literal (codes "    persist source_addr\n") refl
u_persist persist.Cookie = literal (codes "    persist cookie\n") refl

u_named : (name : List ℕ) → IsRun name → IsUtf8 (joined (codes " " ∷ (name ∷ [])))
u_named name is = utf8_joined (codes " " ∷ (name ∷ [])) (literal (codes " ") refl, (run name is, tt))

u_rules : (names : List (List ℕ)) → Each IsRun names → IsUtf8 (rules_item names)
u_rules names each =
    let texts : IsUtf8 (named_rules names) = utf8_flat (λ name. joined (codes " " ∷ (name ∷ []))) IsRun u_named names each in
    utf8_if (eqb (length names) 0) [] (joined (codes "    rules {" ∷ (named_rules names ∷ (codes " }\n" ∷ [])))) IsUtf8-nil
    (utf8_joined (codes "    rules {" ∷ (named_rules names ∷ (codes " }\n" ∷ []))) (literal (codes "    rules {") refl, (texts, (literal (codes " }\n") refl, tt))))

u_server : (v : VirtualSettings) → ServerReads v → IsUtf8 (server_text v)
u_server v is =
    u_stanza (codes "ltm virtual ") v.name (server_items v) refl (run v.name is.name)
    (utf8_joined (item (codes "destination") (addr_text v.listen) ∷ (http_item v.http ∷ (pool_item v.pool ∷ (persist_item v.persist ∷ (number_item (codes "persist-timeout") 180 v.persist_timeout ∷ (rules_item v.rules ∷ [])))))) (
      u_item (codes "destination") (addr_text v.listen) refl (run (addr_text v.listen) is.listen),
      (u_http v.http, (u_pool v.pool is.pool, (u_persist v.persist, (u_number (codes "persist-timeout") 180 v.persist_timeout refl is.timeout, (u_rules v.rules is.rules, tt))))),
    ))

-- ---- pools

u_mode : (m : Method) → IsUtf8 (mode_item m)
u_mode RoundRobin = IsUtf8-nil
u_mode Ratio = literal (codes "    load-balancing-mode ratio-member\n") refl

u_member : (m : Member) → MemberReads m → IsUtf8 (member_line m)
u_member m is =
    utf8_joined (codes "        " ∷ (addr_text m.addr ∷ (codes " {" ∷ (short_item (codes "ratio") 1 m.ratio ∷ (short_item (codes "priority-group") 0 m.priority ∷ (codes " }\n" ∷ [])))))) (
      literal (codes "        ") refl,
      (
        run (addr_text m.addr) is.addr,
        (literal (codes " {") refl, (u_short (codes "ratio") 1 m.ratio refl is.ratio, (u_short (codes "priority-group") 0 m.priority refl is.priority, (literal (codes " }\n") refl, tt)))),
      ),
    )

u_pool_text : (p : PoolSettings) → PoolReads p → IsUtf8 (pool_text p)
u_pool_text p is =
    u_stanza (codes "ltm pool ") p.name (pool_items p) refl (run p.name is.name)
    (utf8_joined (mode_item p.method ∷ (number_item (codes "min-active-members") 0 p.min_active ∷ (members_item p.members ∷ []))) (
      u_mode p.method,
      (
        u_number (codes "min-active-members") 0 p.min_active refl is.active,
        (u_lines (eqb (length p.members) 0) (codes "    members {\n") (member_lines p.members) refl (utf8_flat member_line MemberReads u_member p.members is.members), tt),
      ),
    ))

-- ---- rules and data groups

u_rule : (r : LoadedRule) → RuleReads r → IsUtf8 (rule_text r)
u_rule r is =
    utf8_joined (codes "ltm rule " ∷ (r.rule.name ∷ (codes " {" ∷ (r.text.bytes ∷ (codes "}\n" ∷ [])))))
    (literal (codes "ltm rule ") refl, (run r.rule.name is.name, (literal (codes " {") refl, (IsUtf8-from_is_utf8 r.text.bytes is.utf8, (literal (codes "}\n") refl, tt)))))

u_kind : (k : GroupKind) → IsUtf8 (kind_item k)
u_kind String = literal (codes "    type string\n") refl
u_kind Ip = literal (codes "    type ip\n") refl
u_kind Integer = literal (codes "    type integer\n") refl

u_data : (value : List ℕ) → is_utf8 value ≡ true → IsUtf8 (data_item value)
u_data value is =
    utf8_if (eqb (length value) 0) [] (joined (codes " data " ∷ (word value ∷ []))) IsUtf8-nil (utf8_joined (codes " data " ∷ (word value ∷ [])) (literal (codes " data ") refl, (utf8_word value is, tt)))

u_row : (row : Row) → RowReads row → IsUtf8 (data_record row)
u_row row is =
    utf8_joined (codes "        " ∷ (word row.0 ∷ (codes " {" ∷ (data_item row.1 ∷ (codes " }\n" ∷ [])))))
    (literal (codes "        ") refl, (utf8_word row.0 is.key, (literal (codes " {") refl, (u_data row.1 is.value, (literal (codes " }\n") refl, tt)))))

u_group : (g : GroupSettings) → GroupReads g → IsUtf8 (group_text g)
u_group g is =
    u_stanza (codes "ltm data-group internal ") g.name (group_items g) refl (run g.name is.name)
    (utf8_joined (kind_item g.kind ∷ (records_item g.rows ∷ []))
    (u_kind g.kind, (u_lines (eqb (length g.rows) 0) (codes "    records {\n") (records g.rows) refl (utf8_flat data_record RowReads u_row g.rows is.rows), tt)))

pub printed_utf8 : (C : LoadedConfig) → ConfigReads C → IsUtf8 (printed C)
printed_utf8 C is =
    utf8_joined (limits C.settings ∷ (servers_text C.settings.virtuals ∷ (pools_text C.settings.pools ∷ (rules_text C.rules ∷ (groups_text C.settings.groups ∷ []))))) (
      u_limits C.settings is.limits,
      (
        utf8_flat server_text ServerReads u_server C.settings.virtuals is.servers,
        (
          utf8_flat pool_text PoolReads u_pool_text C.settings.pools is.pools,
          (utf8_flat rule_text RuleReads u_rule C.rules is.rules, (utf8_flat group_text GroupReads u_group C.settings.groups is.groups, tt)),
        ),
      ),
    )
