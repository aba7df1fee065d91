-- The table of a pool in print is one without faults, and says the same.
use Rattle.std.proofs.Common.{◌≡◌, ℕ, ◌+◌, ◌≤◌, Bool, true, false, List, [], ◌∷◌, ◌++◌, Option, Some, None, Less, Equal, Greater, refl, sym, ap, subst, ◌∙◌, arith}
use Rattle.std.proofs.lemmas.Bool.{false≢true}
use Rattle.std.proofs.lemmas.Bool.Decides.{nat_tests}
use Rattle.std.proofs.lemmas.Map.Lookups.{exact_bytes}
use Rattle.std.specs.Cmp.Lexicographic.{slice_cmp}
use Rattle.std.specs.Ordering.{match_ordering, nat_cmp}
use Rattle.std.specs.Prelude.{codes, cond, if◌then◌else◌, min, nat_le, option_and_then, unwrap_or}
use Rattle.pools.specs.declared.member.Member.{Member}
use Rattle.pools.specs.declared.member.Method.{Method}
use Rattle.pools.specs.declared.member.Method.TheVariants.{RoundRobin, Ratio}
use Rattle.px_bytes.specs.Address.{addr_text}
use Rattle.px_bytes.specs.declared.addr.Addr.{Addr}
use Rattle.tcl_encodings.specs.Addr.{addr_of}
use Rattle.toml.specs.Data.{Data, string, Items, no_items, item, Members, no_members, member, as_array, as_integer, as_str, as_table, get_member}
use Rattle.config.specs.Documents.{or_none}
use Rattle.config.specs.Faults.{fault_at}
use Rattle.config.specs.Keys as key
use Rattle.config.specs.Keys.{TableKey, member_keys, min_active, pool_keys, whole}
use Rattle.config.specs.Names.{once_faults, twice}
use Rattle.config.specs.Places.{item_place, key_place, prefix_of}
use Rattle.config.specs.Pools.{member_at, member_faults, members_from, members_of, pool_faults, pool_keys_faults}
use Rattle.config.specs.Read.{among, array_at, chosen, member_count, tables_at, tables_in}
use Rattle.config.specs.Settings.{addr_at, each, given, member_item, member_of, method_of, no_addr, pool_of, priority_of, ratio_of, whole_at, whole_or}
use Rattle.config.specs.Tables.{faults_of, flaw_of, is_known, keys_faults, unknown_at, unknown_faults}
use Rattle.config.specs.Texts.{first_place, text_at}
use Rattle.config.specs.Values.{items_length}
use Rattle.config.specs.declared.config.PoolSettings.{PoolSettings}
use Rattle.config.specs.declared.fault.ConfigFault.{ConfigFault}
use Rattle.config.specs.declared.fault.ConfigFaultKind.TheVariants.{UnknownKey}
use Rattle.config.proofs.DocumentTypes.{Address, Name, One, Two, Version, by_version}
use Rattle.tmsh_laws.proofs.Kept.{Flawless, InRange, addr_back, all_known, array_ok, array_says, at_key, each_keys, flawless, keys_each, no_back, no_front, none, number_ok, number_says, required_text, same_twice, whole_kept}
use Rattle.tmsh_laws.proofs.Lines.{Each, number_entry}
use Rattle.tmsh_laws.proofs.Tabled.{all_kept, all_say, anew, as_many, as_many_tables, from, same_places}
use Rattle.tmsh_laws.proofs.Tables.{array_entry, member_entries, member_members, method_entry, pool_entries, pool_members}

-- ---- keys that aren't there

module _ (prefix : List ℕ) (keys : List TableKey) where
  known : (name : List ℕ) (b : Bool) → cond b [] (fault_at UnknownKey (key_place prefix name) ∷ []) ≡ [] → b ≡ true
  known name true e = refl
  known name false e = cc

  -- a key that isn't one of the table's
  pub absent : (k : List ℕ) (ms : Members) → is_known keys k ≡ false → unknown_faults prefix keys ms ≡ [] → get_member k ms ≡ None
  absent k no_members other e = refl
  absent k (member l d ms) other e =
      let here = known l (is_known keys l) (no_front (unknown_at prefix keys l) (unknown_faults prefix keys ms) e) in
      let more = absent k ms other (no_back (unknown_at prefix keys l) _ e) in
      elim (slice_cmp nat_cmp k l) as (λ o. slice_cmp nat_cmp k l ≡ o → match_ordering o (get_member k ms) (Some d) (get_member k ms) ≡ None) [
        | Less ↦ λ is. more
        | Equal ↦ λ is. absurd (false≢true (sym other ∙ ap (is_known keys) (exact_bytes k l is) ∙ here))
        | Greater ↦ λ is. more
      ] refl

-- ---- members

pub small_ratio : (n : ℕ) → n ≤ 100 → ratio_of n ≡ n
small_ratio n h = let t : nat_le n 100 ≡ true = grind (arith, nat_tests, h) in ap (λ x. if x then n else 1) t

pub small_priority : (n : ℕ) → n ≤ 100 → priority_of n ≡ n
small_priority n h = let t : nat_le n 100 ≡ true = grind (arith, nat_tests, h) in ap (λ x. if x then n else 0) t

-- of either version
pub record MemberParts (own : List ℕ → Option ℕ) (prefix : List ℕ) (at : ℕ) (ms : Members) : Type 0 where
  pub addr : Flawless ms key.addr
  pub ratio : Flawless ms key.ratio
  pub priority : Flawless ms key.priority
  pub once : once_faults own at prefix key.addr ms ≡ []

member_one : (own : List ℕ → Option ℕ) (prefix : List ℕ) (at : ℕ) (ms : Members) → member_faults One own prefix at ms ≡ [] → MemberParts own prefix at ms
member_one own prefix at ms e =
    let keys = keys_faults prefix (member_keys One) ms in
    let unknown = unknown_faults prefix (member_keys One) ms in
    let each = keys_each prefix (member_keys One) ms (no_front keys _ e) in
    let behind = no_back keys _ e in
    record {
      addr = each.0;
      ratio = each.1.0;
      priority = ap (flaw_of key.priority) (absent prefix (member_keys One) key.priority.name ms refl (no_front unknown _ behind));
      once = no_back unknown (once_faults own at prefix key.addr ms) behind;
    }

member_two : (own : List ℕ → Option ℕ) (prefix : List ℕ) (at : ℕ) (ms : Members) → member_faults Two own prefix at ms ≡ [] → MemberParts own prefix at ms
member_two own prefix at ms e =
    let keys = keys_faults prefix (member_keys Two) ms in
    let unknown = unknown_faults prefix (member_keys Two) ms in
    let each = keys_each prefix (member_keys Two) ms (no_front keys _ e) in
    record {
      addr = each.0;
      ratio = each.1.0;
      priority = each.1.1.0;
      once = no_back unknown (once_faults own at prefix key.addr ms) (no_back keys _ e);
    }

pub member_parts : (v : Version) (own : List ℕ → Option ℕ) (prefix : List ℕ) (at : ℕ) (ms : Members) → member_faults v own prefix at ms ≡ [] → MemberParts own prefix at ms
member_parts v own prefix at ms e =
    by_version (λ w. member_faults w own prefix at ms ≡ [] → MemberParts own prefix at ms) (member_one own prefix at ms) (member_two own prefix at ms) v e

record MemberKept (own : List ℕ → Option ℕ) (prefix : List ℕ) (at : ℕ) (ms : Members) : Type 0 where
  faultless : member_faults Two own prefix at (member_members (member_of ms)) ≡ []
  says : member_of (member_members (member_of ms)) ≡ member_of ms
  addr : text_at key.addr.name (member_members (member_of ms)) ≡ text_at key.addr.name ms

module _ (own others : List ℕ → Option ℕ) (same : (t : List ℕ) → others t ≡ own t) (prefix : List ℕ) (at : ℕ) (ms : Members) (is : MemberParts own prefix at ms) where
  abbrev m : Member
  m = member_of ms

  abbrev d : Members
  d = member_members m

  ratio_was : InRange 1 100 1 (whole_at key.ratio ms)
  ratio_was = whole_kept 1 100 1 key.ratio.name (get_member key.ratio.name ms) (omega arith, omega arith) is.ratio

  priority_was : InRange 0 100 0 (whole_at key.priority ms)
  priority_was = whole_kept 0 100 0 key.priority.name (get_member key.priority.name ms) (omega arith, omega arith) is.priority

  same_ratio : m.ratio ≡ whole_at key.ratio ms
  same_ratio = small_ratio (whole_at key.ratio ms) ratio_was.1

  same_priority : m.priority ≡ whole_at key.priority ms
  same_priority = small_priority (whole_at key.priority ms) priority_was.1

  ratio_in : InRange 1 100 1 m.ratio
  ratio_in = subst (InRange 1 100 1) (sym same_ratio) ratio_was

  priority_in : InRange 0 100 0 m.priority
  priority_in = subst (InRange 0 100 0) (sym same_priority) priority_was

  new_addr : get_member (codes "addr") d ≡ get_member (codes "addr") ms
  new_addr =
      let (t, there, form) = required_text (codes "addr") Address (get_member (codes "addr") ms) is.addr in
      at_key (member_entries m) (codes "addr") (Some (string (addr_text m.addr))) refl
      ∙ ap (λ o. Some (string (addr_text (unwrap_or (option_and_then addr_of (option_and_then as_str o)) no_addr)))) there
      ∙ ap (λ x. Some (string x)) (addr_back t form) ∙ sym there

  new_ratio : get_member (codes "ratio") d ≡ number_entry 1 m.ratio
  new_ratio = at_key (member_entries m) (codes "ratio") (number_entry 1 m.ratio) refl

  new_priority : get_member (codes "priority") d ≡ number_entry 0 m.priority
  new_priority = at_key (member_entries m) (codes "priority") (number_entry 0 m.priority) refl

  faultless : member_faults Two others prefix at d ≡ []
  faultless =
      none _ _
      (each_keys prefix (member_keys Two) d (
        flawless d key.addr (get_member (codes "addr") ms) new_addr is.addr,
        (
          flawless d key.ratio (number_entry 1 m.ratio) new_ratio (number_ok 1 100 1 (codes "ratio") m.ratio ratio_in),
          (flawless d key.priority (number_entry 0 m.priority) new_priority (number_ok 0 100 0 (codes "priority") m.priority priority_in), tt),
        ),
      ))
      (none _ _ (all_known prefix (member_keys Two) (member_entries m) no_members (refl, (refl, (refl, tt))) refl)
      (ap (faults_of (key_place prefix key.addr.name)) (ap (λ o. twice others at (option_and_then as_str o)) new_addr ∙ same_twice others own same at (text_at key.addr.name ms)) ∙ is.once))

  says_ratio : ratio_of (whole_at key.ratio d) ≡ m.ratio
  says_ratio =
      ap ratio_of (ap (λ o. whole_or key.ratio.kind (option_and_then as_integer o)) new_ratio ∙ number_says 1 100 1 m.ratio ratio_in) ∙ small_ratio m.ratio ratio_in.1

  says_priority : priority_of (whole_at key.priority d) ≡ m.priority
  says_priority =
      ap priority_of (ap (λ o. whole_or key.priority.kind (option_and_then as_integer o)) new_priority ∙ number_says 0 100 0 m.priority priority_in) ∙ small_priority m.priority priority_in.1

  says_addr : addr_at key.addr d ≡ m.addr
  says_addr = ap (λ o. unwrap_or (option_and_then addr_of (option_and_then as_str o)) no_addr) new_addr

  abbrev made : Addr → ℕ → ℕ → Member
  made a r p = record { addr = a; ratio = r; priority = p }

  member_kept_by : MemberKept others prefix at ms
  member_kept_by = record {
    faultless = faultless;
    says =
        ap (λ p. made (addr_at key.addr d) (ratio_of (whole_at key.ratio d)) p) says_priority ∙ ap (λ r. made (addr_at key.addr d) r m.priority) says_ratio
        ∙ ap (λ a. made a m.ratio m.priority) says_addr;
    addr = ap (option_and_then as_str) new_addr;
  }

-- ---- all members

module _ (v : Version) (own : List ℕ → Option ℕ) (prefix : List ℕ) where
  abbrev pub bad : ℕ → Option Members → List ConfigFault
  bad at o = member_at v own (item_place prefix key.members.name at) at o

  pub bad_from : (at : ℕ) (ds : Items) → members_from v own prefix at ds ≡ from bad at ds
  bad_from at no_items = refl
  bad_from at (item d ds) = ap (λ x. bad at (as_table d) ++ x) (bad_from (at + 1) ds)

pub refuses : (v : Version) (own : List ℕ → Option ℕ) (prefix : List ℕ) (at : ℕ) → bad v own prefix at None ≡ [] → Unit {0} × ⊥
refuses v own prefix at e = absurd (cc)

abbrev anew_members : Items → Items
anew_members ds = anew member_of member_members ds

module _ (v : Version) (own : List ℕ → Option ℕ) (prefix : List ℕ) (ds : Items) (e : members_from v own prefix 0 ds ≡ []) where
  of_from : from (bad v own prefix) 0 ds ≡ []
  of_from = sym (bad_from v own prefix 0 ds) ∙ e

  self : (t : List ℕ) → own t ≡ own t
  self t = refl

  one_kept : (others : List ℕ → Option ℕ) → ((t : List ℕ) → others t ≡ own t) → (at : ℕ) (ms : Members) → bad v own prefix at (Some ms) ≡ []
      → MemberKept others (prefix_of (item_place prefix key.members.name at)) at ms
  one_kept others same at ms is =
      let p = prefix_of (item_place prefix key.members.name at) in
      member_kept_by own others same p at ms (member_parts v own p at ms is)

  members_say : each member_item (anew_members ds) ≡ each member_item ds
  members_say = all_say member_of member_members (bad v own prefix) (refuses v own prefix) (λ at ms is. (one_kept own self at ms is).says) 0 ds of_from

  members_long : items_length (anew_members ds) ≡ items_length ds
  members_long = as_many member_of member_members (bad v own prefix) (refuses v own prefix) 0 ds of_from

  members_places : (t : List ℕ) → first_place (Some key.addr.name) (anew_members ds) t ≡ first_place (Some key.addr.name) ds t
  members_places t =
      same_places member_of member_members (bad v own prefix) (refuses v own prefix) key.addr.name (λ at ms is. (one_kept own self at ms is).addr) 0 ds of_from t

  members_kept : (others : List ℕ → Option ℕ) → ((t : List ℕ) → others t ≡ own t) → members_from Two others prefix 0 (anew_members ds) ≡ []
  members_kept others same =
      bad_from Two others prefix 0 (anew_members ds)
      ∙ all_kept member_of member_members (bad v own prefix) (refuses v own prefix) (bad Two others prefix) (λ at ms is. (one_kept others same at ms is).faultless) 0 ds of_from

-- ---- a pool

method_ok : (method : Method) → flaw_of key.method (method_entry method) ≡ None
method_ok RoundRobin = refl
method_ok Ratio = refl

abbrev method_by : Option Data → Method
method_by o = method_of (option_and_then (among key.method.kind) (option_and_then as_str o))

method_says : (method : Method) → method_by (method_entry method) ≡ method
method_says RoundRobin = refl
method_says Ratio = refl

pub members_in : (v : Version) (prefix : List ℕ) (o : Option Items) → members_of v prefix o ≡ [] → members_from v (first_place (Some key.addr.name) (or_none o)) prefix 0 (or_none o) ≡ []
members_in v prefix None e = refl
members_in v prefix (Some ds) e = e

members_by : (v : Version) (prefix : List ℕ) (ds : Items) → members_of v prefix (option_and_then as_array (array_entry ds)) ≡ members_from v (first_place (Some key.addr.name) ds) prefix 0 ds
members_by v prefix no_items = refl
members_by v prefix (item d ds) = refl

count_in : (o : Option Items) → tables_at o ≡ tables_in (or_none o)
count_in None = refl
count_in (Some ds) = refl

count_by : (ds : Items) → tables_at (option_and_then as_array (array_entry ds)) ≡ tables_in ds
count_by no_items = refl
count_by (item d ds) = refl

pub record PoolParts (v : Version) (pools : List ℕ → Option ℕ) (prefix : List ℕ) (at : ℕ) (ms : Members) : Type 0 where
  pub name : Flawless ms key.name_key
  pub method : Flawless ms key.method
  pub members : Flawless ms key.members
  pub active : Flawless ms (min_active (member_count ms))
  pub once : once_faults pools at prefix key.name_key ms ≡ []
  pub its : members_of v prefix (array_at key.members ms) ≡ []

module _ (pools : List ℕ → Option ℕ) (prefix : List ℕ) (at : ℕ) (ms : Members) where
  pool_one : pool_keys_faults One prefix ms ≡ [] → once_faults pools at prefix key.name_key ms ≡ [] → members_of One prefix (array_at key.members ms) ≡ [] → PoolParts One pools prefix at ms
  pool_one keys once its =
      let all = pool_keys One (member_count ms) in
      let each = keys_each prefix all ms (no_front (keys_faults prefix all ms) _ keys) in
      let unknown : unknown_faults prefix all ms ≡ [] = no_back (keys_faults prefix all ms) _ keys in
      record {
        name = each.0;
        method = each.1.0;
        members = each.1.1.0;
        active = ap (flaw_of (min_active (member_count ms))) (absent prefix all (min_active (member_count ms)).name ms refl unknown);
        once = once;
        its = its;
      }

  pool_two : pool_keys_faults Two prefix ms ≡ [] → once_faults pools at prefix key.name_key ms ≡ [] → members_of Two prefix (array_at key.members ms) ≡ [] → PoolParts Two pools prefix at ms
  pool_two keys once its =
      let all = pool_keys Two (member_count ms) in
      let each = keys_each prefix all ms (no_front (keys_faults prefix all ms) _ keys) in
      record { name = each.0; method = each.1.0; members = each.1.1.0; active = each.1.1.1.0; once = once; its = its }

pub pool_parts : (v : Version) (pools : List ℕ → Option ℕ) (prefix : List ℕ) (at : ℕ) (ms : Members) → pool_faults v pools prefix at ms ≡ [] → PoolParts v pools prefix at ms
pool_parts v pools prefix at ms e =
    let of_keys = pool_keys_faults v prefix ms in
    let once = once_faults pools at prefix key.name_key ms in
    let its = members_of v prefix (array_at key.members ms) in
    by_version (λ w. pool_keys_faults w prefix ms ≡ [] → once_faults pools at prefix key.name_key ms ≡ [] → members_of w prefix (array_at key.members ms) ≡ [] → PoolParts w pools prefix at ms)
    (pool_one pools prefix at ms) (pool_two pools prefix at ms) v (no_front of_keys _ e) (no_front once its (no_back of_keys _ e)) (no_back once its (no_back of_keys _ e))

pub record PoolKept (pools : List ℕ → Option ℕ) (prefix : List ℕ) (at : ℕ) (ms : Members) : Type 0 where
  pub faultless : pool_faults Two pools prefix at (pool_members (pool_of ms)) ≡ []
  pub says : pool_of (pool_members (pool_of ms)) ≡ pool_of ms
  pub name : text_at key.name_key.name (pool_members (pool_of ms)) ≡ text_at key.name_key.name ms

module _ (v : Version) (pools others : List ℕ → Option ℕ) (same : (t : List ℕ) → others t ≡ pools t) (prefix : List ℕ) (at : ℕ) (ms : Members) (is : PoolParts v pools prefix at ms) where
  abbrev p : PoolSettings
  p = pool_of ms

  abbrev pd : Members
  pd = pool_members p

  abbrev old : Items
  old = or_none (array_at key.members ms)

  abbrev own : List ℕ → Option ℕ
  own = first_place (Some key.addr.name) old

  old_members : members_from v own prefix 0 old ≡ []
  old_members = members_in v prefix (array_at key.members ms) is.its

  new_name : get_member (codes "name") pd ≡ get_member (codes "name") ms
  new_name =
      let (t, there, form) = required_text (codes "name") Name (get_member (codes "name") ms) is.name in
      at_key (pool_entries p) (codes "name") (Some (string p.name)) refl ∙ ap (λ o. Some (string (unwrap_or (option_and_then as_str o) []))) there ∙ sym there

  new_method : get_member (codes "method") pd ≡ method_entry p.method
  new_method = at_key (pool_entries p) (codes "method") (method_entry p.method) refl

  new_active : get_member (codes "min_active") pd ≡ number_entry 0 p.min_active
  new_active = at_key (pool_entries p) (codes "min_active") (number_entry 0 p.min_active) refl

  new_members : get_member (codes "members") pd ≡ array_entry (anew_members old)
  new_members = at_key (pool_entries p) (codes "members") (array_entry (anew_members old)) refl

  -- as many members as before
  same_count : member_count pd ≡ member_count ms
  same_count =
      ap (λ n. min n 4294967295)
      (ap (λ o. tables_at (option_and_then as_array o)) new_members ∙ count_by (anew_members old) ∙ as_many_tables member_of member_members old ∙ sym (count_in (array_at key.members ms)))

  active_in : InRange 0 (member_count ms) 0 p.min_active
  active_in = whole_kept 0 (member_count ms) 0 (codes "min_active") (get_member (codes "min_active") ms) (omega arith, omega arith) is.active

  pool_faultless : pool_faults Two others prefix at pd ≡ []
  pool_faultless =
      let most = member_count ms in
      let keys : Each (Flawless pd) (pool_keys Two most) = (
        flawless pd key.name_key (get_member (codes "name") ms) new_name is.name,
        (
          flawless pd key.method (method_entry p.method) new_method (method_ok p.method),
          (
            flawless pd key.members (array_entry (anew_members old)) new_members
                (array_ok (codes "members") 1000 (get_member (codes "members") ms) (anew_members old) (members_long v own prefix old old_members) is.members),
            (flawless pd (min_active most) (number_entry 0 p.min_active) new_active (number_ok 0 most 0 (codes "min_active") p.min_active active_in), tt),
          ),
        ),
      ) in
      let unknown : unknown_faults prefix (pool_keys Two most) pd ≡ [] = all_known prefix (pool_keys Two most) (pool_entries p) no_members (refl, (refl, (refl, (refl, tt)))) refl in
      let of_keys : pool_keys_faults Two prefix pd ≡ [] =
      subst (λ n. keys_faults prefix (pool_keys Two n) pd ++ unknown_faults prefix (pool_keys Two n) pd ≡ []) (sym same_count)
      (none _ _ (each_keys prefix (pool_keys Two most) pd keys) unknown) in
      let its : members_of Two prefix (array_at key.members pd) ≡ [] =
      ap (λ o. members_of Two prefix (option_and_then as_array o)) new_members ∙ members_by Two prefix (anew_members old)
      ∙ members_kept v own prefix old old_members (first_place (Some key.addr.name) (anew_members old)) (members_places v own prefix old old_members) in
      none _ _ of_keys
      (none _ _ (ap (faults_of (key_place prefix key.name_key.name)) (ap (λ o. twice others at (option_and_then as_str o)) new_name ∙ same_twice others pools same at (text_at key.name_key.name ms)) ∙ is.once) its)

  says_active : whole_at (min_active (member_count pd)) pd ≡ p.min_active
  says_active =
      ap (λ n. whole_or (whole 0 n 0) (option_and_then as_integer (get_member (codes "min_active") pd))) same_count
      ∙ ap (λ o. whole_or (whole 0 (member_count ms) 0) (option_and_then as_integer o)) new_active ∙ number_says 0 (member_count ms) 0 p.min_active active_in

  says_members : each member_item (or_none (array_at key.members pd)) ≡ p.members
  says_members =
      ap (λ o. each member_item (or_none (option_and_then as_array o))) new_members ∙ ap (each member_item) (array_says (anew_members old)) ∙ members_say v own prefix old old_members

  abbrev pool_made : List ℕ → Method → List Member → ℕ → PoolSettings
  pool_made n k xs a = record { name = n; method = k; members = xs; min_active = a }

  pool_kept_by : PoolKept others prefix at ms
  pool_kept_by = record {
    faultless = pool_faultless;
    says =
        let n = given key.name_key pd in
        let k = method_of (chosen key.method pd) in
        let xs = each member_item (or_none (array_at key.members pd)) in
        ap (λ a. pool_made n k xs a) says_active ∙ ap (λ x. pool_made n k x p.min_active) says_members ∙ ap (λ x. pool_made n x p.members p.min_active) (ap method_by new_method ∙ method_says p.method)
        ∙ ap (λ x. pool_made x p.method p.members p.min_active) (ap (λ o. unwrap_or (option_and_then as_str o) []) new_name);
    name = ap (option_and_then as_str) new_name;
  }

pub pool_kept : (v : Version) (pools others : List ℕ → Option ℕ) → ((t : List ℕ) → others t ≡ pools t) → (prefix : List ℕ) (at : ℕ) (ms : Members) → pool_faults v pools prefix at ms ≡ []
    → PoolKept others prefix at ms
pool_kept v pools others same prefix at ms e = pool_kept_by v pools others same prefix at ms (pool_parts v pools prefix at ms e)
