-- A document without faults and the same in version 2 are one configuration.
use Rattle.std.proofs.Common.{◌≡◌, ℕ, ◌+◌, ℤ, pos, Bool, true, false, cond, ◌||◌, ◌&&◌, List, [], ◌∷◌, ◌++◌, Option, Some, None, String, Global, Ordering, Less, Equal, Greater, string_bytes, refl, sym, ap, ap₂, subst, ◌∙◌, arith}
use Rattle.std.specs.Int.{cast_unsigned, w32}
use Rattle.std.specs.Prelude.{Ok, int_le, is_some, option_and_then, option_map}
use Rattle.std.proofs.lemmas.Bool.{false≢true, or_right}
use Rattle.std.proofs.lemmas.Bool.Decides.{nat_tests}
use Rattle.std.proofs.lemmas.Cmp.{nat_list_cmp_total, tied_itself}
use Rattle.std.proofs.lemmas.Map.Lookups.{exact_bytes}
use Rattle.std.specs.BTreeMap.{insert_entry}
use Rattle.std.specs.Cmp.Lexicographic.{slice_cmp}
use Rattle.std.specs.Ordering.{is_eq, match_ordering, nat_cmp}
use Rattle.std.specs.Str.{bytes_eq}
use Rattle.std.specs.String.{string_cmp}
use Rattle.toml.proofs.Views.{Entry}
use Rattle.toml.specs.Data.{Data, string, integer, float, boolean, datetime, array, table, Items, no_items, item, Members, no_members, member, as_array, as_table, get_member}
use Rattle.toml.specs.View.{members_view, view}
use Rattle.toml.specs.declared.value.Value.{Value}
use Rattle.config.proofs.FirstTold.{IsToldOf, first_told}
use Rattle.config.specs.Documents.{Names, document_fault, document_faults, faults_with, item_faults, items_at, names_in, or_none, section_faults, section_from, section_key, section_of, table_faults}
use Rattle.config.specs.Faults.{fault_at, told_of}
use Rattle.config.specs.Keys as key
use Rattle.config.specs.Keys.{KeyKind, TableKey, member_keys, members, min_active, pool_keys, priority, table_rows, top_keys}
use Rattle.config.specs.KeyLines.{with_line}
use Rattle.config.specs.Loading.{AreLoaded, IsContents}
use Rattle.config.specs.Migrated.{IsMigrated, migrated, with_member}
use Rattle.config.specs.Misplaced.{first_misplaced}
use Rattle.config.specs.Names.{once_faults}
use Rattle.config.specs.Outcomes.{Configures, IsDocument, OfDocument, misplaced_of, told_fault}
use Rattle.config.specs.Places.{item_place, key_place, prefix_of}
use Rattle.config.specs.Pools.{member_at, member_faults, members_from, members_of, pool_faults, pool_keys_faults}
use Rattle.config.specs.Read.{array_at, member_count}
use Rattle.config.specs.Settings.{settings_of}
use Rattle.config.specs.Tables.{faults_of, flaw_of, is_known, key_faults, keys_faults, unknown_at, unknown_faults}
use Rattle.config.specs.Texts.{first_place}
use Rattle.config.specs.Values.{flaw, judged}
use Rattle.config.specs.Versions.{version_of}
use Rattle.config.specs.declared.fault.ConfigFault.{ConfigFault}
use Rattle.config.specs.declared.fault.ConfigFaultKind.{ConfigFaultKind}
use Rattle.config.specs.declared.fault.ConfigFaultKind.TheVariants.{UnknownKey}
use Rattle.config.specs.declared.reader.LoadedConfig.{LoadedConfig}
use Rattle.config.specs.declared.rule_text.LoadedRule.{LoadedRule}
use Rattle.config.specs.declared.section.Section.{Section}
use Rattle.config.specs.declared.section.Section.TheVariants.{Virtual, Pool, Rule, Group}
use Rattle.config.specs.declared.version.Version.{Version}
use Rattle.config.specs.declared.version.Version.TheVariants.{One, Two}

-- ---- a value at a key

match_view : (o : Ordering) (a b c : List Entry) → members_view (match_ordering o a b c) ≡ match_ordering o (members_view a) (members_view b) (members_view c)
match_view Less a b c = refl
match_view Equal a b c = refl
match_view Greater a b c = refl

-- what the map of a table holds with an entry more
pub inserted : (es : List Entry) (k : String Global) (v : Value) → members_view (insert_entry string_cmp es k v) ≡ with_member (string_bytes k) (view v) (members_view es)
inserted [] k v = refl
inserted (e ∷ es) k v = match_view (string_cmp k e.0) _ _ _ ∙ rw (inserted es k v)

-- another key
abbrev Differ : List ℕ → List ℕ → Type 0
Differ k l = is_eq (slice_cmp nat_cmp k l) ≡ false

passed : {A : Type 0} (o : Ordering) (a b : A) → is_eq o ≡ false → match_ordering o a b a ≡ a
passed Less a b other = refl
passed Equal a b other = cc
passed Greater a b other = refl

passes : (k l : List ℕ) (d : Data) (ms : Members) → Differ k l → get_member k (member l d ms) ≡ get_member k ms
passes k l d ms other = passed (slice_cmp nat_cmp k l) (get_member k ms) (Some d) other

same_name : (k l : List ℕ) → slice_cmp nat_cmp k l ≡ Equal → k ≡ l
same_name k l e = exact_bytes k l e

module _ (v : List ℕ) (d : Data) where
  -- at another key nothing changes
  pub get_other : (k : List ℕ) (ms : Members) → Differ k v → get_member k (with_member v d ms) ≡ get_member k ms
  get_other k no_members other = passes k v d no_members other
  get_other k (member l e ms) other =
      elim (slice_cmp nat_cmp v l) as (λ o. slice_cmp nat_cmp v l ≡ o → get_member k (match_ordering o (member v d (member l e ms)) (member l d ms) (member l e (with_member v d ms))) ≡ get_member k (member l e ms)) [
        | Less ↦ λ is. passes k v d (member l e ms) other
        | Equal ↦ λ is. (let apart : Differ k l = subst (Differ k) (same_name v l is) other in passes k l d ms apart ∙ sym (passes k l e ms apart))
        | Greater ↦ λ is. ap (λ r. match_ordering (slice_cmp nat_cmp k l) r (Some e) r) (get_other k ms other)
      ] refl

  pub get_it : (ms : Members) → get_member v (with_member v d ms) ≡ Some d
  get_it no_members = rw (tied_itself nat_list_cmp_total v) refl
  get_it (member l e ms) =
      elim (slice_cmp nat_cmp v l) as (λ o. slice_cmp nat_cmp v l ≡ o → get_member v (match_ordering o (member v d (member l e ms)) (member l d ms) (member l e (with_member v d ms))) ≡ Some d) [
        | Less ↦ λ is. rw (tied_itself nat_list_cmp_total v) refl
        | Equal ↦ λ is. rw is refl
        | Greater ↦ λ is. rw is (get_it ms)
      ] refl

-- ---- lists of faults that are empty

no_front : {A : Type 0} (a b : List A) → a ++ b ≡ [] → a ≡ []
no_front [] b e = refl
no_front (x ∷ a) b e = cc

no_back : {A : Type 0} (a b : List A) → a ++ b ≡ [] → b ≡ []
no_back [] b e = e
no_back (x ∷ a) b e = cc

none : {A : Type 0} (a b : List A) → a ≡ [] → b ≡ [] → a ++ b ≡ []
none a b p q = rw (p, q) refl

no_flaw : (place : List ℕ) (o : Option ConfigFaultKind) → faults_of place o ≡ [] → o ≡ None
no_flaw place None e = refl
no_flaw place (Some kind) e = cc

none_told : (ms : Members) → document_faults ms ≡ [] → document_fault ms ≡ None
unfolding document_fault
none_told ms e = ap told_of e

nothing_first : (faults : List ConfigFault) (o : Option ConfigFault) → o ≡ None → IsToldOf faults o → faults ≡ []
nothing_first faults None e is = is
nothing_first faults (Some f) e is = cc

has_none : (ms : Members) → document_fault ms ≡ None → document_faults ms ≡ []
unfolding document_fault
has_none ms e = nothing_first (document_faults ms) (told_of (document_faults ms)) e (first_told (document_faults ms))

-- ---- unknown keys

module _ (prefix : List ℕ) (keys : List TableKey) where
  known : (name : List ℕ) (b : Bool) → cond b [] (fault_at UnknownKey (key_place prefix name) ∷ []) ≡ [] → b ≡ true
  known name true e = refl
  known name false e = cc

  is_one : (name : List ℕ) → unknown_at prefix keys name ≡ [] → is_known keys name ≡ true
  is_one name e = known name (is_known keys name) e

  -- a key that isn't one of the table's isn't there
  pub absent : (k : List ℕ) (ms : Members) → is_known keys k ≡ false → unknown_faults prefix keys ms ≡ [] → get_member k ms ≡ None
  absent k no_members other e = refl
  absent k (member l d ms) other e =
      let here = is_one l (no_front _ (unknown_faults prefix keys ms) e) in
      let more = absent k ms other (no_back (unknown_at prefix keys l) _ e) in
      elim (slice_cmp nat_cmp k l) as (λ o. slice_cmp nat_cmp k l ≡ o → match_ordering o (get_member k ms) (Some d) (get_member k ms) ≡ None) [
        | Less ↦ λ is. more
        | Equal ↦ λ is. absurd (false≢true (sym other ∙ ap (is_known keys) (same_name k l is) ∙ here))
        | Greater ↦ λ is. more
      ] refl

  -- more keys of the table make no key unknown
  pub more_known : (more : List TableKey) → ((name : List ℕ) → is_known keys name ≡ true → is_known more name ≡ true) → (ms : Members) → unknown_faults prefix keys ms ≡ [] → unknown_faults prefix more ms ≡ []
  more_known more wider no_members e = refl
  more_known more wider (member l d ms) e =
      let here : unknown_at prefix more l ≡ [] = rw (wider l (is_one l (no_front _ (unknown_faults prefix keys ms) e))) refl in
      none (unknown_at prefix more l) (unknown_faults prefix more ms) here (more_known more wider ms (no_back (unknown_at prefix keys l) _ e))

  pub with_known : (v : List ℕ) (d : Data) (ms : Members) → is_known keys v ≡ true → unknown_faults prefix keys ms ≡ [] → unknown_faults prefix keys (with_member v d ms) ≡ []
  with_known v d no_members is e = rw is refl
  with_known v d (member l e ms) is faults =
      let here : unknown_at prefix keys v ≡ [] = rw is refl in
      let there = no_front (unknown_at prefix keys l) (unknown_faults prefix keys ms) faults in
      let more = no_back (unknown_at prefix keys l) (unknown_faults prefix keys ms) faults in
      elim (slice_cmp nat_cmp v l) as (λ o. unknown_faults prefix keys (match_ordering o (member v d (member l e ms)) (member l d ms) (member l e (with_member v d ms))) ≡ []) [
        | Less ↦ none (unknown_at prefix keys v) _ here faults
        | Equal ↦ none (unknown_at prefix keys l) (unknown_faults prefix keys ms) there more
        | Greater ↦ none (unknown_at prefix keys l) (unknown_faults prefix keys (with_member v d ms)) there (with_known v d ms is more)
      ]

or_more : (a b c : Bool) → (b ≡ true → c ≡ true) → (a || b) ≡ true → (a || c) ≡ true
or_more true b c f e = refl
or_more false b c f e = f e

known_more : (front back : List TableKey) (k : TableKey) (name : List ℕ) → is_known (front ++ back) name ≡ true → is_known (front ++ k ∷ back) name ≡ true
known_more [] back k name e = or_right (bytes_eq k.name name) (is_known back name) e
known_more (f ∷ front) back k name e = or_more (bytes_eq f.name name) (is_known (front ++ back) name) (is_known (front ++ k ∷ back) name) (known_more front back k name) e

-- ---- keys

module _ (prefix : List ℕ) where
  same_key : (k : TableKey) (ms ns : Members) → get_member k.name ms ≡ get_member k.name ns → key_faults prefix ns k ≡ [] → key_faults prefix ms k ≡ []
  same_key k ms ns same e = ap (λ o. faults_of (key_place prefix k.name) (flaw_of k o)) same ∙ e

  -- a key that need not be there
  not_there : (name : List ℕ) (kind : KeyKind) (ms : Members) → get_member name ms ≡ None → key_faults prefix ms (key.optional name kind) ≡ []
  not_there name kind ms gone = ap (λ o. faults_of (key_place prefix name) (flaw_of (key.optional name kind) o)) gone

-- ---- pools

module _ (own : List ℕ → Option ℕ) (prefix : List ℕ) where
  a_member : (at : ℕ) (ms : Members) → member_faults One own prefix at ms ≡ [] → member_faults Two own prefix at ms ≡ []
  a_member at ms e =
      let tail = unknown_faults prefix (member_keys One) ms ++ once_faults own at prefix key.addr ms in
      let of_keys : keys_faults prefix (member_keys One) ms ≡ [] = no_front _ tail e in
      let unknown : unknown_faults prefix (member_keys One) ms ≡ [] = no_front _ (once_faults own at prefix key.addr ms) (no_back (keys_faults prefix (member_keys One) ms) tail e) in
      let once : once_faults own at prefix key.addr ms ≡ [] = no_back (unknown_faults prefix (member_keys One) ms) _ (no_back (keys_faults prefix (member_keys One) ms) tail e) in
      let gone : get_member priority.name ms ≡ None = absent prefix (member_keys One) priority.name ms refl unknown in
      let of_addr = no_front (key_faults prefix ms key.addr) _ of_keys in
      let of_ratio = no_front (key_faults prefix ms key.ratio) [] (no_back (key_faults prefix ms key.addr) _ of_keys) in
      none _ _ (none _ _ of_addr (none _ _ of_ratio (none _ _ (not_there prefix priority.name priority.kind ms gone) refl)))
      (none _ _ (more_known prefix (member_keys One) (member_keys Two) (known_more (key.addr ∷ key.ratio ∷ []) [] priority) ms unknown) once)

the_members : (own : List ℕ → Option ℕ) (prefix : List ℕ) (at : ℕ) (ds : Items) → members_from One own prefix at ds ≡ [] → members_from Two own prefix at ds ≡ []
the_members own prefix at no_items e = refl
the_members own prefix at (item d ds) e =
    let place = item_place prefix members.name at in
    none _ _ (here place (as_table d) (no_front _ _ e)) (the_members own prefix (at + 1) ds (no_back (member_at One own place at (as_table d)) _ e))
  where
    here : (place : List ℕ) (o : Option Members) → member_at One own place at o ≡ [] → member_at Two own place at o ≡ []
    here place None e = cc
    here place (Some ms) e = a_member own (prefix_of place) at ms e

all_members : (prefix : List ℕ) (o : Option Items) → members_of One prefix o ≡ [] → members_of Two prefix o ≡ []
all_members prefix None e = refl
all_members prefix (Some ds) e = the_members (first_place (Some key.addr.name) ds) prefix 0 ds e

pool_keys_stay : (prefix : List ℕ) (ms : Members) → pool_keys_faults One prefix ms ≡ [] → pool_keys_faults Two prefix ms ≡ []
pool_keys_stay prefix ms e =
    let most = member_count ms in
    let of_keys = no_front (keys_faults prefix (pool_keys One most) ms) _ e in
    let unknown = no_back (keys_faults prefix (pool_keys One most) ms) _ e in
    let after_name = no_back (key_faults prefix ms key.name_key) _ of_keys in
    let after_method = no_back (key_faults prefix ms key.method) _ after_name in
    let gone : get_member (min_active most).name ms ≡ None = absent prefix (pool_keys One most) (min_active most).name ms refl unknown in
    none _ _
    (none _ _ (no_front (key_faults prefix ms key.name_key) _ of_keys) (none _ _ (no_front (key_faults prefix ms key.method) _ after_name)
    (none _ _ (no_front (key_faults prefix ms members) [] after_method) (none _ _ (not_there prefix (min_active most).name (min_active most).kind ms gone) refl))))
    (more_known prefix (pool_keys One most) (pool_keys Two most) (known_more (key.name_key ∷ key.method ∷ members ∷ []) [] (min_active most)) ms unknown)

a_pool : (v : Version) (pools : List ℕ → Option ℕ) (prefix : List ℕ) (at : ℕ) (ms : Members) → pool_faults v pools prefix at ms ≡ [] → pool_faults Two pools prefix at ms ≡ []
a_pool Two pools prefix at ms e = e
a_pool One pools prefix at ms e =
    let of_keys = pool_keys_faults One prefix ms in
    let once = once_faults pools at prefix key.name_key ms in
    let in_array = members_of One prefix (array_at members ms) in
    let behind : once ++ in_array ≡ [] = no_back of_keys (once ++ in_array) e in
    none _ _ (pool_keys_stay prefix ms (no_front of_keys (once ++ in_array) e))
    (none _ _ (no_front once in_array behind) (all_members prefix (array_at members ms) (no_back once in_array behind)))

-- ---- sections

-- the names of a document, in version 2
abbrev in_two : Names → Names
in_two n = record { version = Two; servers = n.servers; listens = n.listens; pools = n.pools; rules = n.rules; groups = n.groups }

a_table : (n : Names) (s : Section) (prefix : List ℕ) (at : ℕ) (ms : Members) → table_faults n s prefix at ms ≡ [] → table_faults (in_two n) s prefix at ms ≡ []
a_table n Virtual prefix at ms e = e
a_table n Pool prefix at ms e = a_pool n.version n.pools prefix at ms e
a_table n Rule prefix at ms e = e
a_table n Group prefix at ms e = e

an_item : (n : Names) (s : Section) (place : List ℕ) (at : ℕ) (o : Option Members) → item_faults n s place at o ≡ [] → item_faults (in_two n) s place at o ≡ []
an_item n s place at None e = cc
an_item n s place at (Some ms) e = a_table n s (prefix_of place) at ms e

the_items : (n : Names) (s : Section) (at : ℕ) (ds : Items) → section_from n s at ds ≡ [] → section_from (in_two n) s at ds ≡ []
the_items n s at no_items e = refl
the_items n s at (item d ds) e =
    let place = item_place [] (section_key s).name at in
    none _ _ (an_item n s place at (as_table d) (no_front _ _ e)) (the_items n s (at + 1) ds (no_back (item_faults n s place at (as_table d)) _ e))

a_section : (n : Names) (s : Section) (o : Option Items) → section_of n s o ≡ [] → section_of (in_two n) s o ≡ []
a_section n s None e = refl
a_section n s (Some ds) e = the_items n s 0 ds e

-- ---- the keys of a document

more_connections : (z : ℤ) → (int_le (pos 1) z && int_le z (pos 4096)) ≡ true → (int_le (pos 1) z && int_le z (pos 8192)) ≡ true
more_connections z e = grind (arith, nat_tests)

within : (b : Bool) (n : ℕ) → judged (Some (is_some (cond b (Some n) None))) ≡ None → b ≡ true
within true n e = refl
within false n e = cc

-- what fits fits a wider range
wider : (d : Data) → flaw (key.connections_in One).kind d ≡ None → flaw (key.connections_in Two).kind d ≡ None
wider (integer z) e = rw (more_connections z (within _ (cast_unsigned w32 z) e)) refl
wider (string t) e = cc
wider (float x) e = cc
wider (boolean b) e = cc
wider (datetime x) e = cc
wider (array ds) e = cc
wider (table ms) e = cc

module _ (top : Members) where
  abbrev pub new : Members
  new = migrated top

  at_key : (k : List ℕ) → Differ k key.version.name → get_member k new ≡ get_member k top
  at_key k other = get_other key.version.name (integer (pos 2)) k top other

  version_is : version_of new ≡ Two
  version_is = rw (get_it key.version.name (integer (pos 2)) top) refl

  section_same : (s : Section) → array_at (section_key s) new ≡ array_at (section_key s) top
  section_same Virtual = ap (option_and_then as_array) (at_key key.servers.name refl)
  section_same Pool = ap (option_and_then as_array) (at_key key.pools.name refl)
  section_same Rule = ap (option_and_then as_array) (at_key key.rules.name refl)
  section_same Group = ap (option_and_then as_array) (at_key key.groups.name refl)

  names_same : names_in new ≡ in_two (names_in top)
  names_same =
      rw (version_is, section_same Virtual, section_same Pool, section_same Rule, section_same Group) refl

  version_right : key_faults [] new key.version ≡ []
  version_right = rw (get_it key.version.name (integer (pos 2)) top) refl

  -- keys other than the version
  abbrev Apart : List TableKey → Type 0
  Apart [] = Unit {0}
  Apart (k ∷ keys) = Differ k.name key.version.name × Apart keys

  keys_same : (keys : List TableKey) → Apart keys → keys_faults [] keys top ≡ [] → keys_faults [] keys new ≡ []
  keys_same [] apart e = refl
  keys_same (k ∷ keys) apart e =
      none _ _ (same_key [] k new top (at_key k.name apart.0) (no_front (key_faults [] top k) _ e)) (keys_same keys apart.1 (no_back (key_faults [] top k) _ e))

  connections_right : (o : Option Data) (place : List ℕ) → faults_of place (flaw_of (key.connections_in One) o) ≡ [] → faults_of place (flaw_of (key.connections_in Two) o) ≡ []
  connections_right None place e = refl
  connections_right (Some d) place e = ap (faults_of place) (wider d (no_flaw place _ e))

  keys_stay : (v : Version) → keys_faults [] (top_keys v) top ≡ [] → unknown_faults [] (top_keys v) top ≡ [] → keys_faults [] (top_keys Two) new ≡ []
  keys_stay Two e unknown =
      none _ _ version_right
      (keys_same (key.budget ∷ key.connections_in Two ∷ key.idle ∷ table_rows ∷ key.section_keys) (refl, (refl, (refl, (refl, (refl, (refl, (refl, (refl, tt)))))))) (no_back (key_faults [] top key.version) _ e))
  keys_stay One e unknown =
      let of_budget = no_back (key_faults [] top key.version) _ e in
      let of_connections = no_back (key_faults [] top key.budget) _ of_budget in
      let of_idle = no_back (key_faults [] top (key.connections_in One)) _ of_connections in
      let of_sections = no_back (key_faults [] top key.idle) _ of_idle in
      let gone : get_member table_rows.name new ≡ None = at_key table_rows.name refl ∙ absent [] (top_keys One) table_rows.name top refl unknown in
      let connections_same = ap (λ o. faults_of (key_place [] key.connections.name) (flaw_of (key.connections_in Two) o)) (at_key key.connections.name refl) in
      none _ _ version_right
      (none _ _ (same_key [] key.budget new top (at_key key.budget.name refl) (no_front (key_faults [] top key.budget) _ of_budget))
      (none _ _ (connections_same ∙ connections_right (get_member key.connections.name top) (key_place [] key.connections.name) (no_front (key_faults [] top (key.connections_in One)) _ of_connections))
      (none _ _ (same_key [] key.idle new top (at_key key.idle.name refl) (no_front (key_faults [] top key.idle) _ of_idle))
      (none _ _ (not_there [] table_rows.name table_rows.kind new gone)
      (keys_same key.section_keys (refl, (refl, (refl, (refl, tt)))) of_sections)))))

  unknown_stay : (v : Version) → unknown_faults [] (top_keys v) top ≡ [] → unknown_faults [] (top_keys Two) new ≡ []
  unknown_stay Two unknown = with_known [] (top_keys Two) key.version.name (integer (pos 2)) top refl unknown
  unknown_stay One unknown =
      with_known [] (top_keys Two) key.version.name (integer (pos 2)) top refl
      (more_known [] (top_keys One) (top_keys Two) (known_more (key.version ∷ key.budget ∷ key.connections ∷ key.idle ∷ []) key.section_keys table_rows) top unknown)

  section_stays : (n : Names) (s : Section) → section_faults n s top ≡ [] → section_faults (in_two n) s new ≡ []
  section_stays n s e = ap (section_of (in_two n) s) (section_same s) ∙ a_section n s (array_at (section_key s) top) e

  all_stay : (n : Names) → faults_with n top ≡ [] → faults_with (in_two n) new ≡ []
  all_stay n e =
      let of_keys = keys_faults [] (top_keys n.version) top in
      let unknown = unknown_faults [] (top_keys n.version) top in
      let after_keys = no_back of_keys _ e in
      let after_unknown = no_back unknown _ after_keys in
      let after_servers = no_back (section_faults n Virtual top) _ after_unknown in
      let after_pools = no_back (section_faults n Pool top) _ after_servers in
      let all_known = no_front unknown _ after_keys in
      none _ _ (keys_stay n.version (no_front of_keys _ e) all_known)
      (none _ _ (unknown_stay n.version all_known)
      (none _ _ (section_stays n Virtual (no_front (section_faults n Virtual top) _ after_unknown))
      (none _ _ (section_stays n Pool (no_front (section_faults n Pool top) _ after_servers))
      (none _ _ (section_stays n Rule (no_front (section_faults n Rule top) _ after_pools))
      (section_stays n Group (no_back (section_faults n Rule top) _ after_pools))))))

  pub still_faultless : document_fault top ≡ None → document_fault new ≡ None
  still_faultless e = none_told new (ap (λ n. faults_with n new) names_same ∙ all_stay (names_in top) (has_none top e))

  rules_same : items_at key.rules new ≡ items_at key.rules top
  rules_same = ap or_none (section_same Rule)

  settings_same : settings_of new ≡ settings_of top
  settings_same =
      rw (at_key key.budget.name refl, at_key key.connections.name refl, at_key key.idle.name refl, at_key table_rows.name refl, section_same Virtual, section_same Pool, section_same Group) refl

  misplaced_same : (rs : List LoadedRule) → misplaced_of new rs ≡ misplaced_of top rs
  misplaced_same rs = ap₂ (λ ds s. first_misplaced (first_place (Some key.name_key.name) ds) rs s.virtuals) rules_same settings_same

  pub still_configures : (told : List ℕ → Option (List ℕ)) (C : LoadedConfig) → Configures told top C → Configures told new C
  still_configures told C is = record {
    settings = is.settings ∙ sym settings_same;
    loaded = subst (λ ds. AreLoaded told ds C.rules) (sym rules_same) is.loaded;
    placed = misplaced_same C.rules ∙ is.placed;
  }

-- a document that loads, in version 2
module _ (told : List ℕ → Option (List ℕ)) (before now : ℕ) (name bytes : List ℕ) (top : Members) (C : LoadedConfig) where
  faultless_by : (o : Option ConfigFault) → document_fault top ≡ o → OfDocument told before now top (option_map (with_line bytes) o) (Ok C) → (document_fault top ≡ None) × Configures told top C
  faultless_by None e is = (e, is)
  faultless_by (Some f) e is = absurd is

  pub is_migrated : (ms : Members) → IsContents told name bytes → IsDocument bytes top → OfDocument told before now top (told_fault bytes top) (Ok C) → ms ≡ migrated top → IsMigrated told name ms
  is_migrated ms contents document answer table_is =
      let (faultless, configures) = faultless_by (document_fault top) refl answer in
      record {
        top = top;
        holds = record { bytes = bytes; contents = contents; document = document };
        faultless = faultless;
        C = C;
        configures = configures;
        table_is = table_is;
        still_faultless = subst (λ t. document_fault t ≡ None) (sym table_is) (still_faultless top faultless);
        still_configures = subst (λ t. Configures told t C) (sym table_is) (still_configures top told C configures);
      }
