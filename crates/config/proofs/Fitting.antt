-- The data groups and pools of a document without faults may be made.
use Rattle.std.proofs.Common.{◌≡◌, refl, sym, ap, ◌∙◌, subst, ℕ, suc, ◌+◌, ◌≤◌, ◌<◌, Bool, true, false, cond, ◌&&◌, ◌||◌, ◌==◌, ℤ, pos, negsuc, List, [], ◌∷◌, ◌++◌, length, Option, Some, None, arith, if◌then◌else◌}
use Rattle.std.specs.Prelude.{is_none, is_some, nat_le, nat_lt, not, option_and_then, option_map, unwrap_or, int_le}
use Rattle.std.specs.Int.{cast_unsigned, w32}
use Rattle.std.specs.List.{list_all, list_any, position_or_len}
use Rattle.std.specs.Option.{option_map_or}
use Rattle.std.specs.Str.{bytes_eq}
use Rattle.std.proofs.lemmas.Bool.{and_parts, eqb-true}
use Rattle.std.proofs.lemmas.Bool.Decides.{nat_tests}
use Rattle.std.proofs.lemmas.Slice.Eq.{bytes_eq-Decides}
use Rattle.data_groups.specs.Groups.{Row, bad_key, is_key}
use Rattle.data_groups.specs.declared.kind.GroupKind.{GroupKind}
use Rattle.data_groups.specs.declared.kind.GroupKind.TheVariants.{String}
use Rattle.pools.specs.Pools.{are_apart, priority_fits, ratio_fits, same_addr}
use Rattle.pools.specs.declared.member.Member.{Member}
use Rattle.px_bytes.specs.Address.{addr_text}
use Rattle.px_bytes.specs.declared.addr.Addr.{Addr}
use Rattle.tcl_encodings.specs.Addr.{addr_of, spells_addr, written_addr}
use Rattle.toml.specs.Data.{Data, Items, no_items, item, Members, as_array, as_integer, as_str, as_table, get_member}
use Rattle.config.specs.Documents.{Names, document_fault, document_faults, item_faults, items_at, names_in, or_none, section_faults, section_from, section_key, section_of, table_faults}
use Rattle.config.specs.Faults.{told_of}
use Rattle.config.specs.Filled.{has_keys, may_be_members}
use Rattle.config.specs.Groups.{group_faults, group_kind, key_fits, row_flaw, row_of, rows_from, rows_of}
use Rattle.config.specs.Keys as key
use Rattle.config.specs.Keys.{TableKey}
use Rattle.config.specs.Names.{once_faults, twice}
use Rattle.config.specs.Places.{item_place, key_place, prefix_of}
use Rattle.config.specs.Pools.{member_at, member_faults, members_from, members_of, pool_faults, pool_keys_faults}
use Rattle.config.specs.Read.{array_at, member_count}
use Rattle.config.specs.Settings.{addr_at, each, group_of, member_item, member_of, no_addr, one, pool_of, priority_of, ratio_of, row_item, settings_of, whole_at, whole_or}
use Rattle.config.specs.Tables.{faults_of, flaw_of, key_faults, key_flaw, keys_faults, unknown_faults}
use Rattle.config.specs.Texts.{first_place, text_at}
use Rattle.config.specs.Values.{few, fits, items_length, judged}
use Rattle.config.specs.declared.config.Settings.{Settings}
use Rattle.config.specs.declared.version.Version.{Version}
use Rattle.config.specs.declared.version.Version.TheVariants.{One, Two}
use Rattle.config.specs.declared.fault.ConfigFault.{ConfigFault}
use Rattle.config.specs.declared.fault.ConfigFaultKind.{ConfigFaultKind}
use Rattle.config.specs.declared.fault.ConfigFaultKind.TheVariants.{Twice}
use Rattle.config.specs.declared.section.Section.{Section}
use Rattle.config.specs.declared.section.Section.TheVariants.{Group, Pool, Rule, Virtual}
use Rattle.config.proofs.FirstTold.{IsToldOf, first_told}

-- each key is of its group's kind, and the members of each pool may be
pub record Fits (s : Settings) : Type 0 where
  pub keys : list_all has_keys s.groups ≡ true
  pub members : list_all (λ p. may_be_members p.members) s.pools ≡ true

-- ---- none of them

no_front : {A : Type 0} (a b : List A) → a ++ b ≡ [] → a ≡ []
no_front [] b e = refl
no_front (x ∷ a) b e = absurd (cc)

no_back : {A : Type 0} (a b : List A) → a ++ b ≡ [] → b ≡ []
no_back [] b e = e
no_back (x ∷ a) b e = absurd (cc)

no_flaw : (place : List ℕ) (o : Option ConfigFaultKind) → faults_of place o ≡ [] → o ≡ None
no_flaw place None e = refl
no_flaw place (Some kind) e = absurd (cc)

none_told : (faults : List ConfigFault) → told_of faults ≡ None → faults ≡ []
none_told faults e = subst (IsToldOf faults) e (first_told faults)

both_true : (a b : Bool) → a ≡ true → b ≡ true → (a && b) ≡ true
both_true true b p q = q
both_true false b p q = absurd (cc)

-- ---- the keys of a data group

judged_fits : {A : Type 0} (test : A → Bool) (o : Option A) → judged (option_map test o) ≡ None → (x : A) → o ≡ Some x → test x ≡ true
judged_fits test None e x is = absurd (cc)
judged_fits test (Some y) e x is = by_test (test y) refl e
  where
    by_test : (b : Bool) → test y ≡ b → judged (Some b) ≡ None → test x ≡ true
    by_test true same e = let one : y ≡ x = cc in subst (λ z. test z ≡ true) one same
    by_test false same e = absurd (cc)

of_kind : (kind : Option GroupKind) (row : Row) → key_fits kind row ≡ true → is_key (unwrap_or kind String) row.0 ≡ true
of_kind None row e = refl
of_kind (Some kind) row e = e

module _ (kind : GroupKind) where
  all_keys : (rows : List Row) → list_all (λ row. is_key kind row.0) rows ≡ true → position_or_len (λ row. not (is_key kind row.0)) rows ≡ length rows
  all_keys [] e = refl
  all_keys (row ∷ rows) e = by_test (is_key kind row.0) (all_keys rows) e
    where
      by_test : (b : Bool) → (list_all (λ row. is_key kind row.0) rows ≡ true → position_or_len (λ row. not (is_key kind row.0)) rows ≡ length rows)
          → (b && list_all (λ row. is_key kind row.0) rows) ≡ true → cond (not (not b)) (1 + position_or_len (λ row. not (is_key kind row.0)) rows) 0 ≡ suc (length rows)
      by_test true more e = let behind = more e in omega (arith, behind)
      by_test false more e = absurd (cc)

  no_bad_key : (rows : List Row) → list_all (λ row. is_key kind row.0) rows ≡ true → is_none (bad_key kind rows) ≡ true
  no_bad_key rows e = by_place (position_or_len (λ row. not (is_key kind row.0)) rows) (all_keys rows e)
    where
      by_place : (n : ℕ) → n ≡ length rows → is_none (cond (nat_lt n (length rows)) (Some n) None) ≡ true
      by_place n is = grind (arith, nat_tests)

rows_fit : (kind : Option GroupKind) (prefix : List ℕ) (at : ℕ) (ds : Items) → rows_from kind prefix at ds ≡ [] → list_all (λ row. is_key (unwrap_or kind String) row.0) (each row_item ds) ≡ true
rows_fit kind prefix at no_items e = refl
rows_fit kind prefix at (item d ds) e =
    let place = item_place prefix key.rows.name at in
    let more = rows_fit kind prefix (at + 1) ds (no_back (faults_of place (row_flaw kind d)) (rows_from kind prefix (at + 1) ds) e) in
    by_row (row_of d) (judged_fits (key_fits kind) (row_of d) (no_flaw place (row_flaw kind d) (no_front (faults_of place (row_flaw kind d)) (rows_from kind prefix (at + 1) ds) e))) more
  where
    by_row : (o : Option Row) → ((row : Row) → o ≡ Some row → key_fits kind row ≡ true) → list_all (λ row. is_key (unwrap_or kind String) row.0) (each row_item ds) ≡ true
        → list_all (λ row. is_key (unwrap_or kind String) row.0) (one o ++ each row_item ds) ≡ true
    by_row None fits more = more
    by_row (Some row) fits more = both_true (is_key (unwrap_or kind String) row.0) (list_all (λ row. is_key (unwrap_or kind String) row.0) (each row_item ds)) (of_kind kind row (fits row refl)) more

rows_at : (kind : Option GroupKind) (prefix : List ℕ) (o : Option Items) → rows_of kind prefix o ≡ [] → list_all (λ row. is_key (unwrap_or kind String) row.0) (each row_item (or_none o)) ≡ true
rows_at kind prefix None e = refl
rows_at kind prefix (Some ds) e = rows_fit kind prefix 0 ds e

group_fits : (n : Names) (prefix : List ℕ) (at : ℕ) (ms : Members) → group_faults n.groups prefix at ms ≡ [] → has_keys (group_of ms) ≡ true
group_fits n prefix at ms e =
    let known = keys_faults prefix key.group_keys ms in
    let unknown = unknown_faults prefix key.group_keys ms in
    let once = once_faults n.groups at prefix key.name_key ms in
    let its = rows_of (group_kind ms) prefix (array_at key.rows ms) in
    let rows : its ≡ [] = no_back once its (no_back unknown (once ++ its) (no_back known (unknown ++ (once ++ its)) e)) in
    no_bad_key (unwrap_or (group_kind ms) String) (each row_item (items_at key.rows ms)) (rows_at (group_kind ms) prefix (array_at key.rows ms) rows)

-- ---- the members of a pool

few_of : (o : Option Items) → judged (option_map (few 1000) o) ≡ None → nat_le (items_length (or_none o)) 1000 ≡ true
few_of None e = absurd (cc)
few_of (Some ds) e = by_test (few 1000 ds) refl e
  where
    by_test : (b : Bool) → few 1000 ds ≡ b → judged (Some b) ≡ None → nat_le (items_length ds) 1000 ≡ true
    by_test true same e = same
    by_test false same e = absurd (cc)

few_at : (o : Option Data) → flaw_of key.members o ≡ None → nat_le (items_length (or_none (option_and_then as_array o))) 1000 ≡ true
few_at None e = refl
few_at (Some d) e = few_of (as_array d) e

member_ratio : (n : ℕ) → (nat_le 1 n ≡ true) → (nat_le 1 (ratio_of n) && nat_le (ratio_of n) 100) ≡ true
member_ratio n e = by_test (nat_le n 100) refl
  where
    by_test : (b : Bool) → nat_le n 100 ≡ b → (nat_le 1 (if b then n else 1) && nat_le (if b then n else 1) 100) ≡ true
    by_test true is = both_true (nat_le 1 n) (nat_le n 100) e is
    by_test false is = refl

whole_ratio : (o : Option ℤ) → nat_le 1 (whole_or key.ratio.kind o) ≡ true
whole_ratio None = refl
whole_ratio (Some (negsuc n)) = refl
whole_ratio (Some (pos n)) = by_test (int_le (pos 1) (pos n)) refl (int_le (pos n) (pos 100))
  where
    by_test : (b : Bool) → int_le (pos 1) (pos n) ≡ b → (c : Bool) → nat_le 1 (unwrap_or (if b && c then Some (cast_unsigned w32 (pos n)) else None) 1) ≡ true
    by_test true is true = is
    by_test true is false = refl
    by_test false is c = refl

ratio_of_member : (ms : Members) → ratio_fits (member_of ms) ≡ true
ratio_of_member ms = member_ratio (whole_or key.ratio.kind (option_and_then as_integer (get_member key.ratio.name ms))) (whole_ratio (option_and_then as_integer (get_member key.ratio.name ms)))

member_priority : (n : ℕ) → nat_le (priority_of n) 100 ≡ true
member_priority n = by_test (nat_le n 100) refl
  where
    by_test : (b : Bool) → nat_le n 100 ≡ b → nat_le (if b then n else 0) 100 ≡ true
    by_test true is = is
    by_test false is = refl

-- each address is that of one text alone
spelled : (text : List ℕ) (a : Addr) → addr_of text ≡ Some a → text ≡ addr_text a
spelled text a e = by_test (spells_addr text (written_addr text)) refl e
  where
    by_test : (b : Bool) → spells_addr text (written_addr text) ≡ b → (if b then Some (written_addr text) else None) ≡ Some a → text ≡ addr_text a
    by_test false is e = absurd (cc)
    by_test true is e =
        let same : written_addr text ≡ a = cc in
        (bytes_eq-Decides text (addr_text a)).0 (subst (λ x. bytes_eq text (addr_text x) ≡ true) same (and_parts _ _ is).1)

-- the text at a key that must be an address
text_of : (o : Option Data) → flaw_of key.addr o ≡ None → (text : List ℕ) × (a : Addr) × (option_and_then as_str o ≡ Some text) × (addr_of text ≡ Some a)
text_of None e = absurd (cc)
text_of (Some d) e = by_text (as_str d) e
  where
    by_addr : (text : List ℕ) (o : Option Addr) → addr_of text ≡ o → judged (Some (is_some o)) ≡ None → (t : List ℕ) × (a : Addr) × (Some text ≡ Some t) × (addr_of t ≡ Some a)
    by_addr text None is e = absurd (cc)
    by_addr text (Some a) is e = (text, a, refl, is)

    by_text : (o : Option (List ℕ)) → judged (option_map (λ t. is_some (addr_of t)) o) ≡ None → (t : List ℕ) × (a : Addr) × (o ≡ Some t) × (addr_of t ≡ Some a)
    by_text None e = absurd (cc)
    by_text (Some text) e = by_addr text (addr_of text) refl e

first_one : (own : List ℕ → Option ℕ) (at : ℕ) (text : List ℕ) → twice own at (Some text) ≡ None → own text ≡ Some at
first_one own at text e = by_place (own text) e
  where
    by_test : (n : ℕ) (b : Bool) → (n == at) ≡ b → (if b then None else Some Twice) ≡ None → Some n ≡ Some at
    by_test n true is e = ap (λ m. Some m) (eqb-true n at is)
    by_test n false is e = absurd (cc)

    by_place : (o : Option ℕ) → (if option_map_or (λ n. n == at) o false then None else Some Twice) ≡ None → o ≡ Some at
    by_place None e = absurd (cc)
    by_place (Some n) e = by_test n (n == at) refl e

-- in both versions the keys are looked at
addr_known : (version : Version) (prefix : List ℕ) (ms : Members) → keys_faults prefix (key.member_keys version) ms ≡ [] → key_faults prefix ms key.addr ≡ []
addr_known One prefix ms keys = no_front (key_faults prefix ms key.addr) _ keys
addr_known Two prefix ms keys = no_front (key_faults prefix ms key.addr) _ keys

members_known : (version : Version) (prefix : List ℕ) (most : ℕ) (ms : Members) → keys_faults prefix (key.pool_keys version most) ms ≡ [] → key_faults prefix ms key.members ≡ []
members_known One prefix most ms keys =
    let fault : TableKey → List ConfigFault = key_faults prefix ms in
    no_front (fault key.members) _ (no_back (fault key.method) _ (no_back (fault key.name_key) _ keys))
members_known Two prefix most ms keys =
    let fault : TableKey → List ConfigFault = key_faults prefix ms in
    no_front (fault key.members) _ (no_back (fault key.method) _ (no_back (fault key.name_key) _ keys))

-- the item at a place is a member, whose address stands there first
record Stands (own : List ℕ → Option ℕ) (at : ℕ) (d : Data) : Type 0 where
  member : Member
  is : one (option_map member_of (as_table d)) ≡ member ∷ []
  ratio : ratio_fits member ≡ true
  priority : priority_fits member ≡ true
  first : own (addr_text member.addr) ≡ Some at

module _ (version : Version) (own : List ℕ → Option ℕ) (place : List ℕ) (at : ℕ) (d : Data) where
  stands_with : (ms : Members) → as_table d ≡ Some ms → member_faults version own (prefix_of place) at ms ≡ [] → Stands own at d
  stands_with ms is none =
      let prefix = prefix_of place in
      let known = keys_faults prefix (key.member_keys version) ms in
      let unknown = unknown_faults prefix (key.member_keys version) ms in
      let once = once_faults own at prefix key.addr ms in
      let fault : TableKey → List ConfigFault = key_faults prefix ms in
      let keys : known ≡ [] = no_front known (unknown ++ once) none in
      let flaw : key_flaw key.addr ms ≡ None = no_flaw (key_place prefix key.addr.name) (key_flaw key.addr ms) (addr_known version prefix ms keys) in
      let t = text_of (get_member key.addr.name ms) flaw in
      let only : once ≡ [] = no_back unknown once (no_back known (unknown ++ once) none) in
      let first : twice own at (text_at key.addr.name ms) ≡ None = no_flaw (key_place prefix key.addr.name) (twice own at (text_at key.addr.name ms)) only in
      let one_text : own t.0 ≡ Some at = first_one own at t.0 (ap (twice own at) (sym t.2) ∙ first) in
      let addr : addr_at key.addr ms ≡ t.1 = ap (λ o. unwrap_or (option_and_then addr_of o) no_addr) t.2 ∙ ap (λ o. unwrap_or o no_addr) t.3 in
      let text : t.0 ≡ addr_text (addr_at key.addr ms) = spelled t.0 t.1 t.3 ∙ ap addr_text (sym addr) in
      record {
        member = member_of ms;
        is = ap (λ o. one (option_map member_of o)) is;
        ratio = ratio_of_member ms;
        priority = member_priority (whole_at key.priority ms);
        first = ap own (sym text) ∙ one_text;
      }

  stands : member_at version own place at (as_table d) ≡ [] → Stands own at d
  stands e = by_table (as_table d) refl e
    where
      by_table : (o : Option Members) → as_table d ≡ o → member_at version own place at o ≡ [] → Stands own at d
      by_table None is e = absurd (cc)
      by_table (Some ms) is e = stands_with ms is e

module _ (version : Version) (own : List ℕ → Option ℕ) (prefix : List ℕ) where
  abbrev place : ℕ → List ℕ
  place at = item_place prefix key.members.name at

  here : (at : ℕ) (d : Data) (ds : Items) → members_from version own prefix at (item d ds) ≡ [] → Stands own at d
  here at d ds e = stands version own (place at) at d (no_front (member_at version own (place at) at (as_table d)) (members_from version own prefix (at + 1) ds) e)

  rest : (at : ℕ) (d : Data) (ds : Items) → members_from version own prefix at (item d ds) ≡ [] → members_from version own prefix (at + 1) ds ≡ []
  rest at d ds e = no_back (member_at version own (place at) at (as_table d)) (members_from version own prefix (at + 1) ds) e

  all_ratios : (at : ℕ) (ds : Items) → members_from version own prefix at ds ≡ [] → list_all ratio_fits (each member_item ds) ≡ true
  all_ratios at no_items e = refl
  all_ratios at (item d ds) e =
      let s = here at d ds e in
      ap (λ xs. list_all ratio_fits (xs ++ each member_item ds)) s.is
      ∙ both_true (ratio_fits s.member) (list_all ratio_fits (each member_item ds)) s.ratio (all_ratios (at + 1) ds (rest at d ds e))

  all_priorities : (at : ℕ) (ds : Items) → members_from version own prefix at ds ≡ [] → list_all priority_fits (each member_item ds) ≡ true
  all_priorities at no_items e = refl
  all_priorities at (item d ds) e =
      let s = here at d ds e in
      ap (λ xs. list_all priority_fits (xs ++ each member_item ds)) s.is
      ∙ both_true (priority_fits s.member) (list_all priority_fits (each member_item ds)) s.priority (all_priorities (at + 1) ds (rest at d ds e))

  -- a later member has another address
  other : (a b : Addr) (n at : ℕ) → n < at → own (addr_text a) ≡ Some n → own (addr_text b) ≡ Some at → same_addr a b ≡ false
  other a b n at before of_a of_b = by_test (a.ip == b.ip) refl (a.port == b.port) refl
    where
      by_test : (x : Bool) → (a.ip == b.ip) ≡ x → (y : Bool) → (a.port == b.port) ≡ y → (x && y) ≡ false
      by_test false ip y port = refl
      by_test true ip false port = refl
      by_test true ip true port =
          let same : a ≡ b = ap (λ n. addr n a.port) (eqb-true a.ip b.ip ip) ∙ ap (addr b.ip) (eqb-true a.port b.port port) in
          let twice : Some n ≡ Some at = sym of_a ∙ ap (λ x. own (addr_text x)) same ∙ of_b in
          let one : n ≡ at = cc in
          absurd (omega (arith, one, before))
        where
          addr : ℕ → ℕ → Addr
          addr ip port = record { ip = ip; port = port }

  none_later : (a : Addr) (n at : ℕ) (ds : Items) → n < at → own (addr_text a) ≡ Some n → members_from version own prefix at ds ≡ []
      → list_any (λ m. same_addr a m.addr) (each member_item ds) ≡ false
  none_later a n at no_items before first e = refl
  none_later a n at (item d ds) before first e =
      let s = here at d ds e in
      let later : n < at + 1 = omega (arith, before) in
      ap (λ xs. list_any (λ m. same_addr a m.addr) (xs ++ each member_item ds)) s.is
      ∙ ap (λ b. b || list_any (λ m. same_addr a m.addr) (each member_item ds)) (other a s.member.addr n at before first s.first)
      ∙ none_later a n (at + 1) ds later first (rest at d ds e)

  all_apart : (at : ℕ) (ds : Items) → members_from version own prefix at ds ≡ [] → are_apart (each member_item ds) ≡ true
  all_apart at no_items e = refl
  all_apart at (item d ds) e =
      let s = here at d ds e in
      let next : at < at + 1 = omega arith in
      ap (λ xs. are_apart (xs ++ each member_item ds)) s.is
      ∙ both_true (not (list_any (λ m. same_addr s.member.addr m.addr) (each member_item ds))) (are_apart (each member_item ds))
      (ap not (none_later s.member.addr at (at + 1) ds next s.first (rest at d ds e))) (all_apart (at + 1) ds (rest at d ds e))

-- no more than the items
few_members : (ds : Items) → length (each member_item ds) ≤ items_length ds
few_members no_items = omega arith
few_members (item d ds) = by_table (as_table d) (few_members ds)
  where
    by_table : (o : Option Members) → length (each member_item ds) ≤ items_length ds → length (one (option_map member_of o) ++ each member_item ds) ≤ suc (items_length ds)
    by_table None more = omega (arith, more)
    by_table (Some ms) more = omega (arith, more)

members_fit : (version : Version) (prefix : List ℕ) (o : Option Items) → members_of version prefix o ≡ [] → nat_le (items_length (or_none o)) 1000 ≡ true → may_be_members (each member_item (or_none o)) ≡ true
members_fit version prefix None e short = refl
members_fit version prefix (Some ds) e short =
    let own = first_place (Some key.addr.name) ds in
    let count : length (each member_item ds) ≤ items_length ds = few_members ds in
    let those = each member_item ds in
    both_true (nat_le (length those) 1000) (list_all ratio_fits those && (list_all priority_fits those && are_apart those)) (grind (arith, nat_tests))
    (both_true (list_all ratio_fits those) (list_all priority_fits those && are_apart those) (all_ratios version own prefix 0 ds e)
    (both_true (list_all priority_fits those) (are_apart those) (all_priorities version own prefix 0 ds e) (all_apart version own prefix 0 ds e)))

pool_fits : (n : Names) (prefix : List ℕ) (at : ℕ) (ms : Members) → pool_faults n.version n.pools prefix at ms ≡ [] → may_be_members (pool_of ms).members ≡ true
pool_fits n prefix at ms e =
    let own = pool_keys_faults n.version prefix ms in
    let once = once_faults n.pools at prefix key.name_key ms in
    let its = members_of n.version prefix (array_at key.members ms) in
    let keys = no_front (keys_faults prefix (key.pool_keys n.version (member_count ms)) ms) (unknown_faults prefix (key.pool_keys n.version (member_count ms)) ms) (no_front own (once ++ its) e) in
    let of_members : key_flaw key.members ms ≡ None = no_flaw (key_place prefix key.members.name) (key_flaw key.members ms) (members_known n.version prefix (member_count ms) ms keys) in
    let members : its ≡ [] = no_back once its (no_back own (once ++ its) e) in
    members_fit n.version prefix (array_at key.members ms) members (few_at (get_member key.members.name ms) of_members)

-- ---- a section, whose items are tables

module _ {A : Type 0} (n : Names) (s : Section) (of : Members → A) (test : A → Bool)
    (fits : (prefix : List ℕ) (at : ℕ) (ms : Members) → table_faults n s prefix at ms ≡ [] → test (of ms) ≡ true) where
  item_fits : (place : List ℕ) (at : ℕ) (o : Option Members) (others : List A) → item_faults n s place at o ≡ [] → list_all test others ≡ true → list_all test (one (option_map of o) ++ others) ≡ true
  item_fits place at None others e more = more
  item_fits place at (Some ms) others e more = both_true (test (of ms)) (list_all test others) (fits (prefix_of place) at ms e) more

  items_fit : (at : ℕ) (ds : Items) → section_from n s at ds ≡ [] → list_all test (each (λ d. one (option_map of (as_table d))) ds) ≡ true
  items_fit at no_items e = refl
  items_fit at (item d ds) e =
      let place = item_place [] (section_key s).name at in
      item_fits place at (as_table d) (each (λ d. one (option_map of (as_table d))) ds) (no_front (item_faults n s place at (as_table d)) (section_from n s (at + 1) ds) e)
      (items_fit (at + 1) ds (no_back (item_faults n s place at (as_table d)) (section_from n s (at + 1) ds) e))

  section_fits : (o : Option Items) → section_of n s o ≡ [] → list_all test (each (λ d. one (option_map of (as_table d))) (or_none o)) ≡ true
  section_fits None e = refl
  section_fits (Some ds) e = items_fit 0 ds e

pub document_fits : (top : Members) → document_fault top ≡ None → Fits (settings_of top)
unfolding document_fault
document_fits top e =
    let n = names_in top in
    let none : document_faults top ≡ [] = none_told (document_faults top) e in
    let known = keys_faults [] (key.top_keys n.version) top in
    let unknown = unknown_faults [] (key.top_keys n.version) top in
    let virtuals = section_faults n Virtual top in
    let pools = section_faults n Pool top in
    let rules = section_faults n Rule top in
    let groups = section_faults n Group top in
    let behind : pools ++ (rules ++ groups) ≡ [] =
    no_back virtuals (pools ++ (rules ++ groups)) (no_back unknown (virtuals ++ (pools ++ (rules ++ groups))) (no_back known (unknown ++ (virtuals ++ (pools ++ (rules ++ groups)))) none)) in
    record {
      keys = section_fits n Group group_of has_keys (group_fits n) (array_at key.groups top) (no_back rules groups (no_back pools (rules ++ groups) behind));
      members = section_fits n Pool pool_of (λ p. may_be_members p.members) (pool_fits n) (array_at key.pools top) (no_front pools (rules ++ groups) behind);
    }
