-- The tables of data groups and rules in print are without faults, and say the same.
use Rattle.std.proofs.Common.{◌≡◌, ℕ, suc, ◌+◌, Bool, true, false, List, [], ◌∷◌, ◌++◌, map, Option, Some, None, refl, sym, ap, ap₂, subst, ◌∙◌}
use Rattle.std.specs.Option.{option_or}
use Rattle.std.specs.Prelude.{Ok, Err, Result, codes, if◌then◌else◌, is_some, option_and_then, option_map, unwrap_or}
use Rattle.data_groups.specs.Groups.{Row, is_key}
use Rattle.data_groups.specs.declared.kind.GroupKind.{GroupKind}
use Rattle.data_groups.specs.declared.kind.GroupKind.TheVariants.{String, Ip, Integer}
use Rattle.rule_loader.specs.Faults.{told_of}
use Rattle.rule_loader.specs.Loading.{Loaded, loaded, rule_faults as load_faults, rule_of, script_of, unless}
use Rattle.rule_loader.specs.Outcome.{Gives}
use Rattle.rule_loader.specs.declared.load_fault.RuleFault.{RuleFault}
use Rattle.rule_loader.specs.declared.rule.Rule.{Rule as LoadedScript}
use Rattle.tcl_trees.specs.Pieces.{all_commands}
use Rattle.toml.specs.Data.{Data, string, array, table, Items, no_items, item, Members, no_members, as_array, as_str, as_table, get_member}
use Rattle.config.specs.Documents.{Names, item_faults, or_none, section_from, section_key}
use Rattle.config.specs.EventWords.{misplaced_in}
use Rattle.config.specs.Faults.{fault_at}
use Rattle.config.specs.Groups.{group_faults, group_kind, key_fits, kind_at, row_flaw, row_of, rows_from, rows_of}
use Rattle.config.specs.Keys as key
use Rattle.config.specs.Keys.{group_keys, rule_keys}
use Rattle.config.specs.Loading.{AreLoaded, HasText, IsLoaded, file_name, rule_name}
use Rattle.config.specs.Names.{once_faults, twice}
use Rattle.config.specs.Places.{item_place, key_place, prefix_of}
use Rattle.config.specs.Read.{among, array_at}
use Rattle.config.specs.Rules.{rule_faults, source_faults}
use Rattle.config.specs.Settings.{each, given, group_of, one, row_item}
use Rattle.config.specs.Tables.{faults_of, flaw_of, keys_faults, unknown_faults}
use Rattle.config.specs.Texts.{first_from, here, text_at, text_in}
use Rattle.config.specs.Values.{items_length, judged}
use Rattle.config.specs.declared.config.GroupSettings.{GroupSettings}
use Rattle.config.specs.declared.fault.ConfigFault.{ConfigFault}
use Rattle.config.specs.declared.fault.ConfigFaultKind.TheVariants.{Range}
use Rattle.config.proofs.DocumentTypes.{Name, Rule}
use Rattle.config.specs.declared.rule_text.LoadedRule.{LoadedRule}
use Rattle.tmsh_laws.proofs.Kept.{Flawless, all_known, array_ok, array_says, at_key, each_keys, flawless, keys_each, no_back, no_flaw, no_front, none, required_text, same_twice}
use Rattle.tmsh_laws.proofs.Lines.{Each}
use Rattle.tmsh_laws.proofs.Tables.{array_entry, group_entries, group_members, kind_word, row_items, rows_items, rule_entries, rule_members, tables}
use Rattle.tmsh_laws.specs.ReadBack.{in_place}

-- ---- rows

row_back : (row : Row) → row_of (array (row_items row)) ≡ Some row
row_back (k, []) = refl
row_back (k, (b ∷ v)) = refl

pub rows_back : (rows : List Row) → each row_item (rows_items rows) ≡ rows
rows_back [] = refl
rows_back (row ∷ rows) = ap₂ (λ o xs. one o ++ xs) (row_back row) (rows_back rows)

module _ (kind : Option GroupKind) (prefix : List ℕ) where
  some_flaw : (d : Data) → judged (option_map (key_fits kind) (row_of d)) ≡ None → (row : Row) × (row_of d ≡ Some row) × (key_fits kind row ≡ true)
  some_flaw d e = by_row (row_of d) refl e
    where
      by_test : (row : Row) (b : Bool) → key_fits kind row ≡ b → judged (Some b) ≡ None → key_fits kind row ≡ true
      by_test row true is e = is
      by_test row false is e = absurd (cc)

      by_row : (o : Option Row) → row_of d ≡ o → judged (option_map (key_fits kind) o) ≡ None → (row : Row) × (row_of d ≡ Some row) × (key_fits kind row ≡ true)
      by_row None is e = absurd (cc)
      by_row (Some row) is e = (row, is, by_test row (key_fits kind row) refl e)

  of_kind : (row : Row) → key_fits kind row ≡ true → key_fits (Some (unwrap_or kind String)) row ≡ true
  of_kind row e = by_kind kind e
    where
      by_kind : (k : Option GroupKind) → key_fits k row ≡ true → is_key (unwrap_or k String) row.0 ≡ true
      by_kind None e = refl
      by_kind (Some k) e = e

  rows_kept : (at : ℕ) (ds : Items) → rows_from kind prefix at ds ≡ [] → rows_from (Some (unwrap_or kind String)) prefix at (rows_items (each row_item ds)) ≡ []
  rows_kept at no_items e = refl
  rows_kept at (item d ds) e =
      let place = item_place prefix key.rows.name at in
      let (row, is, fits) = some_flaw d (no_flaw place (row_flaw kind d) (no_front (faults_of place (row_flaw kind d)) (rows_from kind prefix (at + 1) ds) e)) in
      let more = rows_kept (at + 1) ds (no_back (faults_of place (row_flaw kind d)) (rows_from kind prefix (at + 1) ds) e) in
      let new = Some (unwrap_or kind String) in
      let here_ : faults_of place (row_flaw new (array (row_items row))) ≡ [] =
      ap (λ o. faults_of place (judged (option_map (key_fits new) o))) (row_back row) ∙ ap (λ b. faults_of place (judged (Some b))) (of_kind row fits) in
      subst (λ o. rows_from new prefix at (rows_items (one o ++ each row_item ds)) ≡ []) (sym is)
      (none (faults_of place (row_flaw new (array (row_items row)))) (rows_from new prefix (at + 1) (rows_items (each row_item ds))) here_ more)

  rows_long : (at : ℕ) (ds : Items) → rows_from kind prefix at ds ≡ [] → items_length (rows_items (each row_item ds)) ≡ items_length ds
  rows_long at no_items e = refl
  rows_long at (item d ds) e =
      let place = item_place prefix key.rows.name at in
      let (row, is, fits) = some_flaw d (no_flaw place (row_flaw kind d) (no_front (faults_of place (row_flaw kind d)) (rows_from kind prefix (at + 1) ds) e)) in
      let more = rows_long (at + 1) ds (no_back (faults_of place (row_flaw kind d)) (rows_from kind prefix (at + 1) ds) e) in
      subst (λ o. items_length (rows_items (one o ++ each row_item ds)) ≡ suc (items_length ds)) (sym is) (ap suc more)

rows_in : (kind : Option GroupKind) (prefix : List ℕ) (o : Option Items) → rows_of kind prefix o ≡ [] → rows_from kind prefix 0 (or_none o) ≡ []
rows_in kind prefix None e = refl
rows_in kind prefix (Some ds) e = e

rows_by : (kind : Option GroupKind) (prefix : List ℕ) (ds : Items) → rows_of kind prefix (option_and_then as_array (array_entry ds)) ≡ rows_from kind prefix 0 ds
rows_by kind prefix no_items = refl
rows_by kind prefix (item d ds) = refl

-- ---- a data group

abbrev kind_by : Option Data → Option GroupKind
kind_by o = option_map kind_at (option_and_then (among key.group_type.kind) (option_and_then as_str o))

kind_says : (kind : GroupKind) → kind_by (Some (string (kind_word kind))) ≡ Some kind
kind_says String = refl
kind_says Ip = refl
kind_says Integer = refl

kind_ok : (kind : GroupKind) → flaw_of key.group_type (Some (string (kind_word kind))) ≡ None
kind_ok String = refl
kind_ok Ip = refl
kind_ok Integer = refl

pub record GroupKept (groups : List ℕ → Option ℕ) (prefix : List ℕ) (at : ℕ) (ms : Members) : Type 0 where
  pub faultless : group_faults groups prefix at (group_members (group_of ms)) ≡ []
  pub says : group_of (group_members (group_of ms)) ≡ group_of ms
  pub name : text_at key.name_key.name (group_members (group_of ms)) ≡ text_at key.name_key.name ms

module _ (groups others : List ℕ → Option ℕ) (same : (t : List ℕ) → others t ≡ groups t) (prefix : List ℕ) (at : ℕ) (ms : Members) (e : group_faults groups prefix at ms ≡ []) where
  abbrev g : GroupSettings
  g = group_of ms

  abbrev d : Members
  d = group_members g

  abbrev old : Items
  old = or_none (array_at key.rows ms)

  keys : Each (Flawless ms) group_keys
  keys = keys_each prefix group_keys ms (no_front (keys_faults prefix group_keys ms) _ e)

  behind : once_faults groups at prefix key.name_key ms ++ rows_of (group_kind ms) prefix (array_at key.rows ms) ≡ []
  behind = no_back (unknown_faults prefix group_keys ms) _ (no_back (keys_faults prefix group_keys ms) _ e)

  once : once_faults groups at prefix key.name_key ms ≡ []
  once = no_front (once_faults groups at prefix key.name_key ms) _ behind

  old_rows : rows_from (group_kind ms) prefix 0 old ≡ []
  old_rows = rows_in (group_kind ms) prefix (array_at key.rows ms) (no_back (once_faults groups at prefix key.name_key ms) _ behind)

  new_name : get_member (codes "name") d ≡ get_member (codes "name") ms
  new_name =
      let (t, there, form) = required_text (codes "name") Name (get_member (codes "name") ms) keys.0 in
      at_key (group_entries g) (codes "name") (Some (string g.name)) refl ∙ ap (λ o. Some (string (unwrap_or (option_and_then as_str o) []))) there ∙ sym there

  new_type : get_member (codes "type") d ≡ Some (string (kind_word g.kind))
  new_type = at_key (group_entries g) (codes "type") (Some (string (kind_word g.kind))) refl

  new_rows : get_member (codes "rows") d ≡ array_entry (rows_items g.rows)
  new_rows = at_key (group_entries g) (codes "rows") (array_entry (rows_items g.rows)) refl

  new_kind : group_kind d ≡ Some g.kind
  new_kind = ap kind_by new_type ∙ kind_says g.kind

  faultless : group_faults others prefix at d ≡ []
  faultless =
      none _ _
      (each_keys prefix group_keys d (
        flawless d key.name_key (get_member (codes "name") ms) new_name keys.0,
        (
          flawless d key.group_type (Some (string (kind_word g.kind))) new_type (kind_ok g.kind),
          (
            flawless d key.rows (array_entry (rows_items g.rows)) new_rows
                (array_ok (codes "rows") 65536 (get_member (codes "rows") ms) (rows_items g.rows) (rows_long (group_kind ms) prefix 0 old old_rows) keys.1.1.0),
            tt,
          ),
        ),
      ))
      (none _ _ (all_known prefix group_keys (group_entries g) no_members (refl, (refl, (refl, tt))) refl)
      (none _ _ (ap (faults_of (key_place prefix key.name_key.name)) (ap (λ o. twice others at (option_and_then as_str o)) new_name ∙ same_twice others groups same at (text_at key.name_key.name ms)) ∙ once)
      (ap₂ (λ k o. rows_of k prefix (option_and_then as_array o)) new_kind new_rows ∙ rows_by (Some g.kind) prefix (rows_items g.rows) ∙ rows_kept (group_kind ms) prefix 0 old old_rows)))

  abbrev made : List ℕ → GroupKind → List Row → GroupSettings
  made n k rs = record { name = n; kind = k; rows = rs }

  pub group_kept : GroupKept others prefix at ms
  group_kept = record {
    faultless = faultless;
    says =
        let n = given key.name_key d in
        let k = unwrap_or (group_kind d) String in
        ap (λ rs. made n k rs) (ap (λ o. each row_item (or_none (option_and_then as_array o))) new_rows ∙ ap (each row_item) (array_says (rows_items g.rows)) ∙ rows_back g.rows)
        ∙ ap (λ x. made n x g.rows) (ap (λ o. unwrap_or o String) new_kind) ∙ ap (λ x. made x g.kind g.rows) (ap (λ o. unwrap_or (option_and_then as_str o) []) new_name);
    name = ap (option_and_then as_str) new_name;
  }

-- ---- rules

-- a rule has the name under which it was loaded
name_given : (name : List ℕ) (r : LoadedScript) (says : Result Loaded RuleFault) → ((of : Loaded) → says ≡ Ok of → of.name ≡ name) → Gives (Ok r) says → r.name ≡ name
name_given name r (Ok of) named gives = gives.name ∙ named of refl
name_given name r (Err f) named gives = absurd gives

unless_named : (o : Option RuleFault) (l of : Loaded) → unless o l ≡ Ok of → of.name ≡ l.name
unless_named None l of e = let k : l ≡ of = cc in ap (λ x. x.name) (sym k)
unless_named (Some f) l of e = absurd (cc)

loaded_name : (name bytes : List ℕ) (of : Loaded) → rule_of name bytes ≡ Ok of → of.name ≡ name
unfolding rule_of
loaded_name name bytes of e = unless_named (told_of (load_faults (script_of bytes))) (loaded name (all_commands (script_of bytes).0)) of e

pub rule_named : (told : List ℕ → Option (List ℕ)) (d : Data) (r : LoadedRule) → IsLoaded told d r → r.rule.name ≡ rule_name d
rule_named told d r is = name_given (rule_name d) r.rule (rule_of (rule_name d) is.text.bytes) (loaded_name (rule_name d) is.text.bytes) is.rule.rule

record RuleKept (rules : List ℕ → Option ℕ) (prefix : List ℕ) (at : ℕ) (ms : Members) (r : LoadedRule) : Type 0 where
  faultless : rule_faults rules prefix at (rule_members r) ≡ []
  name : text_at key.name_key.name (rule_members r) ≡ text_at key.name_key.name ms

module _ (rules others : List ℕ → Option ℕ) (same : (t : List ℕ) → others t ≡ rules t) (prefix : List ℕ) (at : ℕ) (ms : Members) (r : LoadedRule)
    (named : r.rule.name ≡ unwrap_or (text_at key.name_key.name ms) []) (e : rule_faults rules prefix at ms ≡ []) where
  rule_name_ok : Flawless ms key.name_key
  rule_name_ok = (keys_each prefix rule_keys ms (no_front (keys_faults prefix rule_keys ms) _ e)).0

  rule_once : once_faults rules at prefix key.name_key ms ≡ []
  rule_once = no_front (once_faults rules at prefix key.name_key ms) _ (no_back (unknown_faults prefix rule_keys ms) _ (no_back (keys_faults prefix rule_keys ms) _ e))

  rule_new_name : get_member (codes "name") (rule_members r) ≡ get_member (codes "name") ms
  rule_new_name =
      let (t, there, form) = required_text (codes "name") Name (get_member (codes "name") ms) rule_name_ok in
      at_key (rule_entries r) (codes "name") (Some (string r.rule.name)) refl
      ∙ ap (λ x. Some (string x)) (named ∙ ap (λ o. unwrap_or (option_and_then as_str o) []) there) ∙ sym there

  rule_text_at : get_member (codes "text") (rule_members r) ≡ Some (string r.text.bytes)
  rule_text_at = at_key (rule_entries r) (codes "text") (Some (string r.text.bytes)) refl

  rule_file_at : get_member (codes "file") (rule_members r) ≡ None
  rule_file_at = at_key (rule_entries r) (codes "file") None refl

  abbrev source_by : Option Data → Option Data → List ConfigFault
  source_by o p =
      let fault = fault_at Range (key_place prefix key.rule_text.name) in
      if is_some o then (if is_some p then fault ∷ [] else []) else (if is_some p then [] else fault ∷ [])

  rule_source : source_faults prefix (rule_members r) ≡ []
  rule_source = ap₂ source_by rule_text_at rule_file_at

  rule_kept : RuleKept others prefix at ms r
  rule_kept =
      let d = rule_members r in
      record {
        faultless =
            none _ _
            (each_keys prefix rule_keys d (
              flawless d key.name_key (get_member (codes "name") ms) rule_new_name rule_name_ok,
              (flawless d key.rule_text (Some (string r.text.bytes)) rule_text_at refl, (flawless d key.rule_file None rule_file_at refl, tt)),
            ))
            (none _ _ (all_known prefix rule_keys (rule_entries r) no_members (refl, (refl, tt)) refl)
            (none _ _
            (ap (faults_of (key_place prefix key.name_key.name)) (ap (λ o. twice others at (option_and_then as_str o)) rule_new_name ∙ same_twice others rules same at (text_at key.name_key.name ms)) ∙ rule_once)
            rule_source));
        name = ap (option_and_then as_str) rule_new_name;
      }

-- ---- all rules

module _ (told : List ℕ → Option (List ℕ)) (n m : Names) (same : (t : List ℕ) → m.rules t ≡ n.rules t) where
  pub all_rules_kept : (at : ℕ) (ds : Items) (rs : List LoadedRule) → AreLoaded told ds rs → section_from n Rule at ds ≡ [] → section_from m Rule at (tables rule_members rs) ≡ []
  all_rules_kept at no_items [] loaded e = refl
  all_rules_kept at no_items (r ∷ rs) loaded e = absurd loaded
  all_rules_kept at (item d ds) [] loaded e = absurd loaded
  all_rules_kept at (item d ds) (r ∷ rs) loaded e =
      let place = item_place [] (section_key Rule).name at in
      by_table (as_table d) refl (no_front (item_faults n Rule place at (as_table d)) _ e)
      (all_rules_kept (at + 1) ds rs loaded.1 (no_back (item_faults n Rule place at (as_table d)) _ e))
    where
      by_table : (o : Option Members) → as_table d ≡ o → item_faults n Rule (item_place [] (section_key Rule).name at) at o ≡ []
          → section_from m Rule (at + 1) (tables rule_members rs) ≡ [] → section_from m Rule at (tables rule_members (r ∷ rs)) ≡ []
      by_table None is here_ more = absurd (cc)
      by_table (Some ms) is here_ more =
          let p = prefix_of (item_place [] (section_key Rule).name at) in
          let named : r.rule.name ≡ unwrap_or (text_at key.name_key.name ms) [] =
          rule_named told d r loaded.0 ∙ ap (λ o. unwrap_or (option_and_then (text_at key.name_key.name) o) []) is in
          none _ _ (rule_kept n.rules m.rules same p at ms r named here_).faultless more

module _ (told : List ℕ → Option (List ℕ)) (n : Names) where
  pub rules_long : (at : ℕ) (ds : Items) (rs : List LoadedRule) → AreLoaded told ds rs → items_length (tables rule_members rs) ≡ items_length ds
  rules_long at no_items [] loaded = refl
  rules_long at no_items (r ∷ rs) loaded = absurd loaded
  rules_long at (item d ds) [] loaded = absurd loaded
  rules_long at (item d ds) (r ∷ rs) loaded = ap suc (rules_long (at + 1) ds rs loaded.1)

  self : (t : List ℕ) → n.rules t ≡ n.rules t
  self t = refl

  pub rules_places : (at : ℕ) (ds : Items) (rs : List LoadedRule) → AreLoaded told ds rs → section_from n Rule at ds ≡ [] → (t : List ℕ)
      → first_from at (Some key.name_key.name) (tables rule_members rs) t ≡ first_from at (Some key.name_key.name) ds t
  rules_places at no_items [] loaded e t = refl
  rules_places at no_items (r ∷ rs) loaded e t = absurd loaded
  rules_places at (item d ds) [] loaded e t = absurd loaded
  rules_places at (item d ds) (r ∷ rs) loaded e t =
      let place = item_place [] (section_key Rule).name at in
      by_table (as_table d) refl (no_front (item_faults n Rule place at (as_table d)) _ e)
      (rules_places (at + 1) ds rs loaded.1 (no_back (item_faults n Rule place at (as_table d)) _ e) t)
    where
      by_table : (o : Option Members) → as_table d ≡ o → item_faults n Rule (item_place [] (section_key Rule).name at) at o ≡ []
          → first_from (at + 1) (Some key.name_key.name) (tables rule_members rs) t ≡ first_from (at + 1) (Some key.name_key.name) ds t
          → first_from at (Some key.name_key.name) (tables rule_members (r ∷ rs)) t ≡ first_from at (Some key.name_key.name) (item d ds) t
      by_table None is here_ more = absurd (cc)
      by_table (Some ms) is here_ more =
          let p = prefix_of (item_place [] (section_key Rule).name at) in
          let named : r.rule.name ≡ unwrap_or (text_at key.name_key.name ms) [] =
          rule_named told d r loaded.0 ∙ ap (λ o. unwrap_or (option_and_then (text_at key.name_key.name) o) []) is in
          ap₂ (λ x y. option_or (here x t at) y)
          ((rule_kept n.rules n.rules self p at ms r named here_).name ∙ sym (ap (option_and_then (text_at key.name_key.name)) is)) more

-- the rules of the new tables are the same ones, with their texts in the document
module _ (told now : List ℕ → Option (List ℕ)) where
  still_loaded : (d : Data) (r : LoadedRule) → IsLoaded told d r → IsLoaded now (table (rule_members r)) (in_place r)
  still_loaded d r is =
      let name_is : rule_name (table (rule_members r)) ≡ rule_name d =
      ap (λ o. unwrap_or (option_and_then as_str o) []) (at_key (rule_entries r) (codes "name") (Some (string r.rule.name)) refl) ∙ rule_named told d r is in
      let text_is : text_in (Some key.rule_text.name) (table (rule_members r)) ≡ Some r.text.bytes =
      ap (option_and_then as_str) (at_key (rule_entries r) (codes "text") (Some (string r.text.bytes)) refl) in
      let bytes : is.text.bytes ≡ r.text.bytes = sym (ap (λ t. t.bytes) is.rule.text_is) in
      record {
        text = (in_place r).text;
        contents = subst (λ o. HasText now o (file_name (table (rule_members r))) (in_place r).text) (sym text_is) (record { no_file = refl; bytes_are = refl });
        rule = record {
          text_is = refl;
          rule = subst (λ name. Gives (Ok r.rule) (rule_of name r.text.bytes)) (sym name_is) (subst (λ b. Gives (Ok r.rule) (rule_of (rule_name d) b)) bytes is.rule.rule);
          of_http = is.rule.of_http ∙ ap (misplaced_in false) bytes;
          of_bytes = is.rule.of_bytes ∙ ap (misplaced_in true) bytes;
        };
      }

  pub all_still_loaded : (ds : Items) (rs : List LoadedRule) → AreLoaded told ds rs → AreLoaded now (tables rule_members rs) (map in_place rs)
  all_still_loaded no_items [] loaded = tt
  all_still_loaded no_items (r ∷ rs) loaded = absurd loaded
  all_still_loaded (item d ds) [] loaded = absurd loaded
  all_still_loaded (item d ds) (r ∷ rs) loaded = (still_loaded d r loaded.0, all_still_loaded ds rs loaded.1)
