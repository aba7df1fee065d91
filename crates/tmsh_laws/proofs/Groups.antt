-- What is read of a data group, and of a rule, in print.
use Rattle.std.proofs.Common.{◌≡◌, ℕ, Bool, true, false, not, ◌&&◌, eqb, List, [], ◌∷◌, ◌++◌, length, Some, None, refl, sym, ap, subst}
use Rattle.std.specs.Prelude.{codes, if◌then◌else◌, is_some}
use Rattle.std.specs.Str.{is_utf8}
use Rattle.toml.specs.Data.{string, array, table, Items, no_items, item as one_item, Members, no_members, get_member, push_item}
use Rattle.config.specs.declared.config.GroupSettings.{GroupSettings}
use Rattle.config.specs.declared.rule_text.LoadedRule.{LoadedRule}
use Rattle.data_groups.specs.Groups.{Row}
use Rattle.data_groups.specs.declared.kind.GroupKind.{GroupKind}
use Rattle.data_groups.specs.declared.kind.GroupKind.TheVariants.{String, Ip, Integer}
use Rattle.tmsh_laws.proofs.Lines.{Each, Goes, all_go, blank, by_chain, indent, indent_twice, item_goes, joined_chain, newline, nothing, put}
use Rattle.tmsh_laws.proofs.Reading.{IsRun, ReadsAll, close_all, open_all, rule_all, run_of, run_within, word_all}
use Rattle.tmsh_laws.proofs.Servers.{contains, keyword, lacks, not_none, piece, pushed, pushed_is}
use Rattle.tmsh_laws.proofs.Stanzas.{among, idle, ltm_all, now, value}
use Rattle.tmsh_laws.proofs.Tables.{Entries, array_entry, group_entries, group_members, kind_word, puts, row_items, rows_items, rule_members}
use Rattle.tmsh_read.specs.Grammar.{step}
use Rattle.tmsh_read.specs.Sketch.{Sketch, closed}
use Rattle.tmsh_read.specs.Tables.{with_member}
use Rattle.tmsh_read.proofs.GapKinds.{LineStart, Within}
use Rattle.tmsh_read.proofs.ItemKinds as item_
use Rattle.tmsh_read.proofs.NextKinds as next
use Rattle.tmsh_read.proofs.BlockKinds as block
use Rattle.tmsh_read.proofs.SectionKinds as section
use Rattle.tmsh_read.proofs.TokenKinds.{Close, Run, Quoted}
use Rattle.tmsh_text.specs.Braces.{is_balanced}
use Rattle.tmsh_text.specs.Items.{item, joined}
use Rattle.tmsh_text.specs.Printed.{data_item, data_record, group_items, group_text, kind_item, records, records_item, rule_text}
use Rattle.tmsh_text.specs.Words.{is_plain, word}

-- ---- rows

pub record RowReads (row : Row) : Type 0 where
  pub key : is_utf8 row.0 ≡ true
  pub value : is_utf8 row.1 ≡ true

module _ (s : Sketch) (gm : Members) where
  abbrev rowing : Items → Sketch
  rowing en = now s next.Rows gm en no_members no_items

  abbrev within : Items → Items → Sketch
  within en row = now s (next.Items block.Row) gm en no_members row

  keyed : (en : Items) (k : List ℕ) (x : Bool) → step (rowing en) (if x then Run k else Quoted k) ≡ Some (now s (next.Opens block.Row) gm en no_members (one_item (string k) no_items))
  keyed en k true = refl
  keyed en k false = refl

  given : (en : Items) (k v : List ℕ) (x : Bool) → step (now s (next.Value item_.Data) gm en no_members (one_item (string k) no_items)) (if x then Run v else Quoted v)
      ≡ Some (within en (one_item (string k) (one_item (string v) no_items)))
  given en k v true = refl
  given en k v false = refl

  -- a value, which stands before a blank
  data_by : (en : Items) (k v : List ℕ) → is_utf8 v ≡ true → (more : List ℕ) (u : Sketch) → ReadsAll Within (within en (row_items (k, v))) (32 ∷ more) u
      → ReadsAll Within (within en (one_item (string k) no_items)) (data_item v ++ (32 ∷ more)) u
  data_by en k [] utf8 more u all = all
  data_by en k (b ∷ v) utf8 more u all =
      let w = b ∷ v in
      let row = one_item (string k) no_items in
      let valued = now s (next.Value item_.Data) gm en no_members row in
      let ps = codes " data " ∷ (word w ∷ []) in
      let read : ReadsAll Within (within en row) (32 ∷ (codes "data" ++ (32 ∷ (word w ++ (32 ∷ more))))) u =
      blank (within en row) u refl (codes "data" ++ (32 ∷ (word w ++ (32 ∷ more))))
      (run_within (within en row) valued u refl (codes "data") 32 (word w ++ (32 ∷ more)) (run_of (codes "data") refl) refl refl
      (blank valued u refl (word w ++ (32 ∷ more))
      (word_all valued (within en (row_items (k, w))) u refl w 32 more utf8 refl (given en k w (not (eqb (length w) 0) && is_plain w)) all))) in
      let shown : ReadsAll Within (within en row) (joined ps ++ (32 ∷ more)) u = subst (λ x. ReadsAll Within (within en row) x u) (sym (joined_chain ps (32 ∷ more))) read in
      subst (λ x. ReadsAll Within (within en row) ((if x then [] else joined ps) ++ (32 ∷ more)) u) (sym (not_none b v)) shown

  row_goes : (en : Items) (row : Row) → RowReads row → Goes LineStart (rowing en) (data_record row) LineStart (rowing (push_item en (array (row_items row))))
  row_goes en (k, v) is =
      let opened = now s (next.Opens block.Row) gm en no_members (one_item (string k) no_items) in
      let inside = within en (one_item (string k) no_items) in
      let whole = within en (row_items (k, v)) in
      let t = rowing (push_item en (array (row_items (k, v)))) in
      by_chain LineStart LineStart (rowing en) t (codes "        " ∷ (word k ∷ (codes " {" ∷ (data_item v ∷ (codes " }\n" ∷ [])))))
      (λ rest u all.
      let ending = 125 ∷ (10 ∷ rest) in
      let ended : ReadsAll Within whole (32 ∷ ending) u = blank whole u refl ending (close_all Within whole t u refl (10 ∷ rest) refl refl (newline t u refl rest all)) in
      let after = data_item v ++ (32 ∷ ending) in
      indent_twice (rowing en) u refl (word k ++ (32 ∷ (123 ∷ after)))
      (word_all (rowing en) opened u refl k 32 (123 ∷ after) is.key refl (keyed en k (not (eqb (length k) 0) && is_plain k))
      (blank opened u refl (123 ∷ after)
      (open_all Within opened inside u refl after refl refl (data_by en k v is.value ending u ended)))))

  abbrev group : Members → Sketch
  group n = among s block.Group n

  some_rows : (rows : List Row) → Each RowReads rows → is_some (get_member (codes "rows") gm) ≡ false
      → Goes LineStart (group gm) (joined (codes "    records {\n" ∷ (records rows ∷ (codes "    }\n" ∷ [])))) LineStart (group (with_member (codes "rows") (array (pushed (λ r. array (row_items r)) no_items rows)) gm))
  some_rows rows each none =
      let en = pushed (λ r. array (row_items r)) no_items rows in
      let v = value s item_.Rows gm in
      let t = group (with_member (codes "rows") (array en) gm) in
      by_chain LineStart LineStart (group gm) t (codes "    records {\n" ∷ (records rows ∷ (codes "    }\n" ∷ [])))
      (λ rest u all.
      let ending = 32 ∷ (32 ∷ (32 ∷ (32 ∷ (125 ∷ (10 ∷ rest))))) in
      let ended : ReadsAll LineStart (rowing en) ending u = indent (rowing en) u refl (125 ∷ (10 ∷ rest)) (close_all Within (rowing en) t u refl (10 ∷ rest) refl refl (newline t u refl rest all)) in
      let lines : ReadsAll LineStart (rowing no_items) (records rows ++ ending) u =
      all_go LineStart data_record rowing (λ ds r. push_item ds (array (row_items r))) RowReads row_goes rows each no_items ending u ended in
      indent (group gm) u refl (codes "records" ++ (32 ∷ (123 ∷ (10 ∷ (records rows ++ ending)))))
      (run_within (group gm) v u refl (codes "records") 32 (123 ∷ (10 ∷ (records rows ++ ending))) (run_of (codes "records") refl) refl (keyword s block.Group item_.Rows (codes "records") gm refl none)
      (blank v u refl (123 ∷ (10 ∷ (records rows ++ ending)))
      (open_all Within v (rowing no_items) u refl (10 ∷ (records rows ++ ending)) refl refl
      (newline (rowing no_items) u refl (records rows ++ ending) lines)))))

  rows_go : (rows : List Row) → Each RowReads rows → is_some (get_member (codes "rows") gm) ≡ false
      → Goes LineStart (group gm) (records_item rows) LineStart (group (put (codes "rows") (array_entry (rows_items rows)) gm))
  rows_go [] each none = nothing LineStart (group gm)
  rows_go (r ∷ rows) each none =
      let text = joined (codes "    records {\n" ∷ (records (r ∷ rows) ∷ (codes "    }\n" ∷ []))) in
      let t = group (with_member (codes "rows") (array (rows_items (r ∷ rows))) gm) in
      let goes : Goes LineStart (group gm) text LineStart t =
      subst (λ en. Goes LineStart (group gm) text LineStart (group (with_member (codes "rows") (array en) gm))) (pushed_is (λ x. array (row_items x)) (r ∷ rows)) (some_rows (r ∷ rows) each none) in
      subst (λ x. Goes LineStart (group gm) (if x then [] else text) LineStart t) (sym (not_none r rows)) goes

  type_goes : (w : List ℕ) → IsRun w → is_some (get_member (codes "type") gm) ≡ false
      → Goes LineStart (group gm) (item (codes "type") w) LineStart (group (with_member (codes "type") (string w) gm))
  type_goes w run none =
      item_goes (group gm) (value s item_.Kind gm) (group (with_member (codes "type") (string w) gm)) (codes "type") w refl refl refl (run_of (codes "type") refl) run
      (keyword s block.Group item_.Kind (codes "type") gm refl none) refl

  kind_goes : (kind : GroupKind) → is_some (get_member (codes "type") gm) ≡ false
      → Goes LineStart (group gm) (kind_item kind) LineStart (group (with_member (codes "type") (string (kind_word kind)) gm))
  kind_goes String none = type_goes (codes "string") (run_of (codes "string") refl) none
  kind_goes Ip none = type_goes (codes "ip") (run_of (codes "ip") refl) none
  kind_goes Integer none = type_goes (codes "integer") (run_of (codes "integer") refl) none

-- ---- a data group

pub record GroupReads (g : GroupSettings) : Type 0 where
  pub name : IsRun g.name
  pub rows : Each RowReads g.rows

abbrev pub with_group : Sketch → GroupSettings → Sketch
with_group s g = record s { groups = push_item s.groups (table (group_members g)) }

module _ (s : Sketch) (g : GroupSettings) (is : GroupReads g) where
  abbrev at : Entries → Sketch
  at es = among s block.Group (puts es no_members)

  items_go : Goes LineStart (at ((codes "name", Some (string g.name)) ∷ [])) (group_items g) LineStart (at (group_entries g))
  items_go =
      let e1 : Entries = (codes "name", Some (string g.name)) ∷ [] in
      let e2 : Entries = (codes "name", Some (string g.name)) ∷ ((codes "type", Some (string (kind_word g.kind))) ∷ []) in
      let last = at (group_entries g) in
      let p1 = kind_item g.kind in
      let p2 = records_item g.rows in
      piece (at e1) (at e2) last p1 (p2 ∷ []) (kind_goes s (puts e1 no_members) g.kind (lacks (codes "type") e1 refl))
      (piece (at e2) last last p2 [] (rows_go s (puts e2 no_members) g.rows is.rows (lacks (codes "rows") e2 refl)) (nothing LineStart last))

  head : (after : List ℕ) (u : Sketch) → ReadsAll LineStart (at ((codes "name", Some (string g.name)) ∷ [])) after u
      → ReadsAll LineStart (idle s next.Stanza) (codes "ltm data-group internal " ++ (g.name ++ (codes " {\n" ++ after))) u
  head after u more =
      let text = g.name ++ (codes " {\n" ++ after) in
      let opened = now s (next.Opens block.Group) (with_member (codes "name") (string g.name) no_members) no_items no_members no_items in
      ltm_all s u (codes "data-group internal " ++ text)
      (run_within (idle s next.Section) (idle s next.Internal) u refl (codes "data-group") 32 (codes "internal " ++ text) (run_of (codes "data-group") refl) refl refl
      (blank (idle s next.Internal) u refl (codes "internal " ++ text)
      (run_within (idle s next.Internal) (idle s (next.Name section.Group)) u refl (codes "internal") 32 text (run_of (codes "internal") refl) refl refl
      (blank (idle s (next.Name section.Group)) u refl text
      (run_within (idle s (next.Name section.Group)) opened u refl g.name 32 (123 ∷ (10 ∷ after)) is.name refl refl
      (blank opened u refl (123 ∷ (10 ∷ after))
      (open_all Within opened (at ((codes "name", Some (string g.name)) ∷ [])) u refl (10 ∷ after) refl refl
      (newline (at ((codes "name", Some (string g.name)) ∷ [])) u refl after more))))))))

  pub group_goes : Goes LineStart (idle s next.Stanza) (group_text g) LineStart (idle (with_group s g) next.Stanza)
  group_goes =
      let whole : is_some (get_member (codes "type") (group_members g)) ≡ true = contains (codes "type") (group_entries g) (string (kind_word g.kind)) refl in
      let closes : step (at (group_entries g)) Close ≡ Some (idle (with_group s g) next.Stanza) = ap (λ x. if x then Some (closed block.Group (at (group_entries g))) else None) whole in
      by_chain LineStart LineStart (idle s next.Stanza) (idle (with_group s g) next.Stanza) (codes "ltm data-group internal " ∷ (g.name ∷ (codes " {\n" ∷ (group_items g ∷ (codes "}\n" ∷ [])))))
      (λ rest u all.
      let ending = 125 ∷ (10 ∷ rest) in
      head (group_items g ++ ending) u
      (items_go ending u (close_all LineStart (at (group_entries g)) (idle (with_group s g) next.Stanza) u refl (10 ∷ rest) refl closes (newline (idle (with_group s g) next.Stanza) u refl rest all))))

-- ---- a rule

pub record RuleReads (r : LoadedRule) : Type 0 where
  pub name : IsRun r.rule.name
  pub utf8 : is_utf8 r.text.bytes ≡ true
  pub balanced : is_balanced r.text.bytes ≡ true

abbrev pub with_rule : Sketch → LoadedRule → Sketch
with_rule s r = record s { rules = push_item s.rules (table (rule_members r)) }

module _ (s : Sketch) (r : LoadedRule) (is : RuleReads r) where
  pub rule_goes : Goes LineStart (idle s next.Stanza) (rule_text r) LineStart (idle (with_rule s r) next.Stanza)
  rule_goes =
      let named = now s next.Text (with_member (codes "name") (string r.rule.name) no_members) no_items no_members no_items in
      let t = idle (with_rule s r) next.Stanza in
      by_chain LineStart LineStart (idle s next.Stanza) t (codes "ltm rule " ∷ (r.rule.name ∷ (codes " {" ∷ (r.text.bytes ∷ (codes "}\n" ∷ [])))))
      (λ rest u all.
      let inside = 123 ∷ (r.text.bytes ++ (125 ∷ (10 ∷ rest))) in
      let text = r.rule.name ++ (32 ∷ inside) in
      ltm_all s u (codes "rule " ++ text)
      (run_within (idle s next.Section) (idle s (next.Name section.Rule)) u refl (codes "rule") 32 text (run_of (codes "rule") refl) refl refl
      (blank (idle s (next.Name section.Rule)) u refl text
      (run_within (idle s (next.Name section.Rule)) named u refl r.rule.name 32 inside is.name refl refl
      (rule_all named t u refl r.text.bytes (10 ∷ rest) is.utf8 is.balanced refl (newline t u refl rest all))))))
