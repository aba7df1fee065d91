-- A call on the row of its key.
use Rattle.std.proofs.Common.{◌≡◌, ℕ, ℤ, ◌++◌, Bool, true, false, not, cond, List, [], length}
use Rattle.std.proofs.Common.{Option, Some, None, Result, Ok, Err, option_map, refl, sym, ap, ap₂, ◌∙◌}
use Rattle.std.specs.Map.{lookup, remove_entry, set_value}
use Rattle.std.proofs.lemmas.Map.Steps.{set_value_same}
use Rattle.px_bytes.specs.Gives.{with_value}
use Rattle.px_bytes.specs.WholeWord.{number_of}
use Rattle.px_bytes.specs.declared.fault.Raise.{Raise}
use Rattle.px_bytes.specs.declared.fault.Raise.TheVariants.{Fault, Memory}
use Rattle.px_bytes.specs.declared.fault.TclFault.{TclFault}
use Rattle.timed_rows.specs.Rows.{Timed}
use Rattle.session_table.specs.Answers.{Kept, absent, came, is_delete, kept, living, nothing, sum_text, touched, value_limited}
use Rattle.session_table.specs.Answers.{with_text}
use Rattle.session_table.specs.Rows.{is_live, is_of}
use Rattle.session_table.specs.Serves.{Serves}
use Rattle.session_table.specs.Stored.{Dues, Entries, KeepsRow, due, is_key, made_new, named, put_kept, rows_of}
use Rattle.session_table.specs.Tables.{Served, TableState, gives, placed, row_served, with_row}
use Rattle.session_table.specs.Turns.{Keeps}
use Rattle.session_table.specs.declared.came.Came.{Came}
use Rattle.session_table.specs.declared.request.Act.{Act}
use Rattle.session_table.specs.declared.request.Act.TheVariants as act
use Rattle.session_table.specs.declared.request.Making.TheVariants.{Always, IfAbsent, IfPresent}
use Rattle.session_table.specs.declared.request.RowCall.{RowCall}
use Rattle.session_table.specs.declared.request.Span.TheVariants.{Lifetime, Timeout}
use Rattle.session_table.specs.declared.row.TableRow.{TableRow}
use Rattle.std.proofs.Common.{◌<◌, IfSome, arith, nat_lt, subst}
use Rattle.std.specs.BTreeMap.{insert_entry}
use Rattle.std.proofs.lemmas.Bool.Decides.{nat_tests}
use Rattle.session_table.specs.Answers.{if_live}
use Rattle.session_table.specs.Stored.{Key, key_cmp}
use Rattle.session_table.specs.Tables.{added, fails, table_full, with_new}
use Rattle.session_table.proofs.OnceKeys.{NamedCame, NamedRow, absent_named}
use Rattle.session_table.specs.Stored.{goes}
use Rattle.session_table.proofs.UnderKeys.{dues_remove, dues_set, insert_row, length_rows}
use Rattle.session_table.proofs.UnderKeys.{due_found, find_row, remove_absent, remove_row, set_again, set_removed, set_row}

-- a call does the same with a row whatever its names are
abbrev pub under : List ℕ → List ℕ → Result Kept TclFault → Result Kept TclFault
under s k (Err fault) = Err fault
under s k (Ok r) = Ok (r.0, named s k r.1)

touched_under : (s k : List ℕ) (touches : Bool) (moment : ℕ) (row : TableRow) → touched touches moment (named s k row) ≡ named s k (touched touches moment row)
touched_under s k true moment row = refl
touched_under s k false moment row = refl

text_under : (s k : List ℕ) (touches : Bool) (moment : ℕ) (row : TableRow) (text : Result (List ℕ) TclFault)
    → with_value text (λ value. Ok (with_text touches moment value (named s k row)))
    ≡ under s k (with_value text (λ value. Ok (with_text touches moment value row)))
text_under s k touches moment row (Err fault) = refl
text_under s k touches moment row (Ok text) = ap (λ r. Ok (text, r)) (touched_under s k touches moment (record row { text = text }))

sum_under : (s k : List ℕ) (touches : Bool) (moment : ℕ) (row : TableRow) (delta : ℤ) (n : Result ℤ TclFault)
    → with_value n (λ m. with_value (sum_text m delta) (λ text. Ok (with_text touches moment text (named s k row))))
    ≡ under s k (with_value n (λ m. with_value (sum_text m delta) (λ text. Ok (with_text touches moment text row))))
sum_under s k touches moment row delta (Err fault) = refl
sum_under s k touches moment row delta (Ok m) = text_under s k touches moment row (sum_text m delta)

pub kept_under : (s k : List ℕ) (touches : Bool) (act : Act) (moment : ℕ) (row : TableRow)
    → kept touches act moment (named s k row) ≡ under s k (kept touches act moment row)
kept_under s k touches (act.Set Always text times) moment row = ap (λ r. Ok (text, r)) (touched_under s k touches moment _)
kept_under s k touches (act.Set IfAbsent text times) moment row = ap (λ r. Ok (row.text, r)) (touched_under s k touches moment _)
kept_under s k touches (act.Set IfPresent text times) moment row = ap (λ r. Ok (text, r)) (touched_under s k touches moment _)
kept_under s k touches act.Lookup moment row = ap (λ r. Ok (row.text, r)) (touched_under s k touches moment _)
kept_under s k touches (act.Incr must_exist delta) moment row = sum_under s k touches moment row delta (number_of row.text)
kept_under s k touches (act.Append must_exist text) moment row = text_under s k touches moment row (value_limited (row.text ++ text))
kept_under s k touches act.Delete moment row = refl
kept_under s k touches (act.Tell Timeout remaining) moment row = refl
kept_under s k touches (act.Tell Lifetime remaining) moment row = refl
kept_under s k touches (act.Change span seconds) moment row = refl

abbrev pub state : ℕ → List TableRow → TableState
state limit rows = record { limit = limit; rows = rows }

module _ (limit : ℕ) (call : RowCall) (moment : ℕ) (es : Entries) where
  abbrev test : TableRow → Bool
  test = is_of call.subtable call.key

  abbrev name : TableRow → TableRow
  name row = named call.subtable call.key row

  -- what a call leaves where its row is there
  abbrev there : Result Kept TclFault → TableRow → Served
  there k row =
      placed limit test (Some (name row))
      (with_value (with_value k (λ k. Ok (record { reply = k.0; row = Some k.1 }))) (λ c. Ok (living moment c))) (rows_of es)

  there_served : (t : Timed TableRow) (k : Result Kept TclFault) → lookup (is_key call.subtable call.key) es ≡ Some t → is_delete call.act ≡ false
      → kept call.touches call.act moment t.0 ≡ k → row_served limit call moment (rows_of es) ≡ there (under call.subtable call.key k) t.0
  there_served t k l d e =
      let found = find_row call.subtable call.key es ∙ ap (option_map (λ t. name t.0)) l in
      ap (λ o. placed limit test o (came call moment o) (rows_of es)) found
      ∙ ap (λ b. placed limit test (Some (name t.0)) (with_value (cond b (Ok nothing)
      (with_value (kept call.touches call.act moment (name t.0)) (λ k. Ok (record { reply = k.0; row = Some k.1 })))) (λ c. Ok (living moment c))) (rows_of es)) d
      ∙ ap (λ k. there k t.0) (kept_under call.subtable call.key call.touches call.act moment t.0 ∙ ap (under call.subtable call.key) e)

  -- the row is put in its place, or is gone
  put : (row blank : TableRow) (o : Option ℕ) (live : Bool)
      → rows_of (put_kept call.subtable call.key (not live) row (set_value (is_key call.subtable call.key) es (blank, o)))
      ≡ with_row test (cond live (Some (name row)) None) (rows_of es)
  put row blank o true =
      ap rows_of (set_again (is_key call.subtable call.key) es (blank, o) (row, due row)) ∙ set_row call.subtable call.key es row (due row)
  put row blank o false =
      ap rows_of (set_removed (is_key call.subtable call.key) es (blank, o)) ∙ remove_row call.subtable call.key es

  -- the row is put back as it was
  back : (t : Timed TableRow) (after blank : TableRow) (o : Option ℕ) → Dues es → lookup (is_key call.subtable call.key) es ≡ Some t → after ≡ t.0
      → set_value (is_key call.subtable call.key) (set_value (is_key call.subtable call.key) es (blank, o)) (after, due after) ≡ es
  back t after blank o d l same =
      let key = is_key call.subtable call.key in
      let whole : ◌≡◌ {A = Timed TableRow} (after, due after) t = ap (λ r. (r, due r)) same ∙ ap (λ x. (t.0, x)) (sym (due_found key es t d l)) in
      set_again key es (blank, o) (after, due after) ∙ ap (set_value key es) whole ∙ set_value_same key es t l

  pub row_kept : (t : Timed TableRow) (blank : TableRow) (o : Option ℕ) (result : Result (List ℕ) Raise) (new : Entries) → Dues es
      → lookup (is_key call.subtable call.key) es ≡ Some t → is_delete call.act ≡ false
      → KeepsRow result call moment call.subtable call.key t.0 (set_value (is_key call.subtable call.key) es (blank, o)) new
      → Serves result (state limit (rows_of es)) (state limit (rows_of new)) (row_served limit call moment (rows_of es))
  row_kept t blank o (Ok text) new d l n k =
      let e = there_served t (Ok (text, k.after)) l n k.keeps in (
        ap (λ s. s.given) e,
        ap (state limit) (ap rows_of k.entries ∙ put k.after blank o (is_live moment k.after)) ∙ ap (λ s. state limit s.rows) (sym e),
      )
  row_kept t blank o (Err (Fault fault)) new d l n k =
      let e = there_served t (Err fault) l n k.keeps.0 in (
        ap (λ s. s.given) e,
        ap (λ xs. state limit (rows_of xs)) (k.entries ∙ back t k.after blank o d l k.keeps.1) ∙ ap (λ s. state limit s.rows) (sym e),
      )
  row_kept t blank o (Err Memory) new d l n k = ap (λ xs. state limit (rows_of xs)) (k.entries ∙ back t k.after blank o d l k.keeps)

  pub no_row : lookup (is_key call.subtable call.key) es ≡ None → row_served limit call moment (rows_of es) ≡ made_new limit call moment (rows_of es)
  no_row l =
      let found = find_row call.subtable call.key es ∙ ap (option_map (λ t. name t.0)) l in
      ap (λ o. placed limit test o (came call moment o) (rows_of es)) found

  absent_delete : (a : Act) → is_delete a ≡ true → absent call a moment ≡ Ok nothing
  absent_delete (act.Set making text times) e = cc
  absent_delete act.Lookup e = cc
  absent_delete (act.Incr must_exist delta) e = cc
  absent_delete (act.Append must_exist text) e = cc
  absent_delete act.Delete e = refl
  absent_delete (act.Tell span remaining) e = cc
  absent_delete (act.Change span seconds) e = cc

  gone : is_delete call.act ≡ true → (o : Option (Timed TableRow)) → lookup (is_key call.subtable call.key) es ≡ o
      → row_served limit call moment (rows_of es) ≡ gives [] (rows_of (remove_entry (is_key call.subtable call.key) es))
  gone d None l =
      no_row l
      ∙ ap (λ c. placed limit test None (with_value c (λ c. Ok (living moment c))) (rows_of es)) (absent_delete call.act d)
      ∙ ap (λ xs. gives [] (rows_of xs)) (sym (remove_absent (is_key call.subtable call.key) es l))
  gone d (Some t) l =
      let found = find_row call.subtable call.key es ∙ ap (option_map (λ t. name t.0)) l in
      ap (λ o. placed limit test o (came call moment o) (rows_of es)) found
      ∙ ap (λ b. placed limit test (Some (name t.0)) (with_value (cond b (Ok nothing)
      (with_value (kept call.touches call.act moment (name t.0)) (λ k. Ok (record { reply = k.0; row = Some k.1 })))) (λ c. Ok (living moment c))) (rows_of es)) d
      ∙ ap (gives []) (sym (remove_row call.subtable call.key es))

  pub row_deleted : is_delete call.act ≡ true
      → Serves (Ok []) (state limit (rows_of es)) (state limit (rows_of (remove_entry (is_key call.subtable call.key) es))) (row_served limit call moment (rows_of es))
  row_deleted d =
      let e = gone d (lookup (is_key call.subtable call.key) es) refl in
      (ap (λ s. s.given) e, ap (λ s. state limit s.rows) (sym e))

-- ---- a row that a call makes
live_some : (moment : ℕ) (o : Option TableRow) (row : TableRow) → if_live moment o ≡ Some row → o ≡ Some row
live_some moment None row e = cc
live_some moment (Some r) row e = by (is_live moment r) e
  where
    by : (b : Bool) → cond b (Some r) None ≡ Some row → Some r ≡ Some row
    by true f = f
    by false f = cc

-- a row has the names of the key that it came with
names_back : (q : Key) (row : TableRow) → (row.subtable ≡ q.0.items) × (row.key ≡ q.1.items) → named q.0.items q.1.items row ≡ row
names_back q row n = ap₂ (λ a b. named a b row) (sym n.0) (sym n.1)

pub add_served : (limit : ℕ) (q : Key) (reply : List ℕ) (row : TableRow) (o : Option TableRow) (moment : ℕ) (es new : Entries) → if_live moment o ≡ Some row
    → IfSome o (λ r. (r.subtable ≡ q.0.items) × (r.key ≡ q.1.items)) → lookup (is_key q.0.items q.1.items) es ≡ None → length es < limit
    → new ≡ insert_entry key_cmp es q (named [] [] row, due row)
    → Serves (Ok reply) (state limit (rows_of es)) (state limit (rows_of new)) (added limit reply (if_live moment o) (rows_of es))
add_served limit q reply row o moment es new f names none room is =
    let there = live_some moment o row f in
    let own = subst (λ x. IfSome x (λ r. (r.subtable ≡ q.0.items) × (r.key ≡ q.1.items))) there names in
    let fits : nat_lt (length (rows_of es)) limit ≡ true = (let l = length_rows es in grind (arith, nat_tests)) in
    let e : added limit reply (if_live moment o) (rows_of es) ≡ gives reply (with_new row (rows_of es)) =
    ap (λ x. added limit reply x (rows_of es)) f
    ∙ ap (λ b. cond b (gives reply (with_new row (rows_of es))) (fails table_full (rows_of es))) fits in
    let rows = ap rows_of is ∙ insert_row q (named [] [] row) (due row) es none ∙ ap (λ r. with_new r (rows_of es)) (names_back q row own) in
    (ap (λ s. s.given) e, ap (state limit) rows ∙ ap (λ s. state limit s.rows) (sym e))

pub came_names : (call : RowCall) (q : Key) (moment : ℕ) (c : Came) → absent call call.act moment ≡ Ok c
    → q.0.items ≡ call.subtable → q.1.items ≡ call.key → IfSome c.row (λ r. (r.subtable ≡ q.0.items) × (r.key ≡ q.1.items))
came_names call q moment c e s k = by c.row (subst (NamedCame call) e (absent_named call call.act moment))
  where
    by : (o : Option TableRow) → NamedRow call o → IfSome o (λ r. (r.subtable ≡ q.0.items) × (r.key ≡ q.1.items))
    by None n = tt
    by (Some r) n = (n.0 ∙ sym s, n.1 ∙ sym k)

pub made_served : (limit : ℕ) (call : RowCall) (moment : ℕ) (rows : List TableRow) (c : Came) → absent call call.act moment ≡ Ok c
    → added limit c.reply (if_live moment c.row) rows ≡ made_new limit call moment rows
made_served limit call moment rows c e =
    ap (λ a. placed limit (is_of call.subtable call.key) None (with_value a (λ c. Ok (living moment c))) rows) (sym e)

-- ---- a call by the key that is made of its names
value_some : (o : Option (Timed TableRow)) (row : TableRow) → Some row ≡ option_map (λ t. t.0) o → (t : Timed TableRow) × ((o ≡ Some t) × (t.0 ≡ row))
value_some None row e = cc
value_some (Some t) row e = (t, (refl, (let s : row ≡ t.0 = cc in sym s)))

pub value_none : (o : Option (Timed TableRow)) → None ≡ option_map (λ t. t.0) o → o ≡ None
value_none None e = refl
value_none (Some t) e = cc

pub dues_kept : (result : Result (List ℕ) Raise) (call : RowCall) (moment : ℕ) (s k : List ℕ) (row : TableRow) (mid new : Entries)
    → KeepsRow result call moment s k row mid new → Dues mid → Dues new
dues_kept result call moment s k row mid new r d = subst (λ es. Dues es) (sym r.entries) (by (goes result (is_live moment r.after)))
  where
    by : (b : Bool) → Dues (put_kept s k b r.after mid)
    by true = dues_remove (is_key s k) mid d
    by false = dues_set (is_key s k) mid r.after (due r.after) refl d

module _ (limit : ℕ) (call : RowCall) (moment : ℕ) (es : Entries) (s k : List ℕ) (e : s ≡ call.subtable) (f : k ≡ call.key) where
  same_look_up : lookup (is_key call.subtable call.key) es ≡ lookup (is_key s k) es
  same_look_up = ap₂ (λ a b. lookup (is_key a b) es) (sym e) (sym f)

  pub kept_served : (row blank : TableRow) (result : Result (List ℕ) Raise) (mid new : Entries) → Dues es
      → Some row ≡ option_map (λ t. t.0) (lookup (is_key s k) es) → is_delete call.act ≡ false
      → mid ≡ set_value (is_key s k) es (blank, None) → KeepsRow result call moment s k row mid new
      → Serves result (state limit (rows_of es)) (state limit (rows_of new)) (row_served limit call moment (rows_of es))
  kept_served row blank result mid new d v n m r =
      let t = value_some (lookup (is_key s k) es) row v in
      let g : Bool = goes result (is_live moment r.after) in
      row_kept limit call moment es t.0 blank None result new d (same_look_up ∙ t.1.0) n (record {
        after = r.after;
        keeps = subst (λ x. Keeps result x r.after (kept call.touches call.act moment x)) (sym t.1.1) r.keeps;
        entries = r.entries
            ∙ ap₂ (λ a b. put_kept a b g r.after mid) e f
            ∙ ap (put_kept call.subtable call.key g r.after) (m ∙ ap₂ (λ a b. set_value (is_key a b) es (blank, None)) e f);
      })

  pub deleted_served : (reply : List ℕ) (new : Entries) → reply ≡ [] → is_delete call.act ≡ true → new ≡ remove_entry (is_key s k) es
      → Serves (Ok reply) (state limit (rows_of es)) (state limit (rows_of new)) (row_served limit call moment (rows_of es))
  deleted_served reply new r d n =
      let all = row_deleted limit call moment es d in
      (all.0 ∙ ap Ok (sym r), ap (λ xs. state limit (rows_of xs)) (n ∙ ap₂ (λ a b. remove_entry (is_key a b) es) e f) ∙ all.1)

  pub none_served : lookup (is_key s k) es ≡ None → row_served limit call moment (rows_of es) ≡ made_new limit call moment (rows_of es)
  none_served l = no_row limit call moment es (same_look_up ∙ l)
