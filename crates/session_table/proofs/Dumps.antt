-- Rows one after another, by their keys.
use Rattle.std.proofs.Common.{◌≡◌, ◌∙◌, ℕ, Bool, true, false, List, [], ◌∷◌, ◌++◌, Option, Some, None, ap, ap₂, refl, sym, option_map, map}
use Rattle.std.specs.Prelude.{flat_map}
use Rattle.std.specs.Cmp.Lexicographic.{slice_cmp}
use Rattle.std.specs.List.{AllByRecursion}
use Rattle.std.specs.List.Sorted.{IsStrictlySortedBy}
use Rattle.std.specs.Map.{keys_of, lookup}
use Rattle.std.specs.Ordering.{is_eq, nat_cmp}
use Rattle.std.specs.declared.cmp.Ordering.{Ordering}
use Rattle.std.specs.declared.cmp.Ordering.TheVariants.{Less}
use Rattle.std.proofs.lemmas.Bool.{false≢true}
use Rattle.std.proofs.lemmas.List.{append-nil, append_assoc}
use Rattle.timed_rows.specs.Rows.{Timed}
use Rattle.session_table.specs.Dump.{dump_text, row_cmp, row_line}
use Rattle.session_table.specs.Stored.{Entries, Key, is_key, key_cmp, named, rows_of}
use Rattle.session_table.specs.declared.row.TableRow.{TableRow}
use Rattle.session_table.proofs.UnderKeys.{key_itself, key_names}

-- each is found under its key
abbrev pub Found : Entries → Entries → Type 0
Found es rest = AllByRecursion (λ e. lookup (is_key e.0.0.items e.0.1.items) es ≡ Some e.1) rest

not_before : (x y : Key) → key_cmp x y ≡ Less → is_key y.0.items y.1.items x ≡ false
not_before x y less = by (is_key y.0.items y.1.items x) refl
  where
    by : (b : Bool) → is_key y.0.items y.1.items x ≡ b → is_key y.0.items y.1.items x ≡ false
    by false is = is
    by true is =
        let names = key_names y.0.items y.1.items x is in
        let same : is_key x.0.items x.1.items y ≡ true = key_itself x.0.items x.1.items y (sym names.0) (sym names.1) in
        absurd (false≢true (sym (ap is_eq less) ∙ same))

later_found : (e : Key × Timed TableRow) (es rest : Entries) → AllByRecursion (λ k. key_cmp e.0 k ≡ Less) (keys_of rest)
    → Found es rest → Found (e ∷ es) rest
later_found e es [] less found = found
later_found e es (x ∷ rest) less found =
    let apart = not_before e.0 x.0 less.0 in
    (rw apart found.0, later_found e es rest less.1 found.1)

pub all_found : (es : Entries) → IsStrictlySortedBy key_cmp (keys_of es) → Found es es
unfolding IsStrictlySortedBy
all_found [] s = _
all_found (e ∷ es) s =
    let itself = key_itself e.0.0.items e.0.1.items e.0 refl refl in
    (rw itself refl, later_found e es es s.0 (all_found es s.1))

rows_before : (e : Key × Timed TableRow) (es : Entries) → AllByRecursion (λ k. key_cmp e.0 k ≡ Less) (keys_of es)
    → AllByRecursion (λ row. row_cmp (named e.0.0.items e.0.1.items e.1.0) row ≡ Less) (rows_of es)
rows_before e [] less = _
rows_before e (x ∷ es) less = (less.0, rows_before e es less.1)

pub rows_sorted : (es : Entries) → IsStrictlySortedBy key_cmp (keys_of es) → IsStrictlySortedBy row_cmp (rows_of es)
unfolding IsStrictlySortedBy
rows_sorted [] s = _
rows_sorted (e ∷ es) s = (rows_before e es s.0, rows_sorted es s.1)

-- what was written, and the rows whose keys are left
pub record Dumped (es : Entries) (done : List ℕ) (ks : List Key) : Type 0 where
  pub rest : Entries
  pub keys : keys_of rest ≡ ks
  pub found : Found es rest
  pub text : done ++ dump_text (rows_of rest) ≡ dump_text (rows_of es)

pub begins : (es : Entries) (done : List ℕ) (ks : List Key) → IsStrictlySortedBy key_cmp (keys_of es) → done ≡ [] → ks ≡ keys_of es
    → Dumped es done ks
begins es done ks s none all = record {
  rest = es;
  keys = sym all;
  found = all_found es s;
  text = ap (λ d. d ++ dump_text (rows_of es)) none;
}

abbrev row_at : Entries → Key → Option TableRow
row_at es k = option_map (λ t. t.0) (lookup (is_key k.0.items k.1.items) es)

-- one more is written
pub goes_on : (es : Entries) (done new : List ℕ) (k : Key) (left ks : List Key) (row : TableRow) → Dumped es done left
    → left ≡ k ∷ ks → row_at es k ≡ Some row → new ≡ done ++ row_line (named k.0.items k.1.items row) → Dumped es new ks
goes_on es done new k left ks row d steps at is = by d.rest (d.keys ∙ steps) d.found d.text
  where
    by : (rest : Entries) → keys_of rest ≡ k ∷ ks → Found es rest → done ++ dump_text (rows_of rest) ≡ dump_text (rows_of es)
        → Dumped es new ks
    by [] keys found text = absurd (let h = keys in cc)
    by (e ∷ rest) keys found text =
        let first : e.0 ≡ k = let h = keys in cc in
        let behind : keys_of rest ≡ ks = let h = keys in cc in
        let there : Some e.1.0 ≡ Some row =
        sym (ap (option_map (λ t. t.0)) found.0) ∙ ap (row_at es) first ∙ at in
        let same : e.1.0 ≡ row = let h = there in cc in
        let lines : new ≡ done ++ row_line (named e.0.0.items e.0.1.items e.1.0) =
        is ∙ sym (ap₂ (λ (q : Key) r. done ++ row_line (named q.0.items q.1.items r)) first same) in
        record {
          rest = rest;
          keys = behind;
          found = found.1;
          text = ap (λ l. l ++ dump_text (rows_of rest)) lines ∙ append_assoc done _ _ ∙ text;
        }

-- a key that is left has a row
pub none_lost : (es : Entries) (done : List ℕ) (k : Key) (left ks : List Key) → Dumped es done left → left ≡ k ∷ ks
    → row_at es k ≡ None → ⊥
none_lost es done k left ks d steps at = by d.rest (d.keys ∙ steps) d.found
  where
    by : (rest : Entries) → keys_of rest ≡ k ∷ ks → Found es rest → ⊥
    by [] keys found = let h = keys in cc
    by (e ∷ rest) keys found =
        let first : e.0 ≡ k = let h = keys in cc in
        let there : Some e.1.0 ≡ None = sym (ap (option_map (λ t. t.0)) found.0) ∙ ap (row_at es) first ∙ at in
        let h = there in cc

-- no key is left
pub whole : (es : Entries) (done : List ℕ) (ks : List Key) → Dumped es done ks → ks ≡ [] → done ≡ dump_text (rows_of es)
whole es done ks d none = by d.rest d.keys d.text
  where
    by : (rest : Entries) → keys_of rest ≡ ks → done ++ dump_text (rows_of rest) ≡ dump_text (rows_of es)
        → done ≡ dump_text (rows_of es)
    by [] keys text = sym (append-nil done) ∙ text
    by (e ∷ rest) keys text = absurd (let h = keys ∙ none in cc)
