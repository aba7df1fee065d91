-- The keys of a subtable, and rows without it.
use Rattle.std.proofs.Common.{arith, ◌≤◌}
use Rattle.std.proofs.Common.{◌≡◌, ℕ, suc, Bool, true, false, not, cond, List, [], ◌∷◌, map, filter, length, refl, sym, ap, ◌∙◌}
use Rattle.std.specs.List.{AllByRecursion}
use Rattle.std.specs.Map.{keys_of, remove_entry}
use Rattle.std.specs.Str.{bytes_eq}
use Rattle.session_table.specs.Stored.{Dues, Entries, Key, Names, is_key, named, names_of, names_under, removed, rows_of}
use Rattle.session_table.specs.Tables.{is_in}
use Rattle.session_table.specs.declared.row.TableRow.{TableRow}
use Rattle.timed_rows.specs.Rows.{Timed}
use Rattle.session_table.proofs.UnderKeys.{dues_remove, key_itself, key_names}

module _ (s : List ℕ) where
  abbrev pub under : Key → Bool
  under k = bytes_eq s k.0.items

  pub keys_under_rows : (es : Entries) → map (λ row. row.key) (filter (is_in s) (rows_of es)) ≡ map (λ k. k.1.items) (filter under (keys_of es))
  keys_under_rows [] = refl
  keys_under_rows (e ∷ es) = by (under e.0) (keys_under_rows es)
    where
      by : (b : Bool) → map (λ row. row.key) (filter (is_in s) (rows_of es)) ≡ map (λ k. k.1.items) (filter under (keys_of es))
          → map (λ row. row.key) (cond b (named e.0.0.items e.0.1.items e.1.0 ∷ filter (is_in s) (rows_of es)) (filter (is_in s) (rows_of es)))
          ≡ map (λ k. k.1.items) (cond b (e.0 ∷ filter under (keys_of es)) (filter under (keys_of es)))
      by true r = ap (λ xs. e.0.1.items ∷ xs) r
      by false r = r

  pub count_under_rows : (es : Entries) → length (filter (is_in s) (rows_of es)) ≡ length (filter under (keys_of es))
  count_under_rows [] = refl
  count_under_rows (e ∷ es) = by (under e.0) (count_under_rows es)
    where
      by : (b : Bool) → length (filter (is_in s) (rows_of es)) ≡ length (filter under (keys_of es))
          → length (cond b (named e.0.0.items e.0.1.items e.1.0 ∷ filter (is_in s) (rows_of es)) (filter (is_in s) (rows_of es)))
          ≡ length (cond b (e.0 ∷ filter under (keys_of es)) (filter under (keys_of es)))
      by true r = ap suc r
      by false r = r

  pub count_bounded : (es : Entries) → length (filter under (keys_of es)) ≤ length es
  count_bounded [] = omega arith
  count_bounded (e ∷ es) = by (under e.0) (count_bounded es)
    where
      by : (b : Bool) → length (filter under (keys_of es)) ≤ length es → length (cond b (e.0 ∷ filter under (keys_of es)) (filter under (keys_of es))) ≤ suc (length es)
      by true r = omega (arith, r)
      by false r = omega (arith, r)

  all_under : (ks : List Key) → AllByRecursion (λ n. bytes_eq s n.0 ≡ true) (names_under s ks)
  all_under [] = tt
  all_under (k ∷ ks) = by (under k) refl (all_under ks)
    where
      by : (b : Bool) → under k ≡ b → AllByRecursion (λ n. bytes_eq s n.0 ≡ true) (names_under s ks)
          → AllByRecursion (λ n. bytes_eq s n.0 ≡ true) (map names_of (cond b (k ∷ filter under ks) (filter under ks)))
      by true e r = (e, r)
      by false e r = r

  -- a row of another subtable stays
  passed : (ns : List Names) (e : Key × Timed TableRow) (es : Entries) → AllByRecursion (λ n. bytes_eq s n.0 ≡ true) ns → under e.0 ≡ false
      → removed ns (e ∷ es) ≡ e ∷ removed ns es
  passed [] e es a h = refl
  passed (n ∷ ns) e es a h = by (is_key n.0 n.1 e.0) refl (λ xs. passed ns e xs a.1 h)
    where
      by : (b : Bool) → is_key n.0 n.1 e.0 ≡ b → ((xs : Entries) → removed ns (e ∷ xs) ≡ e ∷ removed ns xs)
          → removed ns (cond b es (e ∷ remove_entry (is_key n.0 n.1) es)) ≡ e ∷ removed ns (remove_entry (is_key n.0 n.1) es)
      by true q r =
          let same = (key_names n.0 n.1 e.0 q).0 in
          let yes : bytes_eq s e.0.0.items ≡ true = ap (bytes_eq s) (sym same) ∙ a.0 in
          absurd (let no = sym yes ∙ h in cc)
      by false q r = r (remove_entry (is_key n.0 n.1) es)

  pub rows_removed : (es : Entries) → rows_of (removed (names_under s (keys_of es)) es) ≡ filter (λ row. not (is_in s row)) (rows_of es)
  rows_removed [] = refl
  rows_removed (e ∷ es) = by (under e.0) refl (rows_removed es)
    where
      by : (b : Bool) → under e.0 ≡ b → rows_of (removed (names_under s (keys_of es)) es) ≡ filter (λ row. not (is_in s row)) (rows_of es)
          → rows_of (removed (map names_of (cond b (e.0 ∷ filter under (keys_of es)) (filter under (keys_of es)))) (e ∷ es))
          ≡ cond (not b) (named e.0.0.items e.0.1.items e.1.0 ∷ filter (λ row. not (is_in s row)) (rows_of es)) (filter (λ row. not (is_in s row)) (rows_of es))
      by true q r =
          let t = key_itself e.0.0.items e.0.1.items e.0 refl refl in
          ap (λ b. rows_of (removed (names_under s (keys_of es)) (cond b es (e ∷ remove_entry (is_key e.0.0.items e.0.1.items) es)))) t ∙ r
      by false q r =
          ap rows_of (passed (names_under s (keys_of es)) e es (all_under (keys_of es)) q)
          ∙ ap (λ xs. named e.0.0.items e.0.1.items e.1.0 ∷ xs) r

pub dues_removed : (ns : List Names) (es : Entries) → Dues es → Dues (removed ns es)
dues_removed [] es d = d
dues_removed (n ∷ ns) es d = dues_removed ns (remove_entry (is_key n.0 n.1) es) (dues_remove (is_key n.0 n.1) es d)
