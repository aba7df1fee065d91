-- What stands at a place of a table.
use Rattle.std.proofs.Common.{◌≡◌, ℕ, ◌+◌, ◌<◌, List, [], ◌∷◌, ◌++◌, length, get_or, drop, Bool, true, false, cond, Option, Some, None}
use Rattle.std.proofs.Common.{refl, sym, ap, ◌∙◌, subst, append_assoc, arith}
use Rattle.std.specs.Cmp.Lexicographic.{slice_cmp}
use Rattle.std.specs.List.Sorted.{IsStrictlySortedBy}
use Rattle.std.specs.Map.{keys_of}
use Rattle.std.specs.Ordering.{nat_cmp}
use Rattle.std.proofs.lemmas.Cmp.{nat_list_cmp_total, eq_by_cmp_equiv}
use Rattle.std.proofs.lemmas.List.{drop_more, get_or-map, length-map}
use Rattle.std.proofs.lemmas.Map.Entries.{lookup_from_place}
use Rattle.std.proofs.lemmas.Map.Keys.{IsDistinct-from_sorted}
use Rattle.std.proofs.lemmas.Option.{slice_get-get_or}
use Rattle.tcl_vars.specs.Indexes.{indexes_at, indexes_in}
use Rattle.tcl_vars.specs.Scopes.{Level, Scopes, Table, elements, find_in, innermost, is_static, value_at, value_in}
use Rattle.tcl_var_commands.specs.Array.{pairs_of}
use Rattle.tcl_var_commands.specs.Reading.{level_read}
use Rattle.tcl_vars.proofs.Named.{lookup-at}

-- an entry by its place, and by its name
found_at : (table : Table (List ℕ)) (i : ℕ) (index : List ℕ) → IsStrictlySortedBy (slice_cmp nat_cmp) (keys_of table) → i < length table → index ≡ get_or (keys_of table) i index
    → (value : List ℕ) × (find_in index table ≡ Some value) × (drop i table ≡ (index, value) ∷ drop (i + 1) table)
found_at table i index sorted inside is =
    let entry = get_or table i (index, []) in
    let named : index ≡ entry.0 = is ∙ get_or-map (λ (e : List ℕ × List ℕ). e.0) table i (index, []) index inside in
    let found = lookup_from_place (eq_by_cmp_equiv nat_list_cmp_total) table i entry.0 entry.1 (IsDistinct-from_sorted (slice_cmp nat_cmp) (keys_of table) sorted) (slice_get-get_or table i (index, []) inside) in
    (entry.1, (ap (λ q. find_in q table) named ∙ sym (lookup-at entry.0 table) ∙ found), (drop_more table i (index, []) inside ∙ ap (λ q. (q, entry.1) ∷ drop (i + 1) table) (sym named)))

-- the elements that a name is read with
abbrev pub elements_of : Scopes → List ℕ → Table (List ℕ)
elements_of vars name = elements name (level_read None vars name)

read_by : (static : Bool) (name : List ℕ) (index : List ℕ) (x y : Level)
    → (cond static (indexes_in x name) (indexes_in y name) ≡ keys_of (elements name (cond static x y)))
    × (cond static (value_in x name (Some index)) (value_in y name (Some index)) ≡ find_in index (elements name (cond static x y)))
read_by true name index x y = (refl, refl)
read_by false name index x y = (refl, refl)

-- ---- a pair more: the index that a loop reads, and what is found at it
module _ (vars : Scopes) (name : List ℕ) (names slice : List (List ℕ)) (i : ℕ) (index bytes : List ℕ)
    (are : names ≡ indexes_at vars name) (sorted : IsStrictlySortedBy (slice_cmp nat_cmp) names) (same : slice ≡ names)
    (inside : i < length slice) (is : index ≡ get_or slice i index) (read : bytes ≡ index) where
  there : (value : List ℕ) × (find_in index (elements_of vars name) ≡ Some value) × (drop i (elements_of vars name) ≡ (index, value) ∷ drop (i + 1) (elements_of vars name))
  there =
      let keys = same ∙ are ∙ (read_by (is_static name) name index vars.statics (innermost vars.levels)).0 in
      let within : i < length (elements_of vars name) = omega (arith, ap length keys, length-map (elements_of vars name) (λ (e : List ℕ × List ℕ). e.0)) in
      found_at (elements_of vars name) i index (subst (IsStrictlySortedBy (slice_cmp nat_cmp)) (sym same ∙ keys) sorted) within (is ∙ ap (λ ks. get_or ks i index) keys)

  found_there : (value : Option (List ℕ)) → value ≡ value_at vars name (Some bytes) → value ≡ Some there.0
  found_there value got = got ∙ ap (λ b. value_at vars name (Some b)) read ∙ (read_by (is_static name) name index vars.statics (innermost vars.levels)).1 ∙ there.1

  pub no_gap : None ≡ value_at vars name (Some bytes) → ⊥
  no_gap got = let no = found_there None got in cc

  pub pair_more : (before pushed after : List (List ℕ)) (copy value told : List ℕ) → before ++ pairs_of (drop i (elements_of vars name)) ≡ pairs_of (elements_of vars name)
      → copy ≡ index → pushed ≡ before ++ copy ∷ [] → Some value ≡ value_at vars name (Some bytes) → told ≡ value → after ≡ pushed ++ told ∷ []
      → after ++ pairs_of (drop (i + 1) (elements_of vars name)) ≡ pairs_of (elements_of vars name)
  pair_more before pushed after copy value told so_far copied first got kept second =
      let same_value : value ≡ there.0 = let e = found_there (Some value) got in cc in
      rw (second, first, copied, kept, same_value, append_assoc, append_assoc) (rw there.2 at so_far)
