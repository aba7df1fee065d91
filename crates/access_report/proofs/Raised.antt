-- What is found in a tree after a value was put at a key.
use Rattle.std.proofs.Common.{◌≡◌, ℕ, Bool, true, false, cond, List, [], ◌∷◌, Option, Some, None, IsSome, unwrap_or, map, sym, refl, ap, ◌∙◌, zero-add}
use Rattle.std.specs.declared.cmp.Ordering.TheVariants.{Less, Equal, Greater}
use Rattle.std.specs.BTreeMap.{insert_entry}
use Rattle.std.specs.Cmp.Lexicographic.{slice_cmp}
use Rattle.std.specs.List.{AllByRecursion}
use Rattle.std.specs.List.Sorted.{IsStrictlySortedBy}
use Rattle.std.specs.Map.{lookup, set_value}
use Rattle.std.specs.Ordering.{nat_cmp, is_eq, match_ordering}
use Rattle.std.specs.Str.{bytes_eq}
use Rattle.std.proofs.lemmas.Map.Text.{is_eq-slice_cmp}
use Rattle.std.proofs.lemmas.Slice.Eq.{bytes_eq-Decides}
use Rattle.access_report.specs.Raising.{Row, raised}
use Rattle.access_report.specs.Sums.{none, plus}
use Rattle.access_report.specs.declared.counts.ServerCounts.{ServerCounts}

-- an equal key takes the value
taken : {X : Type 0} (a b : Bool) (x y : X) (o : Option X) → a ≡ b → cond a (Some x) o ≡ cond b (Some x) (cond a (Some y) o)
taken true true x y o e = refl
taken false false x y o e = refl
taken true false x y o e = cc
taken false true x y o e = cc

-- a key behind another one
passed : {X : Type 0} (a b : Bool) (x y : X) (o : Option X) → (a ≡ true → b ≡ true → ⊥) → cond b (Some y) (cond a (Some x) o) ≡ cond a (Some x) (cond b (Some y) o)
passed true true x y o apart = absurd (apart refl refl)
passed true false x y o apart = refl
passed false b x y o apart = refl

-- whether a key has these bytes, as a tree asks it
abbrev pub has_bytes : {K : Type 0} → (K → List ℕ) → List ℕ → K → Bool
has_bytes bytes q k = is_eq (slice_cmp nat_cmp q (bytes k))

-- the keys with their values, as they are seen
abbrev pub seen : {K X : Type 0} → (K → List ℕ) → List (K × X) → List (List ℕ × X)
seen bytes es = map (λ e. (bytes e.0, e.1)) es

module _ {K X : Type 0} (bytes : K → List ℕ) where
  found_after : (k : K) (x : X) (q : List ℕ) (es : List (K × X))
      → lookup (has_bytes bytes q) (insert_entry (λ m n. slice_cmp nat_cmp (bytes m) (bytes n)) es k x)
      ≡ cond (bytes_eq q (bytes k)) (Some x) (lookup (has_bytes bytes q) es)
  found_after k x q [] = rw (is_eq-slice_cmp q (bytes k)) refl
  found_after k x q (e ∷ es) =
      elim (slice_cmp nat_cmp (bytes k) (bytes e.0)) as (λ o. slice_cmp nat_cmp (bytes k) (bytes e.0) ≡ o
      → lookup (has_bytes bytes q) (match_ordering o ((k, x) ∷ e ∷ es) ((e.0, x) ∷ es) (e ∷ insert_entry (λ m n. slice_cmp nat_cmp (bytes m) (bytes n)) es k x))
      ≡ cond (bytes_eq q (bytes k)) (Some x) (lookup (has_bytes bytes q) (e ∷ es))) [
        | Less ↦ λ h. rw (is_eq-slice_cmp q (bytes k)) refl
        | Equal ↦ λ h.
            let same : bytes k ≡ bytes e.0 = (bytes_eq-Decides (bytes k) (bytes e.0)).0 (sym (is_eq-slice_cmp (bytes k) (bytes e.0)) ∙ ap is_eq h) in
            taken (has_bytes bytes q e.0) (bytes_eq q (bytes k)) x e.1 (lookup (has_bytes bytes q) es) (is_eq-slice_cmp q (bytes e.0) ∙ ap (bytes_eq q) (sym same))
        | Greater ↦ λ h.
            let apart : has_bytes bytes q e.0 ≡ true → bytes_eq q (bytes k) ≡ true → ⊥ = λ here there.
            let first : q ≡ bytes e.0 = (bytes_eq-Decides q (bytes e.0)).0 (sym (is_eq-slice_cmp q (bytes e.0)) ∙ here) in
            let second : q ≡ bytes k = (bytes_eq-Decides q (bytes k)).0 there in
            let equal : is_eq (slice_cmp nat_cmp (bytes k) (bytes e.0)) ≡ true = is_eq-slice_cmp (bytes k) (bytes e.0) ∙ (bytes_eq-Decides (bytes k) (bytes e.0)).1 (sym second ∙ first) in
            let never : false ≡ true = sym (ap is_eq h) ∙ equal in
            cc in
            ap (λ o. cond (has_bytes bytes q e.0) (Some e.1) o) (found_after k x q es)
            ∙ sym (passed (has_bytes bytes q e.0) (bytes_eq q (bytes k)) e.1 x (lookup (has_bytes bytes q) es) apart)
      ] refl

  pub found_seen : (q : List ℕ) (es : List (K × X)) → lookup (has_bytes bytes q) es ≡ lookup (bytes_eq q) (seen bytes es)
  found_seen q [] = refl
  found_seen q (e ∷ es) = rw (is_eq-slice_cmp q (bytes e.0), found_seen q es) refl

  -- as they are seen
  pub seen_after : (k : K) (x : X) (q : List ℕ) (es : List (K × X))
      → lookup (bytes_eq q) (seen bytes (insert_entry (λ m n. slice_cmp nat_cmp (bytes m) (bytes n)) es k x))
      ≡ cond (bytes_eq q (bytes k)) (Some x) (lookup (bytes_eq q) (seen bytes es))
  seen_after k x q es =
      sym (found_seen q _) ∙ found_after k x q es ∙ ap (λ o. cond (bytes_eq q (bytes k)) (Some x) o) (found_seen q es)

  -- where a key was found, another value written there
  pub seen_written : (name asked : List ℕ) (x : X) (es : List (K × X)) → IsSome (lookup (has_bytes bytes name) es)
      → lookup (bytes_eq asked) (seen bytes (set_value (has_bytes bytes name) es x))
      ≡ cond (bytes_eq asked name) (Some x) (lookup (bytes_eq asked) (seen bytes es))
  seen_written name asked x [] there = cc
  seen_written name asked x (e ∷ es) there = by_key (has_bytes bytes name e.0) refl (λ behind. seen_written name asked x es behind) there
    where
      by_key : (b : Bool) → has_bytes bytes name e.0 ≡ b
          → (IsSome (lookup (has_bytes bytes name) es) → lookup (bytes_eq asked) (seen bytes (set_value (has_bytes bytes name) es x)) ≡ cond (bytes_eq asked name) (Some x) (lookup (bytes_eq asked) (seen bytes es)))
          → IsSome (cond b (Some e.1) (lookup (has_bytes bytes name) es))
          → lookup (bytes_eq asked) (seen bytes (cond b ((e.0, x) ∷ es) (e ∷ set_value (has_bytes bytes name) es x)))
          ≡ cond (bytes_eq asked name) (Some x) (cond (bytes_eq asked (bytes e.0)) (Some e.1) (lookup (bytes_eq asked) (seen bytes es)))
      by_key true h more here =
          let same : name ≡ bytes e.0 = (bytes_eq-Decides name (bytes e.0)).0 (sym (is_eq-slice_cmp name (bytes e.0)) ∙ h) in
          taken (bytes_eq asked (bytes e.0)) (bytes_eq asked name) x e.1 (lookup (bytes_eq asked) (seen bytes es)) (ap (bytes_eq asked) (sym same))
      by_key false h more there =
          let apart : bytes_eq asked (bytes e.0) ≡ true → bytes_eq asked name ≡ true → ⊥ = λ here both.
          let first : asked ≡ bytes e.0 = (bytes_eq-Decides asked (bytes e.0)).0 here in
          let second : asked ≡ name = (bytes_eq-Decides asked name).0 both in
          let equal : has_bytes bytes name e.0 ≡ true = is_eq-slice_cmp name (bytes e.0) ∙ (bytes_eq-Decides name (bytes e.0)).1 (sym second ∙ first) in
          let never : false ≡ true = sym h ∙ equal in
          cc in
          ap (λ o. cond (bytes_eq asked (bytes e.0)) (Some e.1) o) (more there)
          ∙ sym (passed (bytes_eq asked (bytes e.0)) (bytes_eq asked name) e.1 x (lookup (bytes_eq asked) (seen bytes es)) apart)

-- ---- a name that was raised

-- it has a value, and the sum is written there
pub raised_there : (rows : List Row) (name asked : List ℕ) (had counts more : ServerCounts) → lookup (bytes_eq name) rows ≡ Some had → counts ≡ plus had more
    → cond (bytes_eq asked name) (Some counts) (lookup (bytes_eq asked) rows) ≡ raised rows name more asked
raised_there rows name asked had counts more there sum =
    ap (λ x. cond (bytes_eq asked name) (Some x) (lookup (bytes_eq asked) rows)) (sum ∙ ap (λ o. plus (unwrap_or o none) more) (sym there))

plus_none : (more : ServerCounts) → plus none more ≡ more
plus_none more = rw (zero-add more.conns, zero-add more.bytes, zero-add more.calls, zero-add more.early) refl

-- it has none, and comes with the counts
pub raised_fresh : (rows : List Row) (name asked : List ℕ) (more : ServerCounts) → lookup (bytes_eq name) rows ≡ None
    → cond (bytes_eq asked name) (Some more) (lookup (bytes_eq asked) rows) ≡ raised rows name more asked
raised_fresh rows name asked more gone =
    ap (λ x. cond (bytes_eq asked name) (Some x) (lookup (bytes_eq asked) rows)) (sym (plus_none more) ∙ ap (λ o. plus (unwrap_or o none) more) (sym gone))

-- ---- sorted as they are seen

all_less : {K X : Type 0} (bytes : K → List ℕ) (k : K) (es : List (K × X)) → AllByRecursion (λ m. slice_cmp nat_cmp (bytes k) (bytes m) ≡ Less) (map (λ e. e.0) es) → AllByRecursion (λ m. slice_cmp nat_cmp (bytes k) m ≡ Less) (map (λ row. row.0) (seen bytes es))
all_less bytes k [] h = tt
all_less bytes k (e ∷ es) h = (h.0, all_less bytes k es h.1)

pub sorted_seen : {K X : Type 0} (bytes : K → List ℕ) (es : List (K × X)) → IsStrictlySortedBy (λ m n. slice_cmp nat_cmp (bytes m) (bytes n)) (map (λ e. e.0) es) → IsStrictlySortedBy (slice_cmp nat_cmp) (map (λ row. row.0) (seen bytes es))
unfolding IsStrictlySortedBy
sorted_seen bytes [] h = tt
sorted_seen bytes (e ∷ es) h = (all_less bytes e.0 es h.0, sorted_seen bytes es h.1)
