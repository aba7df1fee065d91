-- What is found in a tree after a key was added to it.
use Rattle.std.proofs.Common.{◌≡◌, ℕ, Bool, true, false, cond, List, [], ◌∷◌, Option, Some, None}
use Rattle.std.proofs.Common.{map, sym, refl, ap, ◌∙◌}
use Rattle.std.specs.declared.cmp.Ordering.TheVariants.{Less, Equal, Greater}
use Rattle.std.specs.BTreeMap.{insert_entry}
use Rattle.std.specs.Cmp.Lexicographic.{slice_cmp}
use Rattle.std.specs.Map.{lookup}
use Rattle.std.specs.Option.{option_or}
use Rattle.std.specs.Ordering.{nat_cmp, is_eq, match_ordering}
use Rattle.std.specs.Str.{bytes_eq}
use Rattle.std.proofs.lemmas.Map.Text.{is_eq-slice_cmp}
use Rattle.std.proofs.lemmas.Slice.Eq.{bytes_eq-Decides}

or_none : {X : Type 0} (o : Option X) → o ≡ option_or o None
or_none None = refl
or_none (Some x) = refl

-- one that wasn't found before stands first
first_here : {X : Type 0} (b : Bool) (x : X) (o : Option X) → (b ≡ true → o ≡ None) → cond b (Some x) o ≡ option_or o (cond b (Some x) None)
first_here true x o none = ap (λ p. option_or p (Some x)) (sym (none refl))
first_here false x o none = or_none o

-- one that stands before the rest is found first
first_there : {X : Type 0} (b : Bool) (x : X) (o p r : Option X) → o ≡ option_or p r → cond b (Some x) o ≡ option_or (cond b (Some x) p) r
first_there true x o p r e = refl
first_there false x o p r e = e

-- whether a key has these bytes, as a tree asks it
abbrev pub has_bytes : {K : Type 0} → (K → List ℕ) → List ℕ → K → Bool
has_bytes bytes q k = is_eq (slice_cmp nat_cmp q (bytes k))

-- the keys with their places, as they are seen
abbrev pub seen : {K X : Type 0} → (K → List ℕ) → List (K × X) → List (List ℕ × X)
seen bytes es = map (λ e. (bytes e.0, e.1)) es

module _ {K X : Type 0} (bytes : K → List ℕ) where
  pub found_after : (k : K) (x : X) (q : List ℕ) (es : List (K × X)) → lookup (has_bytes bytes (bytes k)) es ≡ None
      → lookup (has_bytes bytes q) (insert_entry (λ m n. slice_cmp nat_cmp (bytes m) (bytes n)) es k x)
      ≡ option_or (lookup (has_bytes bytes q) es) (cond (bytes_eq q (bytes k)) (Some x) None)
  found_after k x q [] none = rw (is_eq-slice_cmp q (bytes k)) refl
  found_after k x q (e ∷ es) none =
      elim (slice_cmp nat_cmp (bytes k) (bytes e.0)) as (λ o. slice_cmp nat_cmp (bytes k) (bytes e.0) ≡ o
      → lookup (has_bytes bytes q) (match_ordering o ((k, x) ∷ e ∷ es) ((e.0, x) ∷ es) (e ∷ insert_entry (λ m n. slice_cmp nat_cmp (bytes m) (bytes n)) es k x))
      ≡ option_or (lookup (has_bytes bytes q) (e ∷ es)) (cond (bytes_eq q (bytes k)) (Some x) None)) [
        | Less ↦ λ h. rw (is_eq-slice_cmp q (bytes k)) (first_here (bytes_eq q (bytes k)) x (lookup (has_bytes bytes q) (e ∷ es))
            (λ same. ap (λ n. lookup (has_bytes bytes n) (e ∷ es)) ((bytes_eq-Decides q (bytes k)).0 same) ∙ none))
        | Equal ↦ λ h. let there = rw h at none in cc
        | Greater ↦ λ h. let behind : lookup (has_bytes bytes (bytes k)) es ≡ None = rw h at none in
            first_there (has_bytes bytes q e.0) e.1 _ _ _ (found_after k x q es behind)
      ] refl

  -- ---- as they are seen
  pub found_seen : (q : List ℕ) (es : List (K × X)) → lookup (has_bytes bytes q) es ≡ lookup (bytes_eq q) (seen bytes es)
  found_seen q [] = refl
  found_seen q (e ∷ es) = rw (is_eq-slice_cmp q (bytes e.0), found_seen q es) refl

  -- after a key was added that wasn't there
  pub seen_after : (k : K) (x : X) (q : List ℕ) (es : List (K × X)) → lookup (bytes_eq (bytes k)) (seen bytes es) ≡ None
      → lookup (bytes_eq q) (seen bytes (insert_entry (λ m n. slice_cmp nat_cmp (bytes m) (bytes n)) es k x))
      ≡ option_or (lookup (bytes_eq q) (seen bytes es)) (cond (bytes_eq q (bytes k)) (Some x) None)
  seen_after k x q es none =
      sym (found_seen q _) ∙ found_after k x q es (found_seen (bytes k) es ∙ none)
      ∙ ap (λ o. option_or o (cond (bytes_eq q (bytes k)) (Some x) None)) (found_seen q es)
