-- The names of procedures, as a set.
use Rattle.std.proofs.Common.{◌≡◌, ℕ, Bool, true, false, ◌||◌, cond, List, [], ◌∷◌, ◌++◌, map, refl, sym, ap, ◌∙◌}
use Rattle.std.specs.declared.cmp.Ordering.TheVariants.{Less, Equal, Greater}
use Rattle.std.specs.BTreeMap.{is_at}
use Rattle.std.specs.BTreeSet.{insert_key}
use Rattle.std.specs.Cmp.Lexicographic.{slice_cmp}
use Rattle.std.specs.List.{list_any}
use Rattle.std.specs.Ordering.{is_eq, match_ordering, nat_cmp}
use Rattle.std.specs.Str.{bytes_eq}
use Rattle.std.proofs.lemmas.List.Folds.{list_any-append}
use Rattle.std.proofs.lemmas.Map.Text.{is_eq-slice_cmp}
use Rattle.std.proofs.lemmas.Slice.Eq.{bytes_eq-Decides}
use Rattle.rule_loader.specs.Names.{AreNamesOf, has_name, is_procedure}
use Rattle.tcl_trees.specs.Procedures.{Procedure}

or_false : (b : Bool) → (b || false) ≡ b
or_false true = refl
or_false false = refl

or_same : (b c : Bool) → (b || c) ≡ ((b || c) || b)
or_same true c = refl
or_same false true = refl
or_same false false = refl

or_last : (a b c : Bool) → (a || (b || c)) ≡ ((b || c) || a)
or_last true true c = refl
or_last true false true = refl
or_last true false false = refl
or_last false true c = refl
or_last false false true = refl
or_last false false false = refl

or_assoc : (a b c : Bool) → (a || (b || c)) ≡ ((a || b) || c)
or_assoc true b c = refl
or_assoc false b c = refl

module _ {K : Type 0} (bytes : K → List ℕ) where
  -- as a set asks for a name, and as it is seen
  pub has_seen : (name : List ℕ) (ks : List K) → list_any (λ k. is_eq (slice_cmp nat_cmp name (bytes k))) ks ≡ has_name name (map bytes ks)
  has_seen name [] = refl
  has_seen name (k ∷ ks) = rw (is_eq-slice_cmp name (bytes k), has_seen name ks) refl

  -- what a set has with one more
  pub has_more : (key : K) (asked : List ℕ) (ks : List K)
      → has_name asked (map bytes (insert_key (λ m n. slice_cmp nat_cmp (bytes m) (bytes n)) ks key)) ≡ (has_name asked (map bytes ks) || bytes_eq asked (bytes key))
  has_more key asked [] = or_false (bytes_eq asked (bytes key))
  has_more key asked (k ∷ ks) =
      elim (slice_cmp nat_cmp (bytes key) (bytes k)) as (λ o. slice_cmp nat_cmp (bytes key) (bytes k) ≡ o
      → has_name asked (map bytes (match_ordering o (key ∷ k ∷ ks) (k ∷ ks) (k ∷ insert_key (λ m n. slice_cmp nat_cmp (bytes m) (bytes n)) ks key)))
      ≡ (has_name asked (map bytes (k ∷ ks)) || bytes_eq asked (bytes key))) [
        | Less ↦ λ h. or_last (bytes_eq asked (bytes key)) (bytes_eq asked (bytes k)) (has_name asked (map bytes ks))
        | Equal ↦ λ h. let same = (bytes_eq-Decides (bytes key) (bytes k)).0 (sym (is_eq-slice_cmp (bytes key) (bytes k)) ∙ ap is_eq h) in
            rw same (or_same (bytes_eq asked (bytes k)) (has_name asked (map bytes ks)))
        | Greater ↦ λ h. rw (has_more key asked ks) (or_assoc (bytes_eq asked (bytes k)) (has_name asked (map bytes ks)) (bytes_eq asked (bytes key)))
      ] refl

-- one procedure more
pub names_more : (ps qs : List Procedure) (p : Procedure) (names more : List (List ℕ)) → qs ≡ ps ++ p ∷ [] → AreNamesOf ps names
    → ((asked : List ℕ) → has_name asked more ≡ (has_name asked names || bytes_eq asked p.name)) → AreNamesOf qs more
names_more ps qs p names more is known added name =
    added name ∙ ap (λ b. b || bytes_eq name p.name) (known name)
    ∙ ap (λ b. is_procedure name ps || b) (sym (or_false (bytes_eq name p.name)))
    ∙ sym (list_any-append (λ q. bytes_eq name q.name) ps (p ∷ []))
    ∙ sym (ap (λ l. is_procedure name l) is)
