-- What taking a name out, or giving it another value, leaves of a table, and of a sum over it.
use Rattle.std.proofs.Common.{◌≡◌, ℕ, ◌+◌, cond, true, false, List, [], ◌∷◌, Option, Some, None}
use Rattle.std.proofs.Common.{sym, refl, ap, ◌∙◌, arith, unwrap_or}
use Rattle.std.specs.Prelude.{sum_by}
use Rattle.std.specs.Option.{option_map_or}
use Rattle.std.specs.Map.{remove_entry, set_value}
use Rattle.std.specs.Str.{bytes_eq}
use Rattle.std.proofs.lemmas.List.Sums.{sum_by-cons}
use Rattle.std.proofs.lemmas.Map.Text.{is_eq-slice_cmp}
use Rattle.std.proofs.lemmas.Slice.Eq.{bytes_eq-Decides}
use Rattle.tcl_vars.specs.Scopes.{Table, find_in, take_out, replace_in, with_elements}
use Rattle.tcl_vars.proofs.Named.{named, is_named}

-- ---- entries whose keys are read as names
module _ {K X : Type 0} (name : K → List ℕ) (q : List ℕ) where
  pub take_out-named : (es : List (K × X)) → named name (remove_entry (is_named name q) es) ≡ take_out q (named name es)
  take_out-named [] = refl
  take_out-named (e ∷ es) = rw (is_eq-slice_cmp q (name e.0))
      (elim (bytes_eq q (name e.0)) as (λ b. named name (cond b es (e ∷ remove_entry (is_named name q) es)) ≡ cond b (named name es) ((name e.0, e.1) ∷ take_out q (named name es))) [
        | true ↦ refl
        | false ↦ ap (λ fs. (name e.0, e.1) ∷ fs) (take_out-named es)
      ])

  pub replace_in-named : (es : List (K × X)) (w : X) → named name (set_value (is_named name q) es w) ≡ replace_in q w (named name es)
  replace_in-named [] w = refl
  replace_in-named (e ∷ es) w = rw (is_eq-slice_cmp q (name e.0))
      (elim (bytes_eq q (name e.0)) as (λ b. named name (cond b ((e.0, w) ∷ es) (e ∷ set_value (is_named name q) es w)) ≡ cond b ((name e.0, w) ∷ named name es) ((name e.0, e.1) ∷ replace_in q w (named name es))) [
        | true ↦ refl
        | false ↦ ap (λ fs. (name e.0, e.1) ∷ fs) (replace_in-named es w)
      ])

pub sum_by-named : {K X : Type 0} (name : K → List ℕ) (f : List ℕ × X → ℕ) (es : List (K × X)) → sum_by (λ e. f (name e.0, e.1)) es ≡ sum_by f (named name es)
sum_by-named name f [] = refl
sum_by-named {K} {X} name f (e ∷ es) =
    omega (arith, sum_by-cons (λ (e : K × X). f (name e.0, e.1)) e es, sum_by-cons f (name e.0, e.1) (named name es), sum_by-named name f es)

-- ---- tables
module _ {X : Type 0} (name : List ℕ) where
  pub take_out-none : (t : Table X) → find_in name t ≡ None → take_out name t ≡ t
  take_out-none [] none = refl
  take_out-none (e ∷ t) none =
      elim (bytes_eq name e.0) as (λ b. cond b (Some e.1) (find_in name t) ≡ None → cond b t (e ∷ take_out name t) ≡ e ∷ t) [
        | true ↦ λ h. cc
        | false ↦ λ h. ap (λ u. e ∷ u) (take_out-none t h)
      ] none

  pub take_out-replaced : (t : Table X) (w : X) → take_out name (replace_in name w t) ≡ take_out name t
  take_out-replaced [] w = refl
  take_out-replaced (e ∷ t) w =
      elim (bytes_eq name e.0) as (λ b. bytes_eq name e.0 ≡ b → take_out name (cond b ((e.0, w) ∷ t) (e ∷ replace_in name w t)) ≡ cond b t (e ∷ take_out name t)) [
        | true ↦ λ same. rw same
        | false ↦ λ other. rw other (ap (λ u. e ∷ u) (take_out-replaced t w))
      ] refl

  pub sum_by-take_out : (f : List ℕ × X → ℕ) (t : Table X)
      → sum_by f (take_out name t) + option_map_or (λ v. f (name, v)) (find_in name t) 0 ≡ sum_by f t
  sum_by-take_out f [] = omega arith
  sum_by-take_out f (e ∷ t) =
      let P : Table X → Option X → Type 0 = λ u o. sum_by f u + option_map_or (λ v. f (name, v)) o 0 ≡ sum_by f (e ∷ t) in
      elim (bytes_eq name e.0) as (λ b. bytes_eq name e.0 ≡ b → P (cond b t (e ∷ take_out name t)) (cond b (Some e.1) (find_in name t))) [
        | true ↦ λ same. omega (arith, sum_by-cons f e t, ap (λ k. f (k, e.1)) ((bytes_eq-Decides name e.0).0 same))
        | false ↦ λ other. omega (arith, sum_by-cons f e t, sum_by-cons f e (take_out name t), sum_by-take_out f t)
      ] refl

  pub sum_by-replace_in : (f : List ℕ × X → ℕ) (t : Table X) (v w : X) → find_in name t ≡ Some v
      → sum_by f (replace_in name w t) + f (name, v) ≡ sum_by f t + f (name, w)
  sum_by-replace_in f [] v w found = cc
  sum_by-replace_in f (e ∷ t) v w found =
      elim (bytes_eq name e.0) as (λ b. bytes_eq name e.0 ≡ b → cond b (Some e.1) (find_in name t) ≡ Some v
      → sum_by f (cond b ((e.0, w) ∷ t) (e ∷ replace_in name w t)) + f (name, v) ≡ sum_by f (e ∷ t) + f (name, w)) [
        | true ↦ λ same h.
            let k = (bytes_eq-Decides name e.0).0 same in
            let value : v ≡ e.1 = cc in
            omega (arith, sum_by-cons f e t, sum_by-cons f (e.0, w) t, ap (λ x. f (x, w)) k, ap (λ x. f (x, v)) k, ap (λ x. f (e.0, x)) value)
        | false ↦ λ other h. omega (arith, sum_by-cons f e t, sum_by-cons f e (replace_in name w t), sum_by-replace_in f t v w h)
      ] refl found

-- elements that are some stay
pub with_elements-some : {X : Type 0} (name : List ℕ) (es : Table X) (arrays : Table (Table X)) → (es ≡ [] → ⊥) → with_elements name es arrays ≡ replace_in name es arrays
with_elements-some name [] arrays some = absurd (some refl)
with_elements-some name (e ∷ es) arrays some = refl

-- ---- an element goes, and its array with the last one: es are the elements before, r those after
module _ {X : Type 0} (arrays : Table (Table X)) (name index : List ℕ) where
  pub without_no_array : find_in name arrays ≡ None → arrays ≡ with_elements name (take_out index (unwrap_or (find_in name arrays) [])) arrays
  without_no_array none = rw none (sym (take_out-none name arrays none))

  pub without_last_element : (es r : Table X) → find_in name arrays ≡ Some es → r ≡ take_out index es → r ≡ []
      → take_out name arrays ≡ with_elements name (take_out index (unwrap_or (find_in name arrays) [])) arrays
  without_last_element es r found left empty = rw found (ap (λ u. with_elements name u arrays) (sym empty ∙ left))

  pub without_one_element : (es r : Table X) → find_in name arrays ≡ Some es → r ≡ take_out index es → (r ≡ [] → ⊥)
      → replace_in name r arrays ≡ with_elements name (take_out index (unwrap_or (find_in name arrays) [])) arrays
  without_one_element es r found left some = rw found (sym (with_elements-some name r arrays some) ∙ ap (λ u. with_elements name u arrays) left)
