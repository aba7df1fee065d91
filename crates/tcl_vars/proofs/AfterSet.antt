-- What is read after a variable was set or taken away.
use Rattle.std.proofs.Common.{◌≡◌, ℕ, Bool, true, false, cond, List, [], ◌∷◌, Option, Some, None}
use Rattle.std.proofs.Common.{Ordering, drop, sym, refl, ap, subst, ◌∙◌, unwrap_or}
use Rattle.std.specs.declared.cmp.Ordering.TheVariants.{Less, Equal, Greater}
use Rattle.std.specs.Ordering.{nat_cmp, is_eq, match_ordering}
use Rattle.std.specs.Cmp.Lexicographic.{slice_cmp}
use Rattle.std.specs.List.{AllByRecursion}
use Rattle.std.specs.List.Sorted.{IsStrictlySortedBy}
use Rattle.std.specs.Map.{keys_of}
use Rattle.std.specs.Str.{bytes_eq}
use Rattle.std.proofs.lemmas.Bool.{cond-true, cond-false}
use Rattle.std.proofs.lemmas.Map.Text.{is_eq-slice_cmp}
use Rattle.std.proofs.lemmas.Slice.Eq.{bytes_eq-Decides}
use Rattle.tcl_vars.specs.Scopes.{Table, Level, Scopes, find_in, put_in, take_out, replace_in}
use Rattle.tcl_vars.specs.Scopes.{with_elements, elements, value_in, with_value_in}
use Rattle.tcl_vars.specs.Scopes.{without_value_in, innermost, with_innermost, is_static}
use Rattle.tcl_vars.specs.Scopes.{no_level, without_innermost}
use Rattle.tcl_vars.specs.Tables.{IsInOrder, IsInOrderAt}
use Rattle.tcl_vars.specs.Laws.{IsOther, SetIsRead, SetKeepsOthers, UnsetIsGone}
use Rattle.tcl_vars.specs.Laws.{UnsetKeepsOthers, OuterLevelsStay, CallsHaveTheirOwn}

-- ---- names
not_same : (m n : List ℕ) → (m ≡ n → ⊥) → bytes_eq m n ≡ false
not_same m n other =
    elim (bytes_eq m n) as (λ b. bytes_eq m n ≡ b → b ≡ false) [
      | true ↦ λ s. absurd (other ((bytes_eq-Decides m n).0 s))
      | false ↦ λ s. refl
    ] refl

self_same : (n : List ℕ) → bytes_eq n n ≡ true
self_same n = (bytes_eq-Decides n n).1 refl

by_order : (n m : List ℕ) (o : Ordering) → slice_cmp nat_cmp n m ≡ o → bytes_eq n m ≡ is_eq o
by_order n m o h = sym (is_eq-slice_cmp n m) ∙ ap is_eq h

-- a name that isn't n is none that is
apart : (m n k : List ℕ) → bytes_eq m n ≡ false → bytes_eq n k ≡ true → bytes_eq m k ≡ false
apart m n k other same = subst (λ x. bytes_eq m x ≡ false) ((bytes_eq-Decides n k).0 same) other

-- ---- tables
module _ {X : Type 0} (n : List ℕ) where
  find_put : (x : X) (t : Table X) → find_in n (put_in n x t) ≡ Some x
  find_put x [] = cond-true _ _ _ (self_same n)
  find_put x (e ∷ t) =
      elim (slice_cmp nat_cmp n e.0) as (λ o. slice_cmp nat_cmp n e.0 ≡ o → find_in n (match_ordering o ((n, x) ∷ e ∷ t) ((e.0, x) ∷ t) (e ∷ put_in n x t)) ≡ Some x) [
        | Less ↦ λ h. cond-true _ _ _ (self_same n)
        | Equal ↦ λ h. cond-true _ _ _ (by_order n e.0 Equal h)
        | Greater ↦ λ h. cond-false _ _ _ (by_order n e.0 Greater h) ∙ find_put x t
      ] refl

  find_put_other : (m : List ℕ) (x : X) → bytes_eq m n ≡ false → (t : Table X) → find_in m (put_in n x t) ≡ find_in m t
  find_put_other m x other [] = cond-false _ _ _ other
  find_put_other m x other (e ∷ t) =
      elim (slice_cmp nat_cmp n e.0) as (λ o. slice_cmp nat_cmp n e.0 ≡ o → find_in m (match_ordering o ((n, x) ∷ e ∷ t) ((e.0, x) ∷ t) (e ∷ put_in n x t)) ≡ find_in m (e ∷ t)) [
        | Less ↦ λ h. cond-false _ _ _ other
        | Equal ↦ λ h. let f = apart m n e.0 other (by_order n e.0 Equal h) in cond-false _ _ _ f ∙ sym (cond-false _ _ _ f)
        | Greater ↦ λ h. ap (cond (bytes_eq m e.0) (Some e.1)) (find_put_other m x other t)
      ] refl

  find_out_other : (m : List ℕ) → bytes_eq m n ≡ false → (t : Table X) → find_in m (take_out n t) ≡ find_in m t
  find_out_other m other [] = refl
  find_out_other m other (e ∷ t) =
      elim (bytes_eq n e.0) as (λ b. bytes_eq n e.0 ≡ b → find_in m (cond b t (e ∷ take_out n t)) ≡ find_in m (e ∷ t)) [
        | true ↦ λ s. sym (cond-false _ _ _ (apart m n e.0 other s))
        | false ↦ λ s. ap (cond (bytes_eq m e.0) (Some e.1)) (find_out_other m other t)
      ] refl

  none_above : (t : Table X) → AllByRecursion (λ y. slice_cmp nat_cmp n y ≡ Less) (keys_of t) → find_in n t ≡ None
  none_above [] above = refl
  none_above (e ∷ t) above = cond-false _ _ _ (by_order n e.0 Less above.0) ∙ none_above t above.1

  find_out : (t : Table X) → IsInOrder t → find_in n (take_out n t) ≡ None
  unfolding IsStrictlySortedBy
  find_out [] sorted = refl
  find_out (e ∷ t) sorted =
      elim (bytes_eq n e.0) as (λ b. bytes_eq n e.0 ≡ b → find_in n (cond b t (e ∷ take_out n t)) ≡ None) [
        | true ↦ λ s. none_above t (subst (λ k. AllByRecursion (λ y. slice_cmp nat_cmp k y ≡ Less) (keys_of t)) (sym ((bytes_eq-Decides n e.0).0 s)) sorted.0)
        | false ↦ λ s. cond-false _ _ _ s ∙ find_out t sorted.1
      ] refl

  find_replaced : (w v : X) (t : Table X) → find_in n t ≡ Some v → find_in n (replace_in n w t) ≡ Some w
  find_replaced w v [] found = cc
  find_replaced w v (e ∷ t) found =
      elim (bytes_eq n e.0) as (λ b. bytes_eq n e.0 ≡ b → cond b (Some e.1) (find_in n t) ≡ Some v → find_in n (cond b ((e.0, w) ∷ t) (e ∷ replace_in n w t)) ≡ Some w) [
        | true ↦ λ s h. cond-true _ _ _ s
        | false ↦ λ s h. cond-false _ _ _ s ∙ find_replaced w v t h
      ] refl found

  find_replaced_other : (m : List ℕ) (w : X) → bytes_eq m n ≡ false → (t : Table X) → find_in m (replace_in n w t) ≡ find_in m t
  find_replaced_other m w other [] = refl
  find_replaced_other m w other (e ∷ t) =
      elim (bytes_eq n e.0) as (λ b. bytes_eq n e.0 ≡ b → find_in m (cond b ((e.0, w) ∷ t) (e ∷ replace_in n w t)) ≡ find_in m (e ∷ t)) [
        | true ↦ λ s. let f = apart m n e.0 other s in cond-false _ _ _ f ∙ sym (cond-false _ _ _ f)
        | false ↦ λ s. ap (cond (bytes_eq m e.0) (Some e.1)) (find_replaced_other m w other t)
      ] refl

-- ---- arrays with other elements of a name
module _ {X : Type 0} (n : List ℕ) (arrays : Table (Table X)) where
  other_elements : (m : List ℕ) (r : Table X) → bytes_eq m n ≡ false → find_in m (with_elements n r arrays) ≡ find_in m arrays
  other_elements m [] other = find_out_other n m other arrays
  other_elements m (x ∷ r) other = find_replaced_other n m (x ∷ r) other arrays

  left_of : (es r : Table X) → IsInOrder arrays → find_in n arrays ≡ Some es → unwrap_or (find_in n (with_elements n r arrays)) [] ≡ r
  left_of es [] sorted found = ap (λ o. unwrap_or o []) (find_out n arrays sorted)
  left_of es (x ∷ r) sorted found = ap (λ o. unwrap_or o []) (find_replaced n (x ∷ r) es arrays found)

  elements_left : (i : List ℕ) → IsInOrder arrays
      → unwrap_or (find_in n (with_elements n (take_out i (unwrap_or (find_in n arrays) [])) arrays)) [] ≡ take_out i (unwrap_or (find_in n arrays) [])
  elements_left i sorted =
      elim (find_in n arrays) as (λ o. find_in n arrays ≡ o → unwrap_or (find_in n (with_elements n (take_out i (unwrap_or o [])) arrays)) [] ≡ take_out i (unwrap_or o [])) [
        | None ↦ λ h. ap (λ o. unwrap_or o []) (find_out n arrays sorted)
        | Some es ↦ λ h. left_of es (take_out i es) sorted h
      ] refl

-- ---- a level
set_read : (level : Level) (n : List ℕ) (i : Option (List ℕ)) (text : List ℕ) → value_in (with_value_in n i text level) n i ≡ Some text
set_read level n None text = find_put n text level.plain
set_read level n (Some i) text =
    ap (λ o. find_in i (unwrap_or o [])) (find_put n (put_in i text (elements n level)) level.arrays) ∙ find_put i text (elements n level)

-- an element at another index of the name, or at an index of another name
by_name : (m n : List ℕ) (P : List ℕ → Type 0) → (m ≡ n → P n) → (bytes_eq m n ≡ false → P m) → P m
by_name m n P same other =
    elim (bytes_eq m n) as (λ b. bytes_eq m n ≡ b → P m) [
      | true ↦ λ s. let e = (bytes_eq-Decides m n).0 s in subst P (sym e) (same e)
      | false ↦ λ s. other s
    ] refl

set_others : (level : Level) (n : List ℕ) (i : Option (List ℕ)) (text m : List ℕ) (j : Option (List ℕ)) → IsOther n i m j
    → value_in (with_value_in n i text level) m j ≡ value_in level m j
set_others level n None text m None other = find_put_other n m text (not_same m n (λ e. other (sym e, refl))) level.plain
set_others level n None text m (Some j) other = refl
set_others level n (Some i) text m None other = refl
set_others level n (Some i) text m (Some j) other =
    by_name m n (λ k. value_in (with_value_in n (Some i) text level) k (Some j) ≡ value_in level k (Some j))
    (λ e. ap (λ o. find_in j (unwrap_or o [])) (find_put n (put_in i text (elements n level)) level.arrays)
    ∙ find_put_other i j text (not_same j i (λ f. other (sym e, ap Some (sym f)))) (elements n level))
    (λ s. ap (λ o. find_in j (unwrap_or o [])) (find_put_other n m (put_in i text (elements n level)) s level.arrays))

unset_gone : (level : Level) (n : List ℕ) (i : Option (List ℕ)) → IsInOrderAt level n i → value_in (without_value_in n i level) n i ≡ None
unset_gone level n None sorted = find_out n level.plain sorted
unset_gone level n (Some i) sorted =
    ap (λ t. find_in i t) (elements_left n level.arrays i sorted.0) ∙ find_out i (elements n level) sorted.1

unset_others : (level : Level) (n : List ℕ) (i : Option (List ℕ)) (m : List ℕ) (j : Option (List ℕ)) → IsInOrderAt level n i → IsOther n i m j
    → value_in (without_value_in n i level) m j ≡ value_in level m j
unset_others level n None m None sorted other = find_out_other n m (not_same m n (λ e. other (sym e, refl))) level.plain
unset_others level n None m (Some j) sorted other = refl
unset_others level n (Some i) m None sorted other = refl
unset_others level n (Some i) m (Some j) sorted other =
    by_name m n (λ k. value_in (without_value_in n (Some i) level) k (Some j) ≡ value_in level k (Some j))
    (λ e. ap (λ t. find_in j t) (elements_left n level.arrays i sorted.0)
    ∙ find_out_other i j (not_same j i (λ f. other (sym e, ap Some (sym f)))) (elements n level))
    (λ s. ap (λ o. find_in j (unwrap_or o [])) (other_elements n level.arrays m (take_out i (elements n level)) s))

-- ---- all variables
innermost_is : (level : Level) (levels : List Level) → innermost (with_innermost level levels) ≡ level
innermost_is level [] = refl
innermost_is level (old ∷ levels) = refl

outer_stay : (level : Level) (levels : List Level) → drop 1 (with_innermost level levels) ≡ drop 1 levels
outer_stay level [] = refl
outer_stay level (old ∷ levels) = refl

-- what is read of variables one level of which was changed, where the name read stands or doesn't
-- stand in that level
abbrev changed_by : Bool → (Level → Level) → Scopes → Scopes
changed_by static f vars =
    cond static (record vars { statics = f vars.statics })
    (record vars { levels = with_innermost (f (innermost vars.levels)) vars.levels })

abbrev read_in : Bool → Scopes → List ℕ → Option (List ℕ) → Option (List ℕ)
read_in static vars m j = cond static (value_in vars.statics m j) (value_in (innermost vars.levels) m j)

abbrev level_in : Bool → Scopes → Level
level_in static vars = cond static vars.statics (innermost vars.levels)

in_its_level : (b : Bool) (f : Level → Level) (vars : Scopes) (m : List ℕ) (j : Option (List ℕ)) (v : Option (List ℕ))
    → value_in (f (level_in b vars)) m j ≡ v → read_in b (changed_by b f vars) m j ≡ v
in_its_level true f vars m j v h = h
in_its_level false f vars m j v h = ap (λ l. value_in l m j) (innermost_is (f (innermost vars.levels)) vars.levels) ∙ h

in_a_level : (b c : Bool) (f : Level → Level) (vars : Scopes) (m : List ℕ) (j : Option (List ℕ))
    → value_in (f (level_in b vars)) m j ≡ value_in (level_in b vars) m j → read_in c (changed_by b f vars) m j ≡ read_in c vars m j
in_a_level true true f vars m j h = h
in_a_level true false f vars m j h = refl
in_a_level false true f vars m j h = refl
in_a_level false false f vars m j h = ap (λ l. value_in l m j) (innermost_is (f (innermost vars.levels)) vars.levels) ∙ h

outer_kept : (b : Bool) (f : Level → Level) (vars : Scopes) → drop 1 (changed_by b f vars).levels ≡ drop 1 vars.levels
outer_kept true f vars = refl
outer_kept false f vars = outer_stay (f (innermost vars.levels)) vars.levels

pub set_is_read : SetIsRead
set_is_read vars name index text = in_its_level (is_static name) (with_value_in name index text) vars name index (Some text) (set_read _ name index text)

pub set_keeps_others : SetKeepsOthers
set_keeps_others vars name index text other at apart =
    in_a_level (is_static name) (is_static other) (with_value_in name index text) vars other at (set_others _ name index text other at apart)

pub unset_is_gone : UnsetIsGone
unset_is_gone vars name index sorted = in_its_level (is_static name) (without_value_in name index) vars name index None (unset_gone _ name index sorted)

pub unset_keeps_others : UnsetKeepsOthers
unset_keeps_others vars name index other at sorted apart =
    in_a_level (is_static name) (is_static other) (without_value_in name index) vars other at (unset_others _ name index other at sorted apart)

pub outer_levels_stay : OuterLevelsStay
outer_levels_stay vars name index text =
    (outer_kept (is_static name) (with_value_in name index text) vars, outer_kept (is_static name) (without_value_in name index) vars)

nothing_there : (name : List ℕ) (index : Option (List ℕ)) → value_in no_level name index ≡ None
nothing_there name None = refl
nothing_there name (Some index) = refl

pub calls_have_their_own : CallsHaveTheirOwn
calls_have_their_own vars name index level outer has own = (
  cond-false _ _ _ own ∙ nothing_there name index,
  ap (λ levels. record vars { levels = without_innermost (no_level ∷ levels) }) has
      ∙ ap (λ levels. record vars { levels = levels }) (sym has),
)
