-- What expressions that have their end at once come to.
use Rattle.std.proofs.Common.{◌≡◌, refl, ap, ◌∙◌, ℕ, zero, suc, ◌+◌, ◌≤◌, List, [], ◌∷◌, ◌++◌, length, Bool, true, false, ◌&&◌}
use Rattle.std.proofs.Common.{Option, Some, None, Result, Ok, Err, nat_le, arith, add-zero, add_assoc}
use Rattle.std.proofs.lemmas.Bool.Decides.{nat_tests}
use Rattle.px_bytes.specs.declared.fault.TclFault.{TclFault}
use Rattle.tcl_expr.specs.declared.expr.Joint.{Joint}
use Rattle.tcl_trees.specs.Tree.{Tree, Operands}
use Rattle.tcl_trees.specs.Tree as tree
use Rattle.rule_model.specs.Children.{alone, child, one}
use Rattle.rule_model.specs.Evaluator.{eval, joints}
use Rattle.rule_model.specs.Expressions.{by_value, decided, decided_by, joined_value, joint_value, operands}
use Rattle.rule_model.specs.Outcome.{State, Outcome, Ends, Meaning, paid, then_value}
use Rattle.rule_model.specs.declared.code.Code.{Code}
use Rattle.rule_model.specs.declared.code.Code.TheVariants.{Value, Raised, Return, Break, Continue}
use Rattle.rule_model.specs.Setting.{Setting, Inner}
use Rattle.frames.specs.Children.{child_at}
use Rattle.frames.specs.Counted.{Counted, counted_after}
use Rattle.frames.specs.Leafs.{leaf_code}
use Rattle.frames.specs.Owed.{is_flat}
use Rattle.frame_loops.specs.Quick.{all_flat, brief_code, brief_told, is_brief, quick, quick_or, quick_row, rowed_code}
use Rattle.frames.specs.Reads.{Known, known}
use Rattle.frame_loops.specs.Rows.{joined_to, joins_to, listed, most_operators, on_joined, right_by, right_joined, row_from, row_of, unless_decided}
use Rattle.frame_loops.specs.declared.rows.Joined.{Joined}
use Rattle.frame_loops.specs.declared.rows.Joined.TheVariants as joined
use Rattle.frame_loops.specs.declared.rows.Rowed.{Rowed}
use Rattle.frame_loops.proofs.InRows.{joint_once, joints_listed, joints_on}
use Rattle.frames.proofs.LeafViews.{leaf_eval}

-- what both tests say
both_true : (a b : Bool) → (a && b) ≡ true → (a ≡ true) × (b ≡ true)
both_true true b e = (refl, e)
both_true false b e = absurd (cc e)

record Brief (first : Tree) (all : List (Joint × Tree)) : Type 0 where
  flat : is_flat first ≡ true
  short : length all ≤ most_operators
  flats : all_flat all ≡ true

brief_is : (first : Tree) (all : List (Joint × Tree)) → is_brief first all ≡ true → Brief first all
brief_is first [] e = absurd (cc e)
brief_is first (o ∷ os) e =
    let a = both_true (is_flat first) _ e in
    let b = both_true (nat_le (length (o ∷ os)) most_operators) _ a.1 in
    let t = b.0 in
    record { flat = a.0; short = grind (arith, nat_tests); flats = b.1 }

module _ {H : Type 0} where
  paid_both : (a b : ℕ) (st : State H) → paid b (paid a st) ≡ paid (a + b) st
  paid_both a b st = rw (add_assoc st.cost a b) refl

  paid_none : (st : State H) → paid 0 st ≡ st
  paid_none st = rw (add-zero st.cost) refl

  -- what one operator leads to
  abbrev joined_end : (List ℕ → Meaning H) → Joined → Meaning H
  joined_end go (joined.Goes v) path st = go v path st
  joined_end go (joined.Ends r) path st = Ends (rowed_code r) st

  value_end : (go : List ℕ → Meaning H) (path : List ℕ) (st : State H) (x : Result (List ℕ) TclFault)
      → by_value x (λ v s. go v path s) st ≡ joined_end go (joins_to x) path st
  value_end go path st (Ok v) = refl
  value_end go path st (Err f) = refl

  code_end : (go : List ℕ → Meaning H) (joint : Joint) (left path : List ℕ) (st : State H) (code : Code)
      → then_value (Ends code st) (joined_value go joint left path)
      ≡ joined_end go (right_by joint left code).value path (paid (right_by joint left code).cost st)
  code_end go joint left path st (Value right) =
      rw (paid_none st) (value_end go path st (joint_value joint left right))
  code_end go joint left path st (Raised f) = rw (paid_none st) refl
  code_end go joint left path st (Return v) = rw (paid_none st) refl
  code_end go joint left path st Break = rw (paid_none st) refl
  code_end go joint left path st Continue = rw (paid_none st) refl

  module _ (g : Setting H) (i : Inner H) where
    -- one operator with its right operand, which has this number
    abbrev operator : (List ℕ → Meaning H) → ℕ → Joint → Tree → List ℕ → Meaning H
    operator go at joint t left path st =
        then_value (child one at t (eval g i t) path st) (joined_value go joint left path)

    right_end : (go : List ℕ → Meaning H) (at : ℕ) (joint : Joint) (t : Tree) (left path : List ℕ) (st : State H) → is_flat t ≡ true
        → operator go at joint t left path st
        ≡ joined_end go (right_joined (known g.statics st.vars) at joint t left).value path
        (paid (1 + (right_joined (known g.statics st.vars) at joint t left).cost) st)
    right_end go at joint t left path st e =
        let code = leaf_code g.statics st.vars t in
        let c = right_by joint left code in
        ap (λ o. then_value o (joined_value go joint left path)) (leaf_eval g i t (path ++ at ∷ []) (paid 1 st) e)
        ∙ code_end go joint left path (paid 1 st) code
        ∙ rw (e, paid_both 1 c.cost st) refl

    decided_end : (go : List ℕ → Meaning H) (at : ℕ) (joint : Joint) (t : Tree) (left path : List ℕ) (st : State H) (x : Result (Option (List ℕ)) TclFault)
        → is_flat t ≡ true → decided x (λ s. operator go at joint t left path s) (paid 1 st)
        ≡ joined_end go (counted_after 1 0 (unless_decided x (counted_after 1 0 (right_joined (known g.statics st.vars) at joint t left)))).value path
        (paid (counted_after 1 0 (unless_decided x (counted_after 1 0 (right_joined (known g.statics st.vars) at joint t left)))).cost st)
    decided_end go at joint t left path st (Ok None) e =
        right_end go at joint t left path (paid 1 st) e
        ∙ ap (λ s. joined_end go (right_joined (known g.statics st.vars) at joint t left).value path s)
        (paid_both 1 (1 + (right_joined (known g.statics st.vars) at joint t left).cost) st)
    decided_end go at joint t left path st (Ok (Some v)) e = refl
    decided_end go at joint t left path st (Err f) e = refl

    joint_end : (go : List ℕ → Meaning H) (at : ℕ) (joint : Joint) (t : Tree) (left path : List ℕ) (st : State H) → is_flat t ≡ true
        → decided (decided_by joint left) (λ s. operator go at joint t left path s) (paid 1 st)
        ≡ joined_end go (joined_to (known g.statics st.vars) at joint t left).value path
        (paid (joined_to (known g.statics st.vars) at joint t left).cost st)
    joint_end go at joint t left path st e = decided_end go at joint t left path st (decided_by joint left) e

    -- what a counted row comes to
    abbrev row_end : Counted Rowed → State H → Outcome H
    row_end c st = Ends (rowed_code c.value) (paid c.cost st)

    on_end : (go : List ℕ → Meaning H) (next : List ℕ → Counted Rowed) (path : List ℕ) (st : State H) (j : Joined)
        → ((v : List ℕ) → go v path st ≡ row_end (next v) st)
        → joined_end go j path st ≡ row_end (on_joined j next) st
    on_end go next path st (joined.Goes v) h = h v
    on_end go next path st (joined.Ends r) h = rw (paid_none st) refl

    row_ends : (n at : ℕ) (os : List (Joint × Tree)) (left path : List ℕ) (st : State H) → all_flat os ≡ true → length os ≤ n
        → operands (joints_on g i (at + 1) os) left path st ≡ row_end (row_from (known g.statics st.vars) n at os left) st
    row_ends n at [] left path st e l = rw (paid_none st) refl
    row_ends zero at (o ∷ os) left path st e l = absurd (omega (arith, l))
    row_ends (suc n) at (o ∷ os) left path st e l =
        let b = both_true (is_flat o.1) (all_flat os) e in
        let k = known g.statics st.vars in
        let c = joined_to k (at + 1) o.0 o.1 left in
        let go = operands (joints_on g i (at + 1 + 1) os) in
        let m : length os ≤ n = omega (arith, l) in
        joint_end go (at + 1) o.0 o.1 left path st b.0
        ∙ on_end go (row_from k n (at + 1) os) path (paid c.cost st) c.value (λ v. row_ends n (at + 1) os v path (paid c.cost st) b.1 m)
        ∙ ap (λ s. Ends (rowed_code (on_joined c.value (row_from k n (at + 1) os)).value) s)
        (paid_both c.cost (on_joined c.value (row_from k n (at + 1) os)).cost st)

    told_ends : (us : Operands) (path : List ℕ) (st : State H) (code : Code) → all_flat (listed us) ≡ true → length (listed us) ≤ most_operators
        → then_value (Ends code st) (λ v t. operands (joints g i 1 us) v path t)
        ≡ Ends (brief_told (known g.statics st.vars) (listed us) code).value (paid (brief_told (known g.statics st.vars) (listed us) code).cost st)
    told_ends us path st (Value v) e l = rw (joints_listed g i 1 us) (row_ends most_operators 0 (listed us) v path st e l)
    told_ends us path st (Raised f) e l = rw (paid_none st) refl
    told_ends us path st (Return v) e l = rw (paid_none st) refl
    told_ends us path st Break e l = rw (paid_none st) refl
    told_ends us path st Continue e l = rw (paid_none st) refl

    brief_ends : (u : Tree) (us : Operands) (path : List ℕ) (st : State H) → Brief u (listed us)
        → eval g i (tree.row u us) path st
        ≡ Ends (brief_code (known g.statics st.vars) u (listed us)).value (paid (brief_code (known g.statics st.vars) u (listed us)).cost st)
    brief_ends u us path st b =
        let k = known g.statics st.vars in
        let code = leaf_code g.statics st.vars u in
        ap (λ o. then_value o (λ v t. operands (joints g i 1 us) v path t)) (leaf_eval g i u (path ++ 0 ∷ []) (paid 1 st) b.flat)
        ∙ told_ends us path (paid 1 st) code b.flats b.short
        ∙ ap (λ s. Ends (brief_told k (listed us) code).value s) (paid_both 1 (brief_told k (listed us) code).cost st)

    row_quick : (u : Tree) (us : Operands) (path : List ℕ) (st : State H) (b : Bool) → is_brief u (listed us) ≡ b
        → eval g i (tree.row u us) path st
        ≡ quick_or (quick_row (known g.statics st.vars) u (listed us)).value
        (quick_row (known g.statics st.vars) u (listed us)).cost (eval g i (tree.row u us)) path st
    row_quick u us path st true e = rw e (brief_ends u us path st (brief_is u (listed us) e))
    row_quick u us path st false e = rw e refl

    others_quick : (t : Tree) (path : List ℕ) (st : State H)
        → eval g i t path st
        ≡ quick_or (quick_row (known g.statics st.vars) (child_at t 0) (row_of t)).value
        (quick_row (known g.statics st.vars) (child_at t 0) (row_of t)).cost (eval g i t) path st
    others_quick (tree.row u us) path st = row_quick u us path st (is_brief u (listed us)) refl
    others_quick other path st = refl

    quick_by : (t : Tree) (path : List ℕ) (st : State H) (b : Bool)
        → is_flat t ≡ b →
        eval g i t path st ≡ quick_or (quick (known g.statics st.vars) t).value
        (quick (known g.statics st.vars) t).cost (eval g i t) path st
    quick_by t path st true e = rw (e, add-zero) (leaf_eval g i t path st e)
    quick_by t path st false e = rw e (others_quick t path st)

  pub quick_is : (g : Setting H) (i : Inner H) (t : Tree) (path : List ℕ) (st : State H) →
      eval g i t path st ≡ quick_or (quick (known g.statics st.vars) t).value
      (quick (known g.statics st.vars) t).cost (eval g i t) path st
  quick_is g i t path st = quick_by g i t path st (is_flat t) refl

-- where there is no code nothing is paid, and there is something to do
row_free : (k : Known) (first : Tree) (all : List (Joint × Tree)) (b : Bool) → is_brief first all ≡ b
    → (quick_row k first all).value ≡ None → (quick_row k first all).cost ≡ 0
row_free k first all true e h = absurd (cc (rw e at h))
row_free k first all false e h = rw e refl

free_by : (k : Known) (t : Tree) (b : Bool) → is_flat t ≡ b → (quick k t).value ≡ None → (quick k t).cost ≡ 0
free_by k t true e h = rw e refl
free_by k t false e h = rw e (row_free k (child_at t 0) (row_of t) (is_brief (child_at t 0) (row_of t)) refl (rw e at h))

pub quick_free : (k : Known) (t : Tree) → (quick k t).value ≡ None → (quick k t).cost ≡ 0
quick_free k t h = free_by k t (is_flat t) refl h

heavy_by : (k : Known) (t : Tree) (b : Bool) → is_flat t ≡ b → (quick k t).value ≡ None → is_flat t ≡ false
heavy_by k t true f e = absurd (cc (rw f at e))
heavy_by k t false f e = f

pub quick_heavy : (k : Known) (t : Tree) → (quick k t).value ≡ None → is_flat t ≡ false
quick_heavy k t e = heavy_by k t (is_flat t) refl e

-- each operator is paid for
right_by_once : (joint : Joint) (left : List ℕ) (code : Code) → (right_by joint left code).ticks ≤ 1
right_by_once joint left (Value right) = omega (arith, joint_once joint)
right_by_once joint left other = omega arith

right_by_flat : (k : Known) (at : ℕ) (joint : Joint) (t : Tree) (left : List ℕ) (b : Bool) → is_flat t ≡ b
    → (right_joined k at joint t left).ticks ≤ 1
right_by_flat k at joint t left true e = rw e (right_by_once joint left (leaf_code k.statics k.vars t))
right_by_flat k at joint t left false e = rw e (omega arith)

right_joined_once : (k : Known) (at : ℕ) (joint : Joint) (t : Tree) (left : List ℕ)
    → (right_joined k at joint t left).ticks ≤ 1
right_joined_once k at joint t left = right_by_flat k at joint t left (is_flat t) refl

unless_paid : (x : Result (Option (List ℕ)) TclFault) (c : Counted Joined) → c.ticks ≤ 1
    → (counted_after 1 0 (unless_decided x (counted_after 1 0 c))).ticks ≤ (counted_after 1 0 (unless_decided x (counted_after 1 0 c))).cost
unless_paid (Ok None) c h = omega (arith, h)
unless_paid (Ok (Some v)) c h = omega arith
unless_paid (Err f) c h = omega arith

on_paid : (j : Joined) (go : List ℕ → Counted Rowed) → ((v : List ℕ) → (go v).ticks ≤ (go v).cost) → (on_joined j go).ticks ≤ (on_joined j go).cost
on_paid (joined.Goes v) go h = h v
on_paid (joined.Ends r) go h = omega arith

row_paid : (k : Known) (n at : ℕ) (os : List (Joint × Tree)) (left : List ℕ) → (row_from k n at os left).ticks ≤ (row_from k n at os left).cost
row_paid k n at [] left = omega arith
row_paid k zero at (o ∷ os) left = omega arith
row_paid k (suc n) at (o ∷ os) left =
    let c = joined_to k (at + 1) o.0 o.1 left in
    let a = unless_paid (decided_by o.0 left) (right_joined k (at + 1) o.0 o.1 left) (right_joined_once k (at + 1) o.0 o.1 left) in
    let b = on_paid c.value (row_from k n (at + 1) os) (λ v. row_paid k n (at + 1) os v) in
    omega (arith, a, b)

told_paid : (k : Known) (all : List (Joint × Tree)) (code : Code) → (brief_told k all code).ticks ≤ (brief_told k all code).cost
told_paid k all (Value v) = row_paid k most_operators 0 all v
told_paid k all other = omega arith

row_ticks : (k : Known) (first : Tree) (all : List (Joint × Tree)) (b : Bool) → is_brief first all ≡ b
    → (quick_row k first all).ticks ≤ (quick_row k first all).cost
row_ticks k first all true e = rw e (let h = told_paid k all (leaf_code k.statics k.vars first) in omega (arith, h))
row_ticks k first all false e = rw e (omega arith)

ticks_by : (k : Known) (t : Tree) (b : Bool) → is_flat t ≡ b → (quick k t).ticks ≤ (quick k t).cost
ticks_by k t true e = rw e (omega arith)
ticks_by k t false e = rw e (row_ticks k (child_at t 0) (row_of t) (is_brief (child_at t 0) (row_of t)) refl)

pub quick_ticks : (k : Known) (t : Tree) → (quick k t).ticks ≤ (quick k t).cost
quick_ticks k t = ticks_by k t (is_flat t) refl

flat_alone : (t : Tree) → is_flat t ≡ true → alone t ≡ 1
flat_alone (tree.choice vs last) e = absurd (cc e)
flat_alone (tree.prefixed ops t) e = absurd (cc e)
flat_alone (tree.row t os) e = absurd (cc e)
flat_alone other e = refl

row_some : (k : Known) (first : Tree) (all : List (Joint × Tree)) (code : Code) (b : Bool) → is_brief first all ≡ b
    → (quick_row k first all).value ≡ Some code → 1 ≤ (quick_row k first all).cost
row_some k first all code true e h = rw e (omega arith)
row_some k first all code false e h = absurd (cc (rw e at h))

some_by : (k : Known) (t : Tree) (code : Code) (b : Bool) → is_flat t ≡ b → (quick k t).value ≡ Some code
    → 1 ≤ alone t + (quick k t).cost
some_by k t code true e h = let a = flat_alone t e in omega (arith, a)
some_by k t code false e h = rw e (let a = row_some k (child_at t 0) (row_of t) code (is_brief (child_at t 0) (row_of t)) refl (rw e at h) in omega (arith, a))

-- an expression costs something
pub quick_some : (k : Known) (t : Tree) (code : Code) → (quick k t).value ≡ Some code
    → 1 ≤ alone t + (quick k t).cost
quick_some k t code h = some_by k t code (is_flat t) refl h
