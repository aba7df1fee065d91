-- What the moves of operators before an operand, and of `expr`, come to, and what they owe.
use Rattle.std.proofs.Common.{◌≡◌, refl, ap, ◌∙◌, sym, subst, ℕ, suc, zero, ◌+◌, ◌-◌, List, [], ◌∷◌, ◌++◌, take, length, Bool, true, false, cond, Option, Some, None, Result, Ok, Err, arith, rules, add-zero, nat_lt}
use Rattle.std.specs.Prelude.{slice_get}
use Rattle.std.proofs.lemmas.List.{length-append}
use Rattle.px_bytes.specs.Gives.{with_value as if_ok}
use Rattle.px_bytes.specs.declared.fault.TclFault.{TclFault}
use Rattle.tcl_expr.specs.Operators.{operator_value_1}
use Rattle.tcl_expr.specs.declared.operator.Op1.{Op1}
use Rattle.tcl_trees.specs.Procedures.{Procedure}
use Rattle.tcl_trees.specs.Tree.{Tree}
use Rattle.tcl_trees.specs.Tree as tree
use Rattle.tcl_trees.specs.WholeResult.{whole_result}
use Rattle.tcl_vars.specs.Scopes.{Scopes}
use Rattle.rule_model.specs.Children.{alone}
use Rattle.rule_model.specs.Evaluator.{eval}
use Rattle.rule_model.specs.Expressions.{after_operand, prefixed_value, whole}
use Rattle.rule_model.specs.Outcome.{state, ends, paid, then_value}
use Rattle.rule_model.specs.declared.code.Code.{Code}
use Rattle.rule_model.specs.declared.code.Code.TheVariants.{Value, Raised, Return, Break, Continue}
use Rattle.rule_model.specs.Setting.{Setting}
use Rattle.frames.specs.Frames.{inner_of, operators_of}
use Rattle.frames.specs.Leafs.{leaf_code}
use Rattle.frames.specs.Moves.{begins, goes_on, stop, child_under, back_under}
use Rattle.frames.specs.Owed.{is_flat, mode_owed}
use Rattle.frame_moves.specs.Prefixes.{applied_move, operators_move, operand_told, prefixed_move, whole_told, whole_by, expr_move}
use Rattle.frame_loops.specs.Quick.{quick, quick_or}
use Rattle.frames.specs.Reads.{Known, known}
use Rattle.frames.specs.Stills.{moves, move_after, still, Comes}
use Rattle.frames.specs.declared.frame.Frame.TheVariants as frame
use Rattle.frames.specs.declared.frame.Mode.TheVariants as mode
use Rattle.frames.specs.declared.frame.Room.{Room}
use Rattle.frames.proofs.Heard.{heard_true}
use Rattle.frames.proofs.LeafViews.{leaf_eval}
use Rattle.frame_loops.proofs.InQuick.{quick_is, quick_free, quick_heavy, quick_ticks}
use Rattle.frames.proofs.InStills.{Bounded, back_owes, bounded_after, bounded_less, bounded_name, child_bounded, comes_as, comes_at, comes_paid, pass_bounded, stop_bounded}

-- a list's last element
record Snoc (ops : List Op1) : Type 0 where
  front : List Op1
  op : Op1
  is : ops ≡ front ++ op ∷ []

snoc : (x : Op1) (xs : List Op1) → Snoc (x ∷ xs)
snoc x [] = record { front = []; op = x; is = refl }
snoc x (y ∷ ys) = let r = snoc y ys in record { front = x ∷ r.front; op = r.op; is = ap (λ l. x ∷ l) r.is }

last_is : (front : List Op1) (op : Op1) → slice_get (front ++ op ∷ []) (length front) ≡ Some op
last_is [] op = refl
last_is (x ∷ front) op = last_is front op

taken : (front rest all : List Op1) (left : ℕ) → take left all ≡ front ++ rest
    → take (length front) all ≡ front
taken [] rest all left e = refl
taken (x ∷ front) rest [] zero e = absurd (cc e)
taken (x ∷ front) rest [] (suc left) e = absurd (cc e)
taken (x ∷ front) rest (y ∷ all) zero e = absurd (cc e)
taken (x ∷ front) rest (y ∷ all) (suc left) e =
    let a : y ≡ x = cc e in
    let b : take left all ≡ front ++ rest = cc e in
    rw a (ap (λ l. x ∷ l) (taken front rest all left b))

if_ok_ok : (x : Result (List ℕ) TclFault) → if_ok x (λ v. Ok v) ≡ x
if_ok_ok (Ok v) = refl
if_ok_ok (Err f) = refl

if_ok_joins : (x : Result (List ℕ) TclFault) (os : List Op1) (o : Op1)
    → if_ok (if_ok x (prefixed_value os)) (operator_value_1 o) ≡ if_ok x (prefixed_value (o ∷ os))
if_ok_joins (Ok v) os o = refl
if_ok_joins (Err f) os o = refl

prefixed_snoc : (ops : List Op1) (op : Op1) (v : List ℕ)
    → prefixed_value (ops ++ op ∷ []) v ≡ if_ok (operator_value_1 op v) (prefixed_value ops)
prefixed_snoc [] op v = sym (if_ok_ok (operator_value_1 op v))
prefixed_snoc (o ∷ os) op v = ap (λ x. if_ok x (operator_value_1 o)) (prefixed_snoc os op v)
    ∙ if_ok_joins (operator_value_1 op v) os o

innermost : (front : List Op1) (op : Op1) (v : List ℕ)
    → operators_move (front ++ op ∷ []) v ≡ applied_move (length front + 1) (operator_value_1 op v)
innermost front op v =
    let n : length (front ++ op ∷ []) ≡ length front + 1 = length-append front (op ∷ []) in
    let m : length front + 1 - 1 ≡ length front = omega arith in
    rw (n, m, last_is front op) refl

more_left : (n : ℕ) → nat_lt 1 (suc n + 1) ≡ true
more_left n = search rules

all_taken : (ops : List Op1) → take (length ops) ops ≡ ops
all_taken [] = refl
all_taken (o ∷ os) = ap (λ l. o ∷ l) (all_taken os)

module _ {H : Type 0} where
  applied_is : {g : Setting H} {r : Room} {w : Bool} {t : Tree} {vars : Scopes} {budget : ℕ}
      (front : List Op1) (x : Result (List ℕ) TclFault) → take (length front) (operators_of t) ≡ front →
      Comes g r w t (λ path st. ends (if_ok x (prefixed_value front)) (paid (length front + 1) st)) vars
      budget (still budget vars (applied_move (length front + 1) x))
  applied_is front (Err f) e = record { same = λ path host more cost acts. refl }
  applied_is [] (Ok u) e = record { same = λ path host more cost acts. refl }
  applied_is {t = t} (o ∷ os) (Ok u) e =
      let n : suc (length os) + 1 - 1 ≡ suc (length os) = omega arith in
      rw (more_left (length os), n) (record {
        same = λ path host more cost acts.
            let k : cost + (suc (length os) + 1) ≡ cost + 1 + suc (length os) = omega arith in
            rw (k, e) refl;
      })

  operators_snoc : {g : Setting H} {r : Room} {w : Bool} {t : Tree} {vars : Scopes} {budget : ℕ} (left : ℕ)
      (front : List Op1) (op : Op1) (v : List ℕ) → take left (operators_of t) ≡ front ++ op ∷ [] →
      Comes g r w t (λ path st. after_operand (front ++ op ∷ []) v st) vars budget
      (still budget vars (operators_move (front ++ op ∷ []) v))
  operators_snoc {t = t} left front op v e =
      let n : length (front ++ op ∷ []) ≡ length front + 1 = length-append front (op ∷ []) in
      rw (innermost front op v) (comes_as (λ path host more cost acts. rw (prefixed_snoc front op v, n) refl)
      (applied_is front (operator_value_1 op v) (taken front (op ∷ []) (operators_of t) left e)))

  operators_is : {g : Setting H} {r : Room} {w : Bool} {t : Tree} {vars : Scopes} {budget : ℕ} (left : ℕ)
      (ops : List Op1) (v : List ℕ) → take left (operators_of t) ≡ ops →
      Comes g r w t (λ path st. after_operand ops v st) vars budget (still budget vars (operators_move ops v))
  operators_is left [] v e = comes_at (stop (Value v)) (λ path host more cost acts. rw (add-zero cost) refl)
  operators_is {g = g} {r = r} {w = w} {t = t} {vars = vars} {budget = budget} left (o ∷ os) v e =
      let s = snoc o os in
      subst (λ l. Comes g r w t (λ path st. after_operand l v st) vars budget
      (still budget vars (operators_move l v))) (sym s.is) (operators_snoc left s.front s.op v (e ∙ s.is))

  -- behind the operand
  pub operand_goes : {g : Setting H} {r : Room} {w : Bool} {t : Tree} {vars : Scopes} {budget : ℕ} (left : ℕ)
      (code : Code) →
      Comes g r w t (goes_on g r t (frame.Operand left) code) vars budget
      (still budget vars (operand_told (operators_of t) left code))
  operand_goes {t = t} left (Value v) =
      comes_as (λ path host more cost acts. refl) (operators_is left (take left (operators_of t)) v refl)
  operand_goes left (Raised f) = comes_at _ (λ path host more cost acts. refl)
  operand_goes left (Return v) = comes_at _ (λ path host more cost acts. refl)
  operand_goes left Break = comes_at _ (λ path host more cost acts. refl)
  operand_goes left Continue = comes_at _ (λ path host more cost acts. refl)

  prefixed_case : {g : Setting H} {r : Room} {w : Bool} {vars : Scopes} {budget : ℕ} (ops : List Op1)
      (u : Tree) (b : Bool) → is_flat u ≡ b →
      Comes g r w (tree.prefixed ops u)
      (λ path st. then_value (eval g (inner_of g r) u (path ++ 0 ∷ []) st) (after_operand ops)) vars budget
      (still budget vars (cond b (operand_told ops (length ops) (leaf_code g.statics vars u))
      (moves (child_under (frame.Operand (length ops))))))
  prefixed_case {g = g} {r = r} {vars = vars} {budget = budget} ops u true e =
      comes_as (λ path host more cost acts. rw (all_taken ops)
      (ap (λ o. then_value o (after_operand ops))
      (leaf_eval g (inner_of g r) u (path ++ 0 ∷ []) (state vars host more budget cost acts) e)))
      (operand_goes {t = tree.prefixed ops u} (length ops) (leaf_code g.statics vars u))
  prefixed_case ops u false e = comes_at (child_under (frame.Operand (length ops)))
      (λ path host more cost acts. rw (heard_true, all_taken ops) refl)

  pub prefixed_begins : {g : Setting H} {r : Room} {w : Bool} {vars : Scopes} {budget : ℕ} (ops : List Op1)
      (u : Tree) →
      Comes g r w (tree.prefixed ops u) (begins g r (tree.prefixed ops u)) vars budget
      (still budget vars (prefixed_move (known g.statics vars) ops u))
  prefixed_begins ops u = comes_paid 1 0 (λ path host more cost acts. refl)
      (prefixed_case ops u (is_flat u) refl)

  -- the whole expression
  pub whole_goes : {g : Setting H} {r : Room} {w : Bool} {t : Tree} {vars : Scopes} {budget : ℕ} (code : Code)
      → Comes g r w t (goes_on g r t frame.Whole code) vars budget (still budget vars (whole_told code))
  whole_goes (Value v) = comes_at _ (λ path host more cost acts. refl)
  whole_goes (Raised f) = comes_at _ (λ path host more cost acts. refl)
  whole_goes (Return v) = comes_at _ (λ path host more cost acts. refl)
  whole_goes Break = comes_at _ (λ path host more cost acts. refl)
  whole_goes Continue = comes_at _ (λ path host more cost acts. refl)

  expr_cases : {g : Setting H} {r : Room} {w : Bool} {vars : Scopes} {budget : ℕ} (u : Tree) (n ticks : ℕ)
      (x : Option Code) → (x ≡ None → n ≡ 0) →
      Comes g r w (tree.expr u) (λ path st. whole
      (quick_or x n (eval g (inner_of g r) u) (path ++ 0 ∷ []) st)) vars budget
      (still budget vars (move_after n ticks (whole_by x)))
  expr_cases u n ticks (Some code) none =
      comes_paid n ticks (λ path host more cost acts. refl) (whole_goes {t = tree.expr u} code)
  expr_cases {g = g} {r = r} u n ticks None none =
      comes_paid {m' = λ path st. whole (eval g (inner_of g r) u (path ++ 0 ∷ []) st)} n ticks
      (λ path host more cost acts. rw (none refl, add-zero cost) refl)
      (comes_at (child_under frame.Whole) (λ path host more cost acts. rw heard_true refl))

  pub expr_begins : {g : Setting H} {r : Room} {w : Bool} {vars : Scopes} {budget : ℕ} (u : Tree) →
      Comes g r w (tree.expr u) (begins g r (tree.expr u)) vars budget
      (still budget vars (expr_move (known g.statics vars) u))
  expr_begins {g = g} {r = r} {vars = vars} {budget = budget} u =
      let k = known g.statics vars in
      comes_paid 1 0 (λ path host more cost acts. refl)
      (comes_paid {m = λ path st. whole (eval g (inner_of g r) u (path ++ 0 ∷ []) (paid (alone u) st))}
      (alone u) 0
      (λ path host more cost acts. ap whole
      (quick_is g (inner_of g r) u (path ++ 0 ∷ []) (state vars host more budget (cost + alone u) acts)))
      (expr_cases u (quick k u).cost (quick k u).ticks (quick k u).value (quick_free k u)))

-- what they owe
left_owes : {procedures : List Procedure} {t : Tree} (n : ℕ) (v : List ℕ) (b : Bool)
    → Bounded procedures t 2 (record
    { next = cond b (back_under (frame.Operand n) (Value v)) (stop (Value v)); cost = 1; ticks = 1 })
left_owes n v true = record { owes = omega arith; ready = tt }
left_owes n v false = record { owes = omega arith; ready = tt }

applied_owes : {procedures : List Procedure} {t : Tree} (n : ℕ) (x : Result (List ℕ) TclFault)
    → Bounded procedures t 2 (applied_move (n + 1) x)
applied_owes n (Ok v) = left_owes (n + 1 - 1) v (nat_lt 1 (n + 1))
applied_owes n (Err f) = record { owes = let h = back_owes (Raised f) in omega (arith, h); ready = tt }

snoc_owes : {procedures : List Procedure} {t : Tree} (front : List Op1) (op : Op1) (v : List ℕ)
    → Bounded procedures t 2 (operators_move (front ++ op ∷ []) v)
snoc_owes front op v = rw (innermost front op v) (applied_owes (length front) (operator_value_1 op v))

operators_owe : {procedures : List Procedure} {t : Tree} (ops : List Op1) (v : List ℕ)
    → Bounded procedures t 2 (operators_move ops v)
operators_owe [] v = stop_bounded (Value v)
operators_owe {procedures = procedures} {t = t} (o ∷ os) v = let s = snoc o os in
    subst (λ l. Bounded procedures t 2 (operators_move l v)) (sym s.is) (snoc_owes s.front s.op v)

pub operand_goes_owes : {procedures : List Procedure} {t : Tree} (left : ℕ) (code : Code)
    → Bounded procedures t (mode_owed (mode.Back code)) (operand_told (operators_of t) left code)
operand_goes_owes {t = t} left (Value v) = operators_owe (take left (operators_of t)) v
operand_goes_owes left (Raised f) = pass_bounded (Raised f)
operand_goes_owes left (Return v) = pass_bounded (Return v)
operand_goes_owes left Break = pass_bounded Break
operand_goes_owes left Continue = pass_bounded Continue

first_owes : {procedures : List Procedure} (k : Known) (ops : List Op1) (u : Tree) (b : Bool) → is_flat u ≡ b
    → Bounded procedures (tree.prefixed ops u) 2
    (cond b (operand_told ops (length ops) (leaf_code k.statics k.vars u))
    (moves (child_under (frame.Operand (length ops)))))
first_owes k ops u true e = bounded_less (back_owes (leaf_code k.statics k.vars u))
    (operand_goes_owes {t = tree.prefixed ops u} (length ops) (leaf_code k.statics k.vars u))
first_owes k ops u false e = child_bounded (frame.Operand (length ops)) refl e

pub prefixed_begins_owes : {procedures : List Procedure} (k : Known) (ops : List Op1) (u : Tree)
    → Bounded procedures (tree.prefixed ops u) 0 (prefixed_move k ops u)
prefixed_begins_owes k ops u = bounded_name 1 (omega arith) (first_owes k ops u (is_flat u) refl)

pub whole_goes_owes : {procedures : List Procedure} {t : Tree} (code : Code)
    → Bounded procedures t (mode_owed (mode.Back code)) (whole_told code)
whole_goes_owes (Value v) = stop_bounded (Value (whole_result v))
whole_goes_owes (Raised f) = pass_bounded (Raised f)
whole_goes_owes (Return v) = pass_bounded (Return v)
whole_goes_owes Break = pass_bounded Break
whole_goes_owes Continue = pass_bounded Continue

whole_owes : {procedures : List Procedure} (u : Tree) (x : Option Code) → (x ≡ None → is_flat u ≡ false)
    → Bounded procedures (tree.expr u) 2 (whole_by x)
whole_owes u (Some code) heavy = bounded_less (back_owes code) (whole_goes_owes code)
whole_owes u None heavy = child_bounded frame.Whole refl (heavy refl)

pub expr_begins_owes : {procedures : List Procedure} (k : Known) (u : Tree)
    → Bounded procedures (tree.expr u) 0 (expr_move k u)
expr_begins_owes k u =
    bounded_name 1 (omega arith) (bounded_after (alone u) 0 (omega arith)
    (bounded_after (quick k u).cost (quick k u).ticks (omega (arith, quick_ticks k u))
    (whole_owes u (quick k u).value (quick_heavy k u))))
