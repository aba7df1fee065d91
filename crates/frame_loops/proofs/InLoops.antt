-- What the moves of a loop come to, and what they owe.
use Rattle.std.proofs.Common.{◌≡◌, refl, ap, ◌∙◌, sym, ℕ, suc, zero, ◌+◌, ◌-◌, List, [], ◌∷◌, ◌++◌, Bool, true, false, cond}
use Rattle.std.proofs.Common.{Option, Some, None, Result, Ok, Err, arith, rules, add-zero, nat_eq, ◌||◌}
use Rattle.px_bytes.specs.FaultText.{budget_spent}
use Rattle.px_bytes.specs.declared.fault.Reply.{Reply}
use Rattle.px_bytes.specs.declared.fault.TclFault.{TclFault}
use Rattle.tcl_expr.specs.Truth.{truth}
use Rattle.tcl_trees.specs.Procedures.{Procedure}
use Rattle.tcl_trees.specs.Tree.{Tree}
use Rattle.tcl_trees.specs.Tree as tree
use Rattle.tcl_vars.specs.Scopes.{Scopes}
use Rattle.rule_model.specs.Children.{alone, child, free}
use Rattle.rule_model.specs.Control.{after_next, turn}
use Rattle.rule_model.specs.Evaluator.{eval}
use Rattle.rule_model.specs.Expressions.{by_truth, then_truth}
use Rattle.rule_model.specs.Outcome.{Act, State, state, Outcome, Meaning, heard, then_code, then_value}
use Rattle.rule_model.specs.declared.code.Code.{Code}
use Rattle.rule_model.specs.declared.code.Code.TheVariants.{Value, Raised, Return, Break, Continue}
use Rattle.rule_model.specs.Setting.{Setting}
use Rattle.rule_nodes.specs.Operators.{if_truth, truth_read}
use Rattle.frames.specs.Children.{child_at}
use Rattle.frames.specs.Frames.{again, body_in, inner_of, next_in, test_in}
use Rattle.frames.specs.Leafs.{leaf_code}
use Rattle.frame_loops.specs.Loops.{Parts, above, turn_move, holds_move, test_told, test_by, test_move, next_told, next_move, start_told, loop_move}
use Rattle.frames.specs.Moves.{begins, goes_on, stands, stop, child_under, back_under}
use Rattle.frames.specs.Owed.{is_flat, mode_owed}
use Rattle.frame_loops.specs.Quick.{quick, quick_or}
use Rattle.frames.specs.Reads.{Known, known}
use Rattle.frames.specs.Stills.{moves, spends, spend_after, spent, Comes}
use Rattle.frames.specs.declared.frame.Frame.TheVariants as frame
use Rattle.frames.specs.declared.frame.Mode.TheVariants as mode
use Rattle.frames.specs.declared.frame.Room.{Room}
use Rattle.frames.specs.declared.next.Next.{Next}
use Rattle.frame_loops.proofs.InQuick.{quick_is, quick_free, quick_heavy, quick_ticks}
use Rattle.frames.proofs.Heard.{heard_true}
use Rattle.frames.proofs.LeafViews.{leaf_eval}
use Rattle.frames.proofs.InStills.{Bounded, back_bounded, back_owes, bounded_after, bounded_less, bounded_name, body_unheard, child_bounded, comes_as}
use Rattle.frames.proofs.InStills.{comes_at, comes_paid, next_unheard, pass_bounded, stop_bounded, under, under_child, under_flat, value_unheard}

-- the parts of a loop, as its children
abbrev pub parts_at : Tree → Parts
parts_at t = record { start = child_at t 0; test = child_at t 1; next = child_at t 2; body = child_at t 3 }

no_zero : (b : ℕ) → nat_eq (suc b) 0 ≡ false
no_zero b = search rules

pred : (n : ℕ) → suc n - 1 ≡ n
pred n = omega arith

module _ {H : Type 0} where
  abbrev knows : Setting H → Scopes → Known
  knows g vars = known g.statics vars

  abbrev turning : Setting H → Room → Tree → ℕ → List ℕ → Bool → State H → Outcome H
  turning g r t left = turn left (test_in g (inner_of g r) t) (body_in g (inner_of g r) t 3)
      (next_in g (inner_of g r) t)

  -- a turn's body
  pub turn_above : (g : Setting H) (r : Room) (t : Tree) (n : ℕ) (path : List ℕ) (st : State H) (b : Bool)
      → is_flat (child_at t 3) ≡ b →
      under g r t (frame.Turn n) path st
      ≡ stands g r t (above (knows g st.vars) (child_at t 3) (frame.Turn n)) path st
  turn_above g r t n path st true e = rw e (under_flat g r t (frame.Turn n) path st e)
  turn_above g r t n path st false e = rw e (under_child g r t (frame.Turn n) path st refl)

  turn_paid : (g : Setting H) (r : Room) (t : Tree) (n b : ℕ) (path : List ℕ) (vars : Scopes) (host : H)
      (more : List Reply) (cost : ℕ) (acts : List Act) →
      turning g r t (suc n) path true (state vars host more (suc b) cost acts)
      ≡ stands g r t (above (knows g vars) (child_at t 3) (frame.Turn n)) path
      (state vars host more b (cost + 1) acts)
  turn_paid g r t n b path vars host more cost acts =
      let st = state vars host more b (cost + 1) acts in
      rw (no_zero b, pred b, add-zero)
      (sym (body_unheard (eval g (inner_of g r) (child_at t 3) (path ++ 3 ∷ []) st)
      (λ s. then_code (next_in g (inner_of g r) t path s) (after_next (again g (inner_of g r) t n path))))
      ∙ turn_above g r t n path st (is_flat (child_at t 3)) refl)

  turn_is : {g : Setting H} {r : Room} {w : Bool} {t : Tree} {vars : Scopes} (left budget : ℕ) (holds : Bool)
      → Comes g r w t (λ path st. turning g r t left path holds st) vars budget
      (spent vars (turn_move (knows g vars) (child_at t 3) left budget holds))
  turn_is left budget false = comes_at _ (λ path host more cost acts. refl)
  turn_is zero budget true = comes_at _ (λ path host more cost acts. refl)
  turn_is (suc n) zero true = rw (no_zero n) (comes_at _ (λ path host more cost acts. refl))
  turn_is {g = g} {r = r} {w = w} {t = t} {vars = vars} (suc n) (suc b) true =
      rw (no_zero n, no_zero b, pred n, pred b)
      (record {
        same = λ path host more cost acts. ap (heard w)
            (turn_paid g r t n b path vars host more cost acts);
      })

  holds_by : {g : Setting H} {r : Room} {w : Bool} {t : Tree} {vars : Scopes} (left budget : ℕ) (v : List ℕ)
      (x : Option Bool) →
      Comes g r w t (λ path st. by_truth x v (turning g r t left path) st) vars budget
      (spent vars (holds_move (knows g vars) (child_at t 3) left budget (if_truth x v)))
  holds_by left budget v (Some holds) = turn_is left budget holds
  holds_by left budget v None = comes_at _ (λ path host more cost acts. refl)

  -- behind the test
  pub test_goes : {g : Setting H} {r : Room} {w : Bool} {t : Tree} {vars : Scopes} (left budget : ℕ)
      (code : Code) →
      Comes g r w t (goes_on g r t (frame.Test left) code) vars budget
      (spent vars (test_told (knows g vars) (child_at t 3) left budget code))
  test_goes left budget (Value v) = holds_by left budget v (truth v)
  test_goes left budget other = comes_at _ (λ path host more cost acts. refl)

  abbrev test_here : Setting H → Room → Tree → ℕ → Option Code → ℕ → Meaning H
  test_here g r t left x cost path st =
      then_truth (quick_or x cost (eval g (inner_of g r) (child_at t 1)) (path ++ 1 ∷ []) st)
      (turning g r t left path)

  test_cases : {g : Setting H} {r : Room} {w : Bool} {t : Tree} {vars : Scopes} (left budget n ticks : ℕ)
      (x : Option Code) → (x ≡ None → n ≡ 0) →
      Comes g r w t (test_here g r t left x n) vars budget
      (spent vars (spend_after n ticks (test_by (knows g vars) (child_at t 3) left budget x)))
  test_cases left budget n ticks (Some code) none =
      comes_paid n ticks (λ path host more cost acts. refl) (test_goes left budget code)
  test_cases {g = g} {r = r} {t = t} left budget n ticks None none =
      comes_paid {m' = test_here g r t left None 0} n ticks
      (λ path host more cost acts. rw (none refl, add-zero) refl)
      (comes_at (child_under (frame.Test left)) (λ path host more cost acts. rw heard_true refl))

  -- the loop from its test on
  pub test_is : {g : Setting H} {r : Room} {w : Bool} {t : Tree} {vars : Scopes} (left budget : ℕ) →
      Comes g r w t (again g (inner_of g r) t left) vars budget
      (spent vars (test_move (knows g vars) (parts_at t) left budget))
  test_is {g = g} {r = r} {t = t} {vars = vars} left budget =
      let k = knows g vars in
      let u = child_at t 1 in
      comes_paid (alone u) 0 (λ path host more cost acts. ap (λ o. then_truth o (turning g r t left path))
      (quick_is g (inner_of g r) u (path ++ 1 ∷ []) (state vars host more budget (cost + alone u) acts)))
      (test_cases left budget (quick k u).cost (quick k u).ticks (quick k u).value (quick_free k u))

  -- behind what comes after a turn
  next_goes_is : {g : Setting H} {r : Room} {w : Bool} {t : Tree} {vars : Scopes} (left budget : ℕ)
      (code : Code) →
      Comes g r w t (goes_on g r t (frame.Next left) code) vars budget
      (spent vars (next_told (knows g vars) (parts_at t) left budget code))
  next_goes_is left budget (Value v) = test_is left budget
  next_goes_is left budget other = comes_at _ (λ path host more cost acts. refl)

  -- what comes after a turn
  abbrev pub next_here : Setting H → Room → Tree → ℕ → Meaning H
  next_here g r t left path st =
      then_code (next_in g (inner_of g r) t path st) (after_next (again g (inner_of g r) t left path))

  pub next_is : {g : Setting H} {r : Room} {w : Bool} {t : Tree} {vars : Scopes} (left budget : ℕ) (b : Bool)
      → is_flat (child_at t 2) ≡ b →
      Comes g r w t (next_here g r t left) vars budget
      (spent vars (next_move (knows g vars) (parts_at t) left budget))
  next_is {g = g} {r = r} {t = t} {vars = vars} left budget true e =
      rw e (comes_as (λ path host more cost acts. rw add-zero
      (ap (λ o. then_code o (after_next (again g (inner_of g r) t left path)))
      (leaf_eval g (inner_of g r) (child_at t 2) (path ++ 2 ∷ []) (state vars host more budget cost acts) e)))
      (next_goes_is left budget (leaf_code g.statics vars (child_at t 2))))
  next_is {g = g} {r = r} {t = t} {vars = vars} left budget false e =
      rw e (comes_at (child_under (frame.Next left)) (λ path host more cost acts. rw add-zero
      (sym (next_unheard (eval g (inner_of g r) (child_at t 2) (path ++ 2 ∷ [])
      (state vars host more budget cost acts)) (again g (inner_of g r) t left path)))))

  -- behind what starts the loop
  pub start_goes_is : {g : Setting H} {r : Room} {w : Bool} {t : Tree} {vars : Scopes} (budget : ℕ)
      (code : Code) →
      Comes g r w t (goes_on g r t frame.Start code) vars budget
      (spent vars (start_told (knows g vars) (parts_at t) budget code))
  start_goes_is budget (Value v) = comes_as (λ path host more cost acts. refl) (test_is budget budget)
  start_goes_is budget other = comes_at _ (λ path host more cost acts. refl)

  abbrev start_here : Setting H → Room → Tree → Meaning H
  start_here g r t path st =
      then_value (child free 0 (child_at t 0) (eval g (inner_of g r) (child_at t 0)) path st)
      (λ v s. again g (inner_of g r) t s.budget path s)

  start_is : {g : Setting H} {r : Room} {w : Bool} {t : Tree} {vars : Scopes} (budget : ℕ) (b : Bool)
      → is_flat (child_at t 0) ≡ b →
      Comes g r w t (start_here g r t) vars budget
      (spent vars (cond b (start_told (knows g vars) (parts_at t) budget
      (leaf_code g.statics vars (child_at t 0))) (spends budget (child_under frame.Start))))
  start_is {g = g} {r = r} {t = t} {vars = vars} budget true e =
      comes_as (λ path host more cost acts. rw add-zero
      (ap (λ o. then_value o (λ v s. again g (inner_of g r) t s.budget path s))
      (leaf_eval g (inner_of g r) (child_at t 0) (path ++ 0 ∷ []) (state vars host more budget cost acts) e)))
      (start_goes_is budget (leaf_code g.statics vars (child_at t 0)))
  start_is {g = g} {r = r} {t = t} {vars = vars} budget false e =
      comes_at (child_under frame.Start) (λ path host more cost acts. rw add-zero
      (sym (value_unheard (eval g (inner_of g r) (child_at t 0) (path ++ 0 ∷ [])
      (state vars host more budget cost acts)) (λ s. again g (inner_of g r) t s.budget path s))))

  -- a loop begins
  pub loop_is : {g : Setting H} {r : Room} {w : Bool} {vars : Scopes} (s x n b : Tree) (budget : ℕ) →
      Comes g r w (tree.loop s x n b) (begins g r (tree.loop s x n b)) vars budget
      (spent vars (loop_move (knows g vars) (parts_at (tree.loop s x n b)) budget))
  loop_is s x n b budget = comes_paid 1 0 (λ path host more cost acts. refl)
      (start_is {t = tree.loop s x n b} budget (is_flat s) refl)

-- what they owe, under the budget's fault too
turn_ready : (procedures : List Procedure) (t : Tree) (n : ℕ) (k : Known) (b : Bool)
    → is_flat (child_at t 3) ≡ b →
    Bounded procedures t 3 (moves (cond b
    (back_under (frame.Turn n) (leaf_code k.statics k.vars (child_at t 3))) (child_under (frame.Turn n))))
turn_ready procedures t n k true e =
    back_bounded (frame.Turn n) (leaf_code k.statics k.vars (child_at t 3)) refl
turn_ready procedures t n k false e = bounded_less (omega arith) (child_bounded (frame.Turn n) refl e)

turn_either : {procedures : List Procedure} {t : Tree} (budget : ℕ) (next : Next) (b : Bool)
    → Bounded procedures t 3 (moves next) →
    Bounded procedures t 2 (cond b (spends budget (stop (Raised budget_spent)))
    (spend_after 1 0 (spends (budget - 1) next))).move
turn_either budget next true h = stop_bounded (Raised budget_spent)
turn_either budget next false h = bounded_less (omega arith) (bounded_name 1 (omega arith) h)

turn_owes : {procedures : List Procedure} {t : Tree} (k : Known) (left budget : ℕ) (holds : Bool)
    → Bounded procedures t 2 (turn_move k (child_at t 3) left budget holds).move
turn_owes k left budget false = stop_bounded (Value [])
turn_owes {procedures = procedures} {t = t} k left budget true =
    turn_either budget (above k (child_at t 3) (frame.Turn (left - 1))) (nat_eq left 0 || nat_eq budget 0)
    (turn_ready procedures t (left - 1) k (is_flat (child_at t 3)) refl)

holds_owes : {procedures : List Procedure} {t : Tree} (k : Known) (left budget : ℕ) (x : Result Bool TclFault)
    → Bounded procedures t 2 (holds_move k (child_at t 3) left budget x).move
holds_owes k left budget (Ok holds) = turn_owes k left budget holds
holds_owes k left budget (Err f) = stop_bounded (Raised f)

pub test_goes_owes : {procedures : List Procedure} {t : Tree} (k : Known) (left budget : ℕ) (code : Code)
    → Bounded procedures t (mode_owed (mode.Back code)) (test_told k (child_at t 3) left budget code).move
test_goes_owes k left budget (Value v) = holds_owes k left budget (truth_read v)
test_goes_owes k left budget (Raised f) = pass_bounded (Raised f)
test_goes_owes k left budget (Return v) = pass_bounded (Return v)
test_goes_owes k left budget Break = pass_bounded Break
test_goes_owes k left budget Continue = pass_bounded Continue

test_by_owes : {procedures : List Procedure} {t : Tree} (k : Known) (left budget : ℕ) (x : Option Code)
    → (x ≡ None → is_flat (child_at t 1) ≡ false) →
    Bounded procedures t 2 (test_by k (child_at t 3) left budget x).move
test_by_owes k left budget (Some code) e = bounded_less (back_owes code) (test_goes_owes k left budget code)
test_by_owes k left budget None e = child_bounded (frame.Test left) refl (e refl)

pub test_owes : {procedures : List Procedure} {t : Tree} (k : Known) (left budget : ℕ)
    → Bounded procedures t 2 (test_move k (parts_at t) left budget).move
test_owes {t = t} k left budget =
    let u = child_at t 1 in
    bounded_after (alone u) 0 (omega arith)
    (bounded_after (quick k u).cost (quick k u).ticks (omega (arith, quick_ticks k u))
    (test_by_owes k left budget (quick k u).value (quick_heavy k u)))

next_goes_owes : {procedures : List Procedure} {t : Tree} (k : Known) (left budget : ℕ) (code : Code)
    → Bounded procedures t (mode_owed (mode.Back code)) (next_told k (parts_at t) left budget code).move
next_goes_owes k left budget (Value v) = test_owes k left budget
next_goes_owes k left budget (Raised f) = pass_bounded (Raised f)
next_goes_owes k left budget (Return v) = pass_bounded (Return v)
next_goes_owes k left budget Break = stop_bounded (Value [])
next_goes_owes k left budget Continue = pass_bounded Continue

pub next_owes : {procedures : List Procedure} {t : Tree} (k : Known) (left budget : ℕ) (b : Bool)
    → is_flat (child_at t 2) ≡ b → Bounded procedures t 2 (next_move k (parts_at t) left budget).move
next_owes {t = t} k left budget true e =
    rw e (bounded_less (back_owes (leaf_code k.statics k.vars (child_at t 2)))
    (next_goes_owes k left budget (leaf_code k.statics k.vars (child_at t 2))))
next_owes k left budget false e = rw e (child_bounded (frame.Next left) refl e)

pub start_goes_owes : {procedures : List Procedure} {t : Tree} (k : Known) (budget : ℕ) (code : Code)
    → Bounded procedures t (mode_owed (mode.Back code)) (start_told k (parts_at t) budget code).move
start_goes_owes k budget (Value v) = test_owes k budget budget
start_goes_owes k budget (Raised f) = pass_bounded (Raised f)
start_goes_owes k budget (Return v) = pass_bounded (Return v)
start_goes_owes k budget Break = pass_bounded Break
start_goes_owes k budget Continue = pass_bounded Continue

start_owes : {procedures : List Procedure} {t : Tree} (k : Known) (budget : ℕ) (b : Bool)
    → is_flat (child_at t 0) ≡ b →
    Bounded procedures t 2 (cond b
    (start_told k (parts_at t) budget (leaf_code k.statics k.vars (child_at t 0)))
    (spends budget (child_under frame.Start))).move
start_owes {t = t} k budget true e =
    bounded_less (back_owes (leaf_code k.statics k.vars (child_at t 0)))
    (start_goes_owes k budget (leaf_code k.statics k.vars (child_at t 0)))
start_owes k budget false e = child_bounded frame.Start refl e

pub loop_owes : {procedures : List Procedure} {t : Tree} (k : Known) (budget : ℕ)
    → Bounded procedures t 0 (loop_move k (parts_at t) budget).move
loop_owes {t = t} k budget = bounded_name 1 (omega arith) (start_owes k budget (is_flat (child_at t 0)) refl)
