-- What turns of a loop that are done at once come to, and what they owe.
use Rattle.std.proofs.Common.{◌≡◌, refl, ap, ◌∙◌, sym, ℕ, suc, zero, ◌+◌, ◌-◌, ◌*◌, ◌≤◌, List, [], ◌∷◌, ◌++◌}
use Rattle.std.proofs.Common.{Bool, true, false, ◌&&◌, Some, arith, add-zero, nat_eq}
use Rattle.std.specs.Prelude.{if◌then◌else◌, Option}
use Rattle.px_bytes.specs.FaultText.{budget_spent}
use Rattle.px_bytes.specs.declared.fault.Reply.{Reply}
use Rattle.tcl_expr.specs.Truth.{truth}
use Rattle.tcl_trees.specs.Procedures.{Procedure}
use Rattle.tcl_trees.specs.Tree.{Tree, Trees, no_trees, and_tree}
use Rattle.tcl_trees.specs.Tree as tree
use Rattle.tcl_vars.specs.Scopes.{Level, Scopes}
use Rattle.rule_model.specs.Children.{child, free}
use Rattle.rule_model.specs.Control.{after_body, after_next, turn}
use Rattle.rule_model.specs.Evaluator.{eval, evals}
use Rattle.rule_model.specs.Expressions.{by_truth, then_truth}
use Rattle.rule_model.specs.Outcome.{Act, State, state, Outcome, Ends, Waits, Meaning, then_code}
use Rattle.rule_model.specs.declared.code.Code.{Code}
use Rattle.rule_model.specs.declared.code.Code.TheVariants.{Value, Raised, Return, Break, Continue}
use Rattle.rule_model.specs.Setting.{Setting, Inner}
use Rattle.rule_nodes.specs.Short.{purse}
use Rattle.rule_nodes.specs.ShortTurns.{Loop, Point, from_part, many, point, row, script_at}
use Rattle.rule_nodes.specs.ShortTurns as short
use Rattle.rule_nodes.proofs.ShortTurns.{IsPoint, many_is}
use Rattle.rule_nodes.specs.Goes.{body_goes, next_goes}
use Rattle.rule_nodes.specs.declared.goes.Goes.TheVariants.{On}
use Rattle.frame_loops.specs.AtOnce.{DoesTurns, OnOff, Turns, are_scripts, ended, loop_at, part_then, part_view, turn_unit}
use Rattle.frames.specs.Children.{is_script}
use Rattle.frames.specs.Children.{all, child_at, commands_of}
use Rattle.frames.specs.Frames.{again, body_in, inner_of, inside, next_in, test_in}
use Rattle.frames.specs.Leafs.{leaf_code}
use Rattle.frame_loops.specs.Loops.{Parts, above, next_move, test_move}
use Rattle.frames.specs.Moves.{back_under, child_under, goes_on, stands, stop}
use Rattle.frames.specs.Owed.{is_flat, mode_owed, weight}
use Rattle.frames.specs.Reads.{Known, known}
use Rattle.frames.specs.Stills.{Change, Comes, Leads, Makes, Move, Tally, changes, move_after, moves, spends, spent}
use Rattle.frames.specs.declared.frame.Frame.{Frame}
use Rattle.frames.specs.declared.frame.Frame.TheVariants as frame
use Rattle.frames.specs.declared.frame.Mode.TheVariants as mode
use Rattle.frames.specs.declared.frame.Room.{Room}
use Rattle.frame_loops.specs.declared.loop_turns.Part as part
use Rattle.frame_loops.specs.declared.loop_turns.Part.TheVariants as code
use Rattle.frames.specs.declared.next.Next.{Next}
use Rattle.frame_loops.proofs.InLoops.{next_is, next_owes, parts_at, test_is, test_owes, turn_above}
use Rattle.frames.proofs.InStills.{Bounded, back_bounded, body_unheard, bounded_after, bounded_less, child_bounded, comes_as, comes_at}
use Rattle.frames.proofs.InStills.{comes_from, next_unheard, pass_bounded, stop_bounded, under, under_child, under_flat}
use Rattle.frame_loops.proofs.ShortParts.{no_zero}
use Rattle.frames.proofs.SoundMoves.{Sound}

-- a script's commands, as their list has them
row_is : {H : Type 0} (g : Setting H) (i : Inner H) (k : ℕ) (ts : Trees) → row g i k (all ts) ≡ evals g i free k ts
row_is g i k no_trees = refl
row_is g i k (and_tree t ts) = ap (λ ms. child free k t (eval g i t) ∷ ms) (row_is g i (k + 1) ts)

script_is : {H : Type 0} (g : Setting H) (i : Inner H) (place : ℕ) (t : Tree) (path : List ℕ) (st : State H) → is_script t ≡ true
    → child free place t (eval g i t) path st ≡ script_at g i place 0 (commands_of t) path st
script_is g i place (tree.script ts) path st e = rw (add-zero st.cost, row_is g i 0 ts) refl
script_is g i place other path st e = absurd (cc e)

-- what goes on alike
module _ {H : Type 0} where
  body_alike : (o : Outcome H) (go on : State H → Outcome H) → ((s : State H) → go s ≡ on s) → then_code o (after_body go) ≡ then_code o (after_body on)
  body_alike (Ends (Value v) st) go on h = h st
  body_alike (Ends (Raised f) st) go on h = refl
  body_alike (Ends (Return v) st) go on h = refl
  body_alike (Ends Break st) go on h = refl
  body_alike (Ends Continue st) go on h = h st
  body_alike (Waits path call st) go on h = refl

  next_alike : (o : Outcome H) (go on : State H → Outcome H) → ((s : State H) → go s ≡ on s) → then_code o (after_next go) ≡ then_code o (after_next on)
  next_alike (Ends (Value v) st) go on h = h st
  next_alike (Ends (Raised f) st) go on h = refl
  next_alike (Ends (Return v) st) go on h = refl
  next_alike (Ends Break st) go on h = refl
  next_alike (Ends Continue st) go on h = refl
  next_alike (Waits path call st) go on h = refl

  by_truth_alike : (x : Option Bool) (v : List ℕ) (go on : Bool → State H → Outcome H) (st : State H) → ((b : Bool) (s : State H) → go b s ≡ on b s)
      → by_truth x v go st ≡ by_truth x v on st
  by_truth_alike (Some b) v go on st h = h b st
  by_truth_alike Option.None v go on st h = refl

  truth_alike : (o : Outcome H) (go on : Bool → State H → Outcome H) → ((b : Bool) (s : State H) → go b s ≡ on b s) → then_truth o go ≡ then_truth o on
  truth_alike (Ends (Value v) st) go on h = by_truth_alike (truth v) v go on st h
  truth_alike (Ends (Raised f) st) go on h = refl
  truth_alike (Ends (Return v) st) go on h = refl
  truth_alike (Ends Break st) go on h = refl
  truth_alike (Ends Continue st) go on h = refl
  truth_alike (Waits path call st) go on h = refl

  if_alike : (b : Bool) (o p q : Outcome H) → p ≡ q → (if b then o else p) ≡ (if b then o else q)
  if_alike b o p q e = rw e refl

  -- a loop whose body and whose end of a turn are alike
  module _ (test body body' next next' : Meaning H) (same : (path : List ℕ) (s : State H) → body path s ≡ body' path s)
      (same_next : (path : List ℕ) (s : State H) → next path s ≡ next' path s) where
    behind_alike : (path : List ℕ) (go on : State H → Outcome H) → ((s : State H) → go s ≡ on s) → (s : State H)
        → then_code (next path s) (after_next go) ≡ then_code (next' path s) (after_next on)
    behind_alike path go on h s = rw (same_next path s) (next_alike (next' path s) go on h)

    both_alike : (path : List ℕ) (go on : State H → Outcome H) → ((s : State H) → go s ≡ on s) → (s : State H)
        → then_code (body path s) (after_body (λ b. then_code (next path b) (after_next go)))
        ≡ then_code (body' path s) (after_body (λ b. then_code (next' path b) (after_next on)))
    both_alike path go on h s = rw (same path s) (body_alike (body' path s) _ _ (behind_alike path go on h))

    turn_alike : (n : ℕ) (path : List ℕ) (b : Bool) (s : State H) → turn n test body next path b s ≡ turn n test body' next' path b s
    turn_alike n path false s = refl
    turn_alike zero path true s = refl
    turn_alike (suc n) path true s =
        if_alike (nat_eq s.budget 0) (Ends (Raised budget_spent) s) _ _
        (both_alike path (λ e. then_truth (test path e) (turn n test body next path)) (λ e. then_truth (test path e) (turn n test body' next' path))
        (λ e. truth_alike (test path e) _ _ (turn_alike n path)) (record s { budget = s.budget - 1; cost = s.cost + 1 }))

-- a loop from a part of it on
abbrev pub from_there : {H : Type 0} → Setting H → Inner H → Tree → part.Part → ℕ → Meaning H
from_there g i t code.Test n path st = again g i t n path st
from_there g i t code.Body n path st = then_code (body_in g i t 3 path st)
    (after_body (λ s. then_code (next_in g i t path s) (after_next (again g i t n path))))
from_there g i t code.Next n path st = then_code (next_in g i t path st) (after_next (again g i t n path))
from_there g i t code.Over n path st = Ends (Value []) st

both_true : (a b : Bool) → (a && b) ≡ true → (a ≡ true) × (b ≡ true)
both_true true true e = (refl, refl)
both_true true false e = absurd (cc e)
both_true false b e = absurd (cc e)

module _ {H : Type 0} (g : Setting H) (i : Inner H) (t : Tree) (s : are_scripts (parts_at t) ≡ true) where
  body_same : (path : List ℕ) (st : State H) → body_in g i t 3 path st ≡ script_at g i 3 0 (commands_of (child_at t 3)) path st
  body_same path st = script_is g i 3 (child_at t 3) path st (both_true (is_script (child_at t 3)) (is_script (child_at t 2)) s).0

  next_same : (path : List ℕ) (st : State H) → next_in g i t path st ≡ script_at g i 2 0 (commands_of (child_at t 2)) path st
  next_same path st = script_is g i 2 (child_at t 2) path st (both_true (is_script (child_at t 3)) (is_script (child_at t 2)) s).1

  again_same : (n : ℕ) (path : List ℕ) (st : State H) → again g i t n path st ≡ short.again g i (loop_at (parts_at t)) n path st
  again_same n path st =
      truth_alike (test_in g i t path st) _ _
      (turn_alike (test_in g i t) (body_in g i t 3) (script_at g i 3 0 (commands_of (child_at t 3))) (next_in g i t)
      (script_at g i 2 0 (commands_of (child_at t 2))) body_same next_same n path)

  part_same : (p : part.Part) (n : ℕ) (path : List ℕ) (st : State H)
      → from_there g i t p n path st ≡ from_part g i (loop_at (parts_at t)) (part_view (parts_at t) p) n path st
  part_same code.Test n path st = again_same n path st
  part_same code.Body n path st =
      both_alike (test_in g i t) (body_in g i t 3) (script_at g i 3 0 (commands_of (child_at t 3))) (next_in g i t)
      (script_at g i 2 0 (commands_of (child_at t 2))) body_same next_same
      path _ _ (again_same n path) st
  part_same code.Next n path st =
      behind_alike (test_in g i t) (body_in g i t 3) (script_at g i 3 0 (commands_of (child_at t 3))) (next_in g i t)
      (script_at g i 2 0 (commands_of (child_at t 2))) body_same next_same
      path _ _ (again_same n path) st
  part_same code.Over n path st = refl

-- the part is known by what is left of it
is_part : (l : Parts) (a b : part.Part) → part_view l a ≡ part_view l b → a ≡ b
is_part l code.Test code.Test e = refl
is_part l code.Test code.Body e = absurd (cc e)
is_part l code.Test code.Next e = absurd (cc e)
is_part l code.Test code.Over e = absurd (cc e)
is_part l code.Body code.Test e = absurd (cc e)
is_part l code.Body code.Body e = refl
is_part l code.Body code.Next e = absurd (cc e)
is_part l code.Body code.Over e = absurd (cc e)
is_part l code.Next code.Test e = absurd (cc e)
is_part l code.Next code.Body e = absurd (cc e)
is_part l code.Next code.Next e = refl
is_part l code.Next code.Over e = absurd (cc e)
is_part l code.Over code.Test e = absurd (cc e)
is_part l code.Over code.Body e = absurd (cc e)
is_part l code.Over code.Next e = absurd (cc e)
is_part l code.Over code.Over e = refl

module _ {H : Type 0} (g : Setting H) (i : Inner H) (t : Tree) where
  abbrev stands_at : part.Part → ℕ → Scopes → ℕ → H → List Reply → ℕ → List Act → List ℕ → Outcome H
  stands_at p n vars budget host more cost acts path = from_there g i t p n path (state vars host more budget cost acts)

  some_is : (a b : Point) → Some a ≡ Some b → a ≡ b
  some_is a b e = cc e

  -- nothing was done
  none_leads : (a b : part.Part) (n n' budget budget' paid : ℕ) (vars vars' : Scopes)
      → Some (point (part_view (parts_at t) a) n (purse vars budget 0)) ≡ Some (point (part_view (parts_at t) b) n' (purse vars' budget' paid))
      → (host : H) (more : List Reply) (cost : ℕ) (acts : List Act) (path : List ℕ)
      → stands_at a n vars budget host more cost acts path ≡ stands_at b n' vars' budget' host more (cost + paid) acts path
  none_leads a b n n' budget budget' paid vars vars' e host more cost acts path =
      let k = some_is _ _ e in
      let same = is_part (parts_at t) a b (ap (λ x. x.part) k) in
      let turns_are : n ≡ n' = ap (λ x. x.turns) k in
      let vars_are : vars ≡ vars' = ap (λ x. x.left.vars) k in
      let budgets_are : budget ≡ budget' = ap (λ x. x.left.budget) k in
      let unpaid : 0 ≡ paid = ap (λ x. x.left.cost) k in
      rw (same, turns_are, vars_are, budgets_are, ← unpaid, add-zero cost) refl

  point_is : (x : Point) (y : Option Point) (path : List ℕ) (host : H) (more : List Reply) (cost : ℕ) (acts : List Act) (o : Outcome H)
      → IsPoint host more cost acts g i (loop_at (parts_at t)) y path o → y ≡ Some x
      → o ≡ from_part g i (loop_at (parts_at t)) x.part x.turns path (state x.left.vars host more x.left.budget (cost + x.left.cost) acts)
  point_is x y path host more cost acts o h e = rw e at h

  some_lead : (s : are_scripts (parts_at t) ≡ true) (a b : part.Part) (m n n' budget budget' paid : ℕ) (vars vars' : Scopes)
      → many g.statics (loop_at (parts_at t)) m (point (part_view (parts_at t) a) n (purse vars budget 0))
      ≡ Some (point (part_view (parts_at t) b) n' (purse vars' budget' paid))
      → (host : H) (more : List Reply) (cost : ℕ) (acts : List Act) (path : List ℕ)
      → stands_at a n vars budget host more cost acts path ≡ stands_at b n' vars' budget' host more (cost + paid) acts path
  some_lead s a b m n n' budget budget' paid vars vars' e host more cost acts path =
      let x = point (part_view (parts_at t) a) n (purse vars budget 0) in
      let y = point (part_view (parts_at t) b) n' (purse vars' budget' paid) in
      part_same g i t s a n path (state vars host more budget cost acts)
      ∙ ap (λ k. from_part g i (loop_at (parts_at t)) (part_view (parts_at t) a) n path (state vars host more budget k acts)) (sym (add-zero cost))
      ∙ point_is y _ path host more cost acts _ (many_is host more cost acts g i (loop_at (parts_at t)) m x path) e
      ∙ sym (part_same g i t s b n' path (state vars' host more budget' (cost + paid) acts))

  lead_by : (a b : part.Part) (m n n' budget budget' paid : ℕ) (vars vars' : Scopes) → (nat_eq m 0 ≡ false → are_scripts (parts_at t) ≡ true)
      → many g.statics (loop_at (parts_at t)) m (point (part_view (parts_at t) a) n (purse vars budget 0))
      ≡ Some (point (part_view (parts_at t) b) n' (purse vars' budget' paid))
      → (host : H) (more : List Reply) (cost : ℕ) (acts : List Act) (path : List ℕ)
      → stands_at a n vars budget host more cost acts path ≡ stands_at b n' vars' budget' host more (cost + paid) acts path
  lead_by a b zero n n' budget budget' paid vars vars' s e = none_leads a b n n' budget budget' paid vars vars' e
  lead_by a b (suc m) n n' budget budget' paid vars vars' s e = some_lead (s (no_zero m)) a b (suc m) n n' budget budget' paid vars vars' e

  pub turns_lead : {a b : part.Part} {n n' budget budget' paid : ℕ} {vars vars' : Scopes}
      → DoesTurns g.statics (parts_at t) a b n n' vars budget 0 vars' budget' paid
      → (host : H) (more : List Reply) (cost : ℕ) (acts : List Act) (path : List ℕ)
      → stands_at a n vars budget host more cost acts path ≡ stands_at b n' vars' budget' host more (cost + paid) acts path
  turns_lead {a = a} {b = b} {n = n} {n' = n'} {budget = budget} {budget' = budget'} {paid = paid} {vars = vars} {vars' = vars'} d =
      let k : 0 + d.cost ≡ paid = sym d.paid_is in
      lead_by a b d.things n n' budget budget' paid vars vars' d.in_scripts (rw k at (d.does 0))

-- what is done behind the turns
module _ {H : Type 0} where
  next_above : (g : Setting H) (r : Room) (t : Tree) (n : ℕ) (path : List ℕ) (st : State H) (b : Bool) → is_flat (child_at t 2) ≡ b
      → under g r t (frame.Next n) path st ≡ stands g r t (above (known g.statics st.vars) (child_at t 2) (frame.Next n)) path st
  next_above g r t n path st true e = rw e (under_flat g r t (frame.Next n) path st e)
  next_above g r t n path st false e = rw e (under_child g r t (frame.Next n) path st refl)

module _ {H : Type 0} {g : Setting H} {r : Room} {w : Bool} {t : Tree} where
  test_then : {vars : Scopes} (n budget : ℕ) (b : Bool) → Comes g r w t (again g (inner_of g r) t n) vars budget
      (spent vars (if b then test_move (known g.statics vars) (parts_at t) n budget else spends budget (back_under (frame.Next n) (Value []))))
  test_then n budget true = test_is n budget
  test_then n budget false = comes_at (back_under (frame.Next n) (Value [])) (λ path host more cost acts. refl)

  next_then : {vars : Scopes} (n budget : ℕ) (b : Bool) → Comes g r w t (from_there g (inner_of g r) t code.Next n) vars budget
      (spent vars (if b then next_move (known g.statics vars) (parts_at t) n budget else spends budget
      (above (known g.statics vars) (child_at t 2) (frame.Next n))))
  next_then n budget true = next_is n budget (is_flat (child_at t 2)) refl
  next_then {vars = vars} n budget false = comes_at (above (known g.statics vars) (child_at t 2) (frame.Next n)) (λ path host more cost acts.
      let st = state vars host more budget cost acts in
      rw (add-zero cost)
      (sym (next_unheard (eval g (inner_of g r) (child_at t 2) (path ++ 2 ∷ []) st) (again g (inner_of g r) t n path))
      ∙ next_above g r t n path st (is_flat (child_at t 2)) refl))

  part_is : {vars : Scopes} (p : part.Part) (n budget ticks : ℕ) → Comes g r w t (from_there g (inner_of g r) t p n) vars budget
      (spent vars (part_then (known g.statics vars) (parts_at t) p n budget ticks))
  part_is code.Over n budget ticks = comes_at (stop (Value [])) (λ path host more cost acts. refl)
  part_is {vars = vars} code.Body n budget ticks = comes_at (above (known g.statics vars) (child_at t 3) (frame.Turn n)) (λ path host more cost acts.
      let st = state vars host more budget cost acts in
      rw (add-zero cost)
      (sym (body_unheard (eval g (inner_of g r) (child_at t 3) (path ++ 3 ∷ []) st)
      (λ s. then_code (next_in g (inner_of g r) t path s) (after_next (again g (inner_of g r) t n path))))
      ∙ turn_above g r t n path st (is_flat (child_at t 3)) refl))
  part_is code.Next n budget ticks = next_then n budget (nat_eq ticks 0)
  part_is code.Test n budget ticks = test_then n budget (nat_eq ticks 0)

  turns_come : {from : part.Part} {n budget : ℕ} {vars : Scopes} {c : Change} → Turns g.statics (parts_at t) from n vars budget c
      → Comes g r w t (from_there g (inner_of g r) t from n) vars budget c
  turns_come k = rw k.change_is
      (comes_from k.left.vars k.left.budget k.left.cost k.ticks (λ path host more cost acts. turns_lead g (inner_of g r) t k.does host more cost acts path)
      (part_is k.to k.turns' k.left.budget k.ticks))

-- what they owe
above_ready : (procedures : List Procedure) (t : Tree) (k : Known) (f : Frame) → weight f ≡ 1 → (b : Bool) → is_flat (inside procedures t f) ≡ b
    → Bounded procedures t 3 (moves (if b then back_under f (leaf_code k.statics k.vars (inside procedures t f)) else child_under f))
above_ready procedures t k f one true e = back_bounded f (leaf_code k.statics k.vars (inside procedures t f)) one
above_ready procedures t k f one false e = bounded_less (omega arith) (child_bounded f one e)

-- what ticked less than it paid pays for one more
paid_bounded : {procedures : List Procedure} {t : Tree} {m : Move} (cost ticks : ℕ) → ticks + 1 ≤ 3 * cost → Bounded procedures t 3 m
    → Bounded procedures t 2 (move_after cost ticks m)
paid_bounded {m = m} cost ticks h b = record { owes = let o = b.owes in omega (arith, h, o); ready = b.ready }

part_owes : {procedures : List Procedure} {t : Tree} (k : Known) (p : part.Part) (n budget ticks cost : ℕ) → ticks + turn_unit p ≤ cost
    → Bounded procedures t 2 (move_after cost ticks (part_then k (parts_at t) p n budget ticks).move)
part_owes k code.Over n budget ticks cost h = bounded_after cost ticks (omega (arith, h)) (stop_bounded (Value []))
part_owes {procedures = procedures} {t = t} k code.Body n budget ticks cost h =
    paid_bounded cost ticks (omega (arith, h)) (above_ready procedures t k (frame.Turn n) refl (is_flat (child_at t 3)) refl)
part_owes {t = t} k code.Next n budget zero cost h = bounded_after cost 0 (omega arith) (next_owes k n budget (is_flat (child_at t 2)) refl)
part_owes {procedures = procedures} {t = t} k code.Next n budget (suc m) cost h =
    rw (no_zero m) (paid_bounded cost (suc m) (omega (arith, h)) (above_ready procedures t k (frame.Next n) refl (is_flat (child_at t 2)) refl))
part_owes k code.Test n budget zero cost h = bounded_after cost 0 (omega arith) (test_owes k n budget)
part_owes k code.Test n budget (suc m) cost h =
    rw (no_zero m) (paid_bounded cost (suc m) (omega (arith, h)) (back_bounded (frame.Next n) (Value []) refl))

turns_owe : {procedures : List Procedure} {t : Tree} {statics : Option Level} {from : part.Part} {n budget : ℕ} {vars : Scopes} {c : Change}
    → Turns statics (parts_at t) from n vars budget c → Bounded procedures t 2 c.move
turns_owe {statics = statics} k = rw k.change_is (part_owes (known statics k.left.vars) k.to k.turns' k.left.budget k.ticks k.left.cost k.pays)

-- sound moves behind a part
module _ {H : Type 0} {g : Setting H} {r : Room} {w : Bool} {procedures : List Procedure} {t : Tree} {budget : ℕ} {vars : Scopes} {old new : Tally}
    {next : Next} where
  -- turns, and an end
  turns_sound : {whole : Meaning H} {from : part.Part} {n : ℕ}
      → ((path : List ℕ) (host : H) (more : List Reply) (cost : ℕ) (acts : List Act)
      → whole path (state vars host more budget cost acts) ≡ from_there g (inner_of g r) t from n path (state vars host more budget cost acts))
      → Makes (Turns g.statics (parts_at t) from n vars budget) old next new → Makes (Sound g r w procedures t whole 2 vars budget) old next new
  turns_sound same m =
      record { change = m.change; is = record { comes = comes_as same (turns_come m.is); bounded = turns_owe m.is }; leads = m.leads }

  end_sound : {whole : Meaning H} {n : ℕ} (c : Code)
      → ((path : List ℕ) (host : H) (more : List Reply) (cost : ℕ) (acts : List Act)
      → whole path (state vars host more budget cost acts) ≡ Ends c (state vars host more budget cost acts))
      → Bounded procedures t n (moves (stop c)) → Leads (changes budget vars (stop c)) old next new
      → Makes (Sound g r w procedures t whole n vars budget) old next new
  end_sound c same b l = record { change = changes budget vars (stop c); is = record { comes = comes_at (stop c) same; bounded = b }; leads = l }

  -- behind the body
  turn_goes_on : {left : ℕ} (c : Code) → (body_goes c ≡ On → Makes (Turns g.statics (parts_at t) code.Next left vars budget) old next new)
      → OnOff (body_goes c) (λ go. Leads (ended go c vars budget) old next new)
      → Makes (Sound g r w procedures t (goes_on g r t (frame.Turn left) c) (mode_owed (mode.Back c)) vars budget) old next new
  turn_goes_on (Value v) on off = turns_sound (λ path host more cost acts. refl) (on refl)
  turn_goes_on (Raised f) on off = end_sound (Raised f) (λ path host more cost acts. refl) (pass_bounded (Raised f)) off
  turn_goes_on (Return v) on off = end_sound (Return v) (λ path host more cost acts. refl) (pass_bounded (Return v)) off
  turn_goes_on Break on off = end_sound (Value []) (λ path host more cost acts. refl) (stop_bounded (Value [])) off
  turn_goes_on Continue on off = turns_sound (λ path host more cost acts. refl) (on refl)

  -- behind what comes after a turn
  next_goes_on : {left : ℕ} (c : Code) → (next_goes c ≡ On → Makes (Turns g.statics (parts_at t) code.Test left vars budget) old next new)
      → OnOff (next_goes c) (λ go. Leads (ended go c vars budget) old next new)
      → Makes (Sound g r w procedures t (goes_on g r t (frame.Next left) c) (mode_owed (mode.Back c)) vars budget) old next new
  next_goes_on (Value v) on off = turns_sound (λ path host more cost acts. refl) (on refl)
  next_goes_on (Raised f) on off = end_sound (Raised f) (λ path host more cost acts. refl) (pass_bounded (Raised f)) off
  next_goes_on (Return v) on off = end_sound (Return v) (λ path host more cost acts. refl) (pass_bounded (Return v)) off
  next_goes_on Break on off = end_sound (Value []) (λ path host more cost acts. refl) (stop_bounded (Value [])) off
  next_goes_on Continue on off = end_sound Continue (λ path host more cost acts. refl) (pass_bounded Continue) off

-- the same by the parts that the code reads
pub turn_went : {H : Type 0} (g : Setting H) (r : Room) (w : Bool) (t : Tree) (left : ℕ) (c : Code) (vars : Scopes) (budget : ℕ) (l : Parts) (old new : Tally)
    (next : Next) → l ≡ parts_at t → (body_goes c ≡ On → Makes (Turns g.statics l code.Next left vars budget) old next new)
    → OnOff (body_goes c) (λ go. Leads (ended go c vars budget) old next new)
    → Makes (Sound g r w g.procedures t (goes_on g r t (frame.Turn left) c) (mode_owed (mode.Back c)) vars budget) old next new
turn_went g r w t left c vars budget l old new next e on off = turn_goes_on c (rw e at on) off

pub next_went : {H : Type 0} (g : Setting H) (r : Room) (w : Bool) (t : Tree) (left : ℕ) (c : Code) (vars : Scopes) (budget : ℕ) (l : Parts) (old new : Tally)
    (next : Next) → l ≡ parts_at t → (next_goes c ≡ On → Makes (Turns g.statics l code.Test left vars budget) old next new)
    → OnOff (next_goes c) (λ go. Leads (ended go c vars budget) old next new)
    → Makes (Sound g r w g.procedures t (goes_on g r t (frame.Next left) c) (mode_owed (mode.Back c)) vars budget) old next new
next_went g r w t left c vars budget l old new next e on off = next_goes_on c (rw e at on) off
