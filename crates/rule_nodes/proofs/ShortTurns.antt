-- Turns of a loop that are done at once are those that the evaluator makes, for every host.
use Rattle.std.proofs.Common.{◌≡◌, refl, ap, ℕ, zero, suc, ◌+◌, ◌-◌, List, [], ◌∷◌, ◌++◌, Bool, true, false, Option, Some, None, nat_eq, add_assoc}
use Rattle.std.specs.Prelude.{if◌then◌else◌}
use Rattle.px_bytes.specs.FaultText.{budget_spent}
use Rattle.px_bytes.specs.declared.fault.Reply.{Reply}
use Rattle.tcl_trees.specs.Tree.{Tree}
use Rattle.tcl_expr.specs.Truth.{truth}
use Rattle.rule_model.specs.Children.{alone, child}
use Rattle.rule_model.specs.Control.{after_body, after_next, turn}
use Rattle.rule_model.specs.Evaluator.{eval}
use Rattle.rule_model.specs.Expressions.{by_truth, then_truth}
use Rattle.rule_model.specs.Outcome.{Act, State, state, Outcome, Ends, Meaning, then_code}
use Rattle.rule_model.specs.Setting.{Setting, Inner}
use Rattle.rule_model.specs.Words.{commands}
use Rattle.rule_model.specs.declared.code.Code.TheVariants.{Raised}
use Rattle.rule_nodes.specs.Short.{Purse, Shortly, purse, short, short_command, where_some}
use Rattle.rule_nodes.specs.ShortTurns.{Body, Loop, Next, Over, Part, Point, Test, again, behind, from_part, many, once, point, row, script_at, turn_once}
use Rattle.rule_nodes.proofs.ShortEvals.{Is, short_is, state_of}
use Rattle.rule_nodes.proofs.ShortFronts.{IsOnce, command_is}

module _ {H : Type 0} (host : H) (more : List Reply) (before : ℕ) (acts : List Act) (g : Setting H) (i : Inner H) (l : Loop) where
  abbrev at : Purse → State H
  at p = state_of host more before acts p

  -- where there is a point, the loop comes to the same from there
  abbrev pub IsPoint : Option Point → List ℕ → Outcome H → Type 0
  IsPoint None path o = Unit {0}
  IsPoint (Some x) path o = o ≡ from_part g i l x.part x.turns path (at x.left)

  -- the last value isn't heard
  body_value : (ms : List (Meaning H)) (w path : List ℕ) (st : State H) (go : State H → Outcome H)
      → then_code (commands ms w path st) (after_body go) ≡ then_code (commands ms [] path st) (after_body go)
  body_value [] w path st go = refl
  body_value (m ∷ ms) w path st go = refl

  next_value : (ms : List (Meaning H)) (w path : List ℕ) (st : State H) (go : State H → Outcome H)
      → then_code (commands ms w path st) (after_next go) ≡ then_code (commands ms [] path st) (after_next go)
  next_value [] w path st go = refl
  next_value (m ∷ ms) w path st go = refl

  body_by : (x : Option Shortly) (k n : ℕ) (ts : List Tree) (path : List ℕ) (p : Purse) (o : Outcome H)
      → IsOnce host more before acts g i x p (λ w s. commands (row g i (k + 1) ts) w (path ++ 3 ∷ []) s) o
      → IsPoint (where_some x (λ s. Some (point (Body (k + 1) ts) n (behind p s.left)))) path
      (then_code o (after_body (λ s. then_code (script_at g i 2 0 l.next path s) (after_next (again g i l n path)))))
  body_by None k n ts path p o h = tt
  body_by (Some s) k n ts path p o h = rw h (body_value (row g i (k + 1) ts) s.value (path ++ 3 ∷ []) (at (behind p s.left)) _)

  next_by : (x : Option Shortly) (k n : ℕ) (ts : List Tree) (path : List ℕ) (p : Purse) (o : Outcome H)
      → IsOnce host more before acts g i x p (λ w s. commands (row g i (k + 1) ts) w (path ++ 2 ∷ []) s) o
      → IsPoint (where_some x (λ s. Some (point (Next (k + 1) ts) n (behind p s.left)))) path (then_code o (after_next (again g i l n path)))
  next_by None k n ts path p o h = tt
  next_by (Some s) k n ts path p o h = rw h (next_value (row g i (k + 1) ts) s.value (path ++ 2 ∷ []) (at (behind p s.left)) _)

  turning : ℕ → List ℕ → Bool → State H → Outcome H
  turning n path = turn n (child alone 1 l.test (eval g i l.test)) (script_at g i 3 0 l.body) (script_at g i 2 0 l.next) path

  if_point : (b : Bool) (x : Option Point) (path : List ℕ) (o other : Outcome H) → IsPoint x path o
      → IsPoint (if b then None else x) path (if b then other else o)
  if_point true x path o other h = tt
  if_point false x path o other h = h

  unit_paid : (p : Purse) → state p.vars host more (p.budget - 1) ((before + p.cost) + 1) acts ≡ at (purse p.vars (p.budget - 1) (p.cost + 1))
  unit_paid p = rw (add_assoc before p.cost 1) refl

  turn_is : (holds : Bool) (n : ℕ) (path : List ℕ) (p : Purse)
      → IsPoint (turn_once l holds n p) path (turn n (child alone 1 l.test (eval g i l.test)) (script_at g i 3 0 l.body) (script_at g i 2 0 l.next) path holds
      (at p))
  turn_is false n path p = refl
  turn_is true zero path p = tt
  turn_is true (suc n) path p =
      if_point (nat_eq p.budget 0) (Some (point (Body 0 l.body) n (purse p.vars (p.budget - 1) (p.cost + 1)))) path
      (from_part g i l (Body 0 l.body) n path (state p.vars host more (p.budget - 1) ((before + p.cost) + 1) acts)) (Ends (Raised budget_spent) (at p))
      (ap (λ s. from_part g i l (Body 0 l.body) n path s) (unit_paid p))

  truth_is : (x : Option Bool) (v : List ℕ) (n : ℕ) (path : List ℕ) (p : Purse)
      → IsPoint (where_some x (λ holds. turn_once l holds n p)) path
      (by_truth x v (turn n (child alone 1 l.test (eval g i l.test)) (script_at g i 3 0 l.body) (script_at g i 2 0 l.next) path) (at p))
  truth_is None v n path p = tt
  truth_is (Some holds) v n path p = turn_is holds n path p

  test_by : (x : Option Shortly) (n : ℕ) (path : List ℕ) (p : Purse) (o : Outcome H) → Is host more (before + p.cost) acts x o
      → IsPoint (where_some x (λ s. where_some (truth s.value) (λ holds. turn_once l holds n (behind p s.left)))) path
      (then_truth o (turn n (child alone 1 l.test (eval g i l.test)) (script_at g i 3 0 l.body) (script_at g i 2 0 l.next) path))
  test_by None n path p o h = tt
  test_by (Some s) n path p o h = rw (h, add_assoc before p.cost s.left.cost) (truth_is (truth s.value) s.value n path (behind p s.left))

  pub once_is : (part : Part) (n : ℕ) (path : List ℕ) (p : Purse) → IsPoint (once g.statics l part n p) path (from_part g i l part n path (at p))
  once_is Test n path p =
      test_by (short g.statics l.test (purse p.vars p.budget (alone l.test))) n path p (child alone 1 l.test (eval g i l.test) path (at p))
      (short_is host more (before + p.cost) acts g i l.test (path ++ 1 ∷ []) (purse p.vars p.budget (alone l.test)))
  once_is (Body k []) n path p = refl
  once_is (Body k (t ∷ ts)) n path p =
      body_by (short_command g.statics t (purse p.vars p.budget 0)) k n ts path p _
      (command_is host more before acts g i k t (row g i (k + 1) ts) [] (path ++ 3 ∷ []) p)
  once_is (Next k []) n path p = refl
  once_is (Next k (t ∷ ts)) n path p =
      next_by (short_command g.statics t (purse p.vars p.budget 0)) k n ts path p _
      (command_is host more before acts g i k t (row g i (k + 1) ts) [] (path ++ 2 ∷ []) p)
  once_is Over n path p = tt

  then_many : (x : Option Point) (go : Point → Option Point) (path : List ℕ) (o : Outcome H) → IsPoint x path o
      → ((y : Point) → IsPoint (go y) path (from_part g i l y.part y.turns path (at y.left))) → IsPoint (where_some x go) path o
  then_many None go path o e h = tt
  then_many (Some y) go path o e h = rw e (h y)

  pub many_is : (m : ℕ) (x : Point) (path : List ℕ) → IsPoint (many g.statics l m x) path (from_part g i l x.part x.turns path (at x.left))
  many_is zero x path = refl
  many_is (suc m) x path = then_many (once g.statics l x.part x.turns x.left) (many g.statics l m) path _ (once_is x.part x.turns path x.left)
      (λ y. many_is m y path)
