-- What the turns of a `foreach` come to, and what they owe.
use Rattle.std.proofs.Common.{◌≡◌, refl, ◌∙◌, sym, ℕ, suc, zero, ◌+◌, ◌-◌, List, [], ◌∷◌, ◌++◌, Bool, true, false, cond, Option, Result, Ok, Err, Vec, arith, rules, add-zero, nat_eq}
use Rattle.std.specs.declared.alloc.Global.{Global}
use Rattle.px_bytes.specs.FaultText.{budget_spent}
use Rattle.px_bytes.specs.declared.fault.TclFault.{TclFault}
use Rattle.tcl_trees.specs.Procedures.{Procedure}
use Rattle.tcl_trees.specs.Tree.{Tree}
use Rattle.tcl_vars.specs.Scopes.{Level, Scopes}
use Rattle.rule_model.specs.Control.{after_body, row_loop, turn_assigned}
use Rattle.rule_model.specs.Evaluator.{eval}
use Rattle.rule_model.specs.Outcome.{State, state, Ends, Meaning, code_of, then_code, then_value}
use Rattle.rule_model.specs.declared.code.Code.{Code}
use Rattle.rule_model.specs.declared.code.Code.TheVariants.{Value, Raised, Return, Break, Continue}
use Rattle.rule_model.specs.Setting.{Setting}
use Rattle.rule_nodes.specs.Rows.{rows_view}
use Rattle.rule_nodes.specs.declared.rows.Row.{Row}
use Rattle.frames.specs.Children.{child_at}
use Rattle.frames.specs.Frames.{body_in, inner_of}
use Rattle.frames.specs.Leafs.{leaf_code}
use Rattle.frame_loops.specs.Loops.{above}
use Rattle.frames.specs.Moves.{goes_on, stands, stop}
use Rattle.frames.specs.Owed.{is_flat, mode_owed}
use Rattle.frames.specs.Reads.{Known, known}
use Rattle.frames.specs.Stills.{Change, moves, changes, change_after, Comes}
use Rattle.frame_moves.specs.Turns.{Turns, assigned_by, assigned_move, each_move, each_told}
use Rattle.frames.specs.declared.frame.Frame.TheVariants as frame
use Rattle.frames.specs.declared.frame.Mode.TheVariants as mode
use Rattle.frames.specs.declared.frame.Room.{Room}
use Rattle.frames.proofs.InStills.{Bounded, back_bounded, bounded_less, bounded_name, body_unheard, child_bounded, comes_as, comes_at, comes_from, comes_set, pass_bounded, stop_bounded, under, under_child, under_flat}

-- the turns of a tree whose body is the child of this number
abbrev pub turns_at : Option Level → Tree → (place : ℕ) → Vec Row Global → Turns
turns_at statics t place rows =
    record { statics = statics; place = place; body = child_at t place; rows = rows }

positive : (n : ℕ) → nat_eq (suc n) 0 ≡ false
positive n = search rules

pred : (n : ℕ) → suc n - 1 ≡ n
pred n = omega arith

module _ {H : Type 0} where
  abbrev loop_from : Setting H → Room → Tree → (place : ℕ) → Vec Row Global → (left number : ℕ) → Meaning H
  loop_from g r t place rows left number =
      row_loop g.statics (rows_view rows) (body_in g (inner_of g r) t place) left number

  body_above : (g : Setting H) (r : Room) (t : Tree) (place : ℕ) (rows : Vec Row Global) (number left : ℕ)
      (path : List ℕ) (st : State H) (b : Bool) → is_flat (child_at t place) ≡ b →
      under g r t (frame.Each place rows number left) path st
      ≡ stands g r t (above (known g.statics st.vars) (child_at t place) (frame.Each place rows number left))
      path st
  body_above g r t place rows number left path st true e =
      rw e (under_flat g r t (frame.Each place rows number left) path st e)
  body_above g r t place rows number left path st false e =
      rw e (under_child g r t (frame.Each place rows number left) path st refl)

  body_is : {g : Setting H} {r : Room} {w : Bool} {t : Tree} {vars : Scopes} {budget : ℕ} (place : ℕ)
      (rows : Vec Row Global) (number left : ℕ) →
      Comes g r w t (λ path st. then_code (body_in g (inner_of g r) t place path st)
      (after_body (loop_from g r t place rows left number path))) vars budget
      (changes budget vars (above (known g.statics vars) (child_at t place)
      (frame.Each place rows number left)))
  body_is {g = g} {r = r} {t = t} {vars = vars} {budget = budget} place rows number left =
      comes_at (above (known g.statics vars) (child_at t place) (frame.Each place rows number left))
      (λ path host more cost acts.
      let st = state vars host more budget cost acts in
      rw (add-zero cost) (sym (body_unheard (eval g (inner_of g r) (child_at t place) (path ++ place ∷ []) st)
      (loop_from g r t place rows left number path))
      ∙ body_above g r t place rows number left path st (is_flat (child_at t place)) refl))

  assigned_is : {g : Setting H} {r : Room} {w : Bool} {t : Tree} {vars : Scopes} {budget : ℕ} (place : ℕ)
      (rows : Vec Row Global) (number n : ℕ) (x : Result (List ℕ) TclFault) (after : Scopes) →
      Comes g r w t (λ path st. then_value (Ends (code_of x) (record st { vars = after }))
      (λ v s. then_code (body_in g (inner_of g r) t place path s)
      (after_body (loop_from g r t place rows n (number + 1) path)))) vars budget
      (assigned_by (turns_at g.statics t place rows) number (suc n) budget x after)
  assigned_is place rows number n (Ok v) after =
      rw (pred n) (comes_set after (λ path host more cost acts. refl) (body_is place rows (number + 1) n))
  assigned_is place rows number n (Err f) after =
      comes_set {m' = λ path st. Ends (Raised f) st} after (λ path host more cost acts. refl)
      (comes_at (stop (Raised f)) (λ path host more cost acts. refl))

  -- the turn of a number, where so many are left
  pub turn_is : {g : Setting H} {r : Room} {w : Bool} {t : Tree} {vars : Scopes} (place : ℕ)
      (rows : Vec Row Global) (number left budget : ℕ) →
      Comes g r w t (loop_from g r t place rows left number) vars budget
      (each_move (turns_at g.statics t place rows) number left budget vars)
  turn_is place rows number zero budget = comes_at (stop (Value [])) (λ path host more cost acts. refl)
  turn_is place rows number (suc n) zero =
      rw (positive n) (comes_at (stop (Raised budget_spent)) (λ path host more cost acts. refl))
  turn_is {g = g} {r = r} {t = t} {vars = vars} place rows number (suc n) (suc b) =
      let c = turn_assigned g.statics number (rows_view rows) vars in
      rw (positive n, positive b, pred b)
      (comes_from vars b 1 0 (λ path host more cost acts. rw (positive b, pred b) refl)
      (assigned_is place rows number n c.value c.vars))

  -- behind the body
  pub each_goes : {g : Setting H} {r : Room} {w : Bool} {t : Tree} {vars : Scopes} (place : ℕ)
      (rows : Vec Row Global) (number left budget : ℕ) (code : Code) →
      Comes g r w t (goes_on g r t (frame.Each place rows number left) code) vars budget
      (each_told (turns_at g.statics t place rows) number left budget code vars)
  each_goes place rows number left budget (Value v) =
      comes_as (λ path host more cost acts. refl) (turn_is place rows number left budget)
  each_goes place rows number left budget (Raised f) =
      comes_at (stop (Raised f)) (λ path host more cost acts. refl)
  each_goes place rows number left budget (Return v) =
      comes_at (stop (Return v)) (λ path host more cost acts. refl)
  each_goes place rows number left budget Break =
      comes_at (stop (Value [])) (λ path host more cost acts. refl)
  each_goes place rows number left budget Continue =
      comes_as (λ path host more cost acts. refl) (turn_is place rows number left budget)

-- what they owe
body_owes : {procedures : List Procedure} {t : Tree} (k : Known) (place : ℕ) (rows : Vec Row Global)
    (number left : ℕ) (b : Bool) → is_flat (child_at t place) ≡ b →
    Bounded procedures t 3 (moves (above k (child_at t place) (frame.Each place rows number left)))
body_owes {t = t} k place rows number left true e =
    rw e (back_bounded (frame.Each place rows number left) (leaf_code k.statics k.vars (child_at t place))
    refl)
body_owes k place rows number left false e =
    rw e (bounded_less (omega arith) (child_bounded (frame.Each place rows number left) refl e))

assigned_owes : {procedures : List Procedure} {t : Tree} (statics : Option Level) (place : ℕ)
    (rows : Vec Row Global) (number left budget : ℕ) (x : Result (List ℕ) TclFault) (after : Scopes) →
    Bounded procedures t 3 (assigned_by (turns_at statics t place rows) number left budget x after).move
assigned_owes {t = t} statics place rows number left budget (Ok v) after =
    body_owes (known statics after) place rows (number + 1) (left - 1) (is_flat (child_at t place)) refl
assigned_owes statics place rows number left budget (Err f) after =
    bounded_less (omega arith) (stop_bounded (Raised f))

turn_case : {procedures : List Procedure} {t : Tree} (budget : ℕ) (vars : Scopes) (c : Change) (a b : Bool)
    → Bounded procedures t 3 c.move →
    Bounded procedures t 2 (cond a (changes budget vars (stop (Value [])))
    (cond b (changes budget vars (stop (Raised budget_spent))) (change_after 1 0 c))).move
turn_case budget vars c true b h = stop_bounded (Value [])
turn_case budget vars c false true h = stop_bounded (Raised budget_spent)
turn_case budget vars c false false h = bounded_less (omega arith) (bounded_name 1 (omega arith) h)

pub turn_owes : {procedures : List Procedure} {t : Tree} (statics : Option Level) (place : ℕ)
    (rows : Vec Row Global) (number left budget : ℕ) (vars : Scopes) →
    Bounded procedures t 2 (each_move (turns_at statics t place rows) number left budget vars).move
turn_owes {t = t} statics place rows number left budget vars =
    let c = turn_assigned statics number (rows_view rows) vars in
    turn_case budget vars (assigned_move (turns_at statics t place rows) number left (budget - 1) c)
    (nat_eq left 0) (nat_eq budget 0)
    (assigned_owes statics place rows number left (budget - 1) c.value c.vars)

pub each_goes_owes : {procedures : List Procedure} {t : Tree} (statics : Option Level) (place : ℕ)
    (rows : Vec Row Global) (number left budget : ℕ) (code : Code) (vars : Scopes) →
    Bounded procedures t (mode_owed (mode.Back code))
    (each_told (turns_at statics t place rows) number left budget code vars).move
each_goes_owes statics place rows number left budget (Value v) vars =
    turn_owes statics place rows number left budget vars
each_goes_owes statics place rows number left budget (Raised f) vars = pass_bounded (Raised f)
each_goes_owes statics place rows number left budget (Return v) vars = pass_bounded (Return v)
each_goes_owes statics place rows number left budget Break vars = stop_bounded (Value [])
each_goes_owes statics place rows number left budget Continue vars =
    turn_owes statics place rows number left budget vars
