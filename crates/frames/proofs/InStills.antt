-- What moves without a host come to, step by step.
use Rattle.std.proofs.Common.{◌≡◌, refl, ap, ◌∙◌, ℕ, ◌+◌, ◌*◌, ◌≤◌, List, ◌++◌, Bool, true, false, cond, arith, add-zero, add_assoc, append-nil}
use Rattle.px_bytes.specs.declared.fault.Reply.{Reply}
use Rattle.tcl_trees.specs.Procedures.{Procedure}
use Rattle.tcl_trees.specs.Tree.{Tree}
use Rattle.tcl_vars.specs.Scopes.{Scopes}
use Rattle.rule_model.specs.Control.{after_body, after_next, is_caught}
use Rattle.rule_model.specs.Evaluator.{eval}
use Rattle.rule_model.specs.Outcome.{Act, State, state, Outcome, Ends, Waits, Meaning, heard, then_code, then_value}
use Rattle.rule_model.specs.declared.code.Code.{Code}
use Rattle.rule_model.specs.declared.code.Code.TheVariants.{Value, Raised, Return, Break, Continue}
use Rattle.rule_model.specs.Setting.{Setting}
use Rattle.frames.specs.Frames.{apply, inner_of, inside, places, room_in, wants}
use Rattle.frames.specs.Leafs.{leaf_code}
use Rattle.frames.specs.Moves.{stands, stop, child_under, back_under, due, Ready}
use Rattle.frames.specs.Owed.{is_flat, mode_owed, weight}
use Rattle.frames.specs.Stills.{Move, Change, moves, changes, move_after, change_after, Comes}
use Rattle.frames.specs.declared.frame.Frame.{Frame}
use Rattle.frames.specs.declared.frame.Mode.TheVariants as mode
use Rattle.frames.specs.declared.frame.Room.{Room}
use Rattle.frames.specs.declared.next.Next.{Next}
use Rattle.frames.proofs.LeafViews.{leaf_eval}

module _ {H : Type 0} where
  -- what goes on behind a value doesn't hear which, where it needs none
  pub value_unheard : (o : Outcome H) (go : State H → Outcome H)
      → then_value (heard false o) (λ v st. go st) ≡ then_value o (λ v st. go st)
  value_unheard (Ends (Value v) st) go = refl
  value_unheard (Ends (Raised f) st) go = refl
  value_unheard (Ends (Return v) st) go = refl
  value_unheard (Ends Break st) go = refl
  value_unheard (Ends Continue st) go = refl
  value_unheard (Waits path call st) go = refl

  pub body_unheard : (o : Outcome H) (go : State H → Outcome H)
      → then_code (heard false o) (after_body go) ≡ then_code o (after_body go)
  body_unheard (Ends (Value v) st) go = refl
  body_unheard (Ends (Raised f) st) go = refl
  body_unheard (Ends (Return v) st) go = refl
  body_unheard (Ends Break st) go = refl
  body_unheard (Ends Continue st) go = refl
  body_unheard (Waits path call st) go = refl

  pub next_unheard : (o : Outcome H) (go : State H → Outcome H)
      → then_code (heard false o) (after_next go) ≡ then_code o (after_next go)
  next_unheard (Ends (Value v) st) go = refl
  next_unheard (Ends (Raised f) st) go = refl
  next_unheard (Ends (Return v) st) go = refl
  next_unheard (Ends Break st) go = refl
  next_unheard (Ends Continue st) go = refl
  next_unheard (Waits path call st) go = refl

  -- so much was paid before
  pub comes_paid : {g : Setting H} {r : Room} {w : Bool} {t : Tree} {m m' : Meaning H} {vars : Scopes}
      {budget : ℕ} {c : Change} (k n : ℕ) →
      ((path : List ℕ) (host : H) (more : List Reply) (cost : ℕ) (acts : List Act)
      → m path (state vars host more budget cost acts)
      ≡ m' path (state vars host more budget (cost + k) acts)) →
      Comes g r w t m' vars budget c → Comes g r w t m vars budget (change_after k n c)
  comes_paid {g = g} {r = r} {w = w} {c = c} k n e q = record {
    same = λ path host more cost acts.
        rw (← add_assoc cost k c.move.cost)
        (ap (heard w) (e path host more cost acts) ∙ q.same path host more (cost + k) acts);
  }

  -- the same where a unit of the budget was taken, or variables were set
  pub comes_from : {g : Setting H} {r : Room} {w : Bool} {t : Tree} {m m' : Meaning H} {vars : Scopes}
      {budget : ℕ} {c : Change} (after : Scopes) (rest k n : ℕ) →
      ((path : List ℕ) (host : H) (more : List Reply) (cost : ℕ) (acts : List Act)
      → m path (state vars host more budget cost acts) ≡ m' path (state after host more rest (cost + k) acts))
      → Comes g r w t m' after rest c → Comes g r w t m vars budget (change_after k n c)
  comes_from {g = g} {r = r} {w = w} {c = c} after rest k n e q = record {
    same = λ path host more cost acts.
        rw (← add_assoc cost k c.move.cost)
        (ap (heard w) (e path host more cost acts) ∙ q.same path host more (cost + k) acts);
  }

  pub comes_set : {g : Setting H} {r : Room} {w : Bool} {t : Tree} {m m' : Meaning H} {vars : Scopes}
      {budget : ℕ} {c : Change} (after : Scopes) →
      ((path : List ℕ) (host : H) (more : List Reply) (cost : ℕ) (acts : List Act)
      → m path (state vars host more budget cost acts) ≡ m' path (state after host more budget cost acts)) →
      Comes g r w t m' after budget c → Comes g r w t m vars budget c
  comes_set {w = w} after e q = record {
    same = λ path host more cost acts. ap (heard w) (e path host more cost acts)
        ∙ q.same path host more cost acts;
  }

  -- the same of another meaning
  pub comes_as : {g : Setting H} {r : Room} {w : Bool} {t : Tree} {m m' : Meaning H} {vars : Scopes}
      {budget : ℕ} {c : Change} →
      ((path : List ℕ) (host : H) (more : List Reply) (cost : ℕ) (acts : List Act)
      → m path (state vars host more budget cost acts) ≡ m' path (state vars host more budget cost acts)) →
      Comes g r w t m' vars budget c → Comes g r w t m vars budget c
  comes_as {w = w} e q = record {
    same = λ path host more cost acts. ap (heard w) (e path host more cost acts)
        ∙ q.same path host more cost acts;
  }

  -- where nothing is paid, the node comes to where it stands
  pub comes_at : {g : Setting H} {r : Room} {w : Bool} {t : Tree} {m : Meaning H} {vars : Scopes} {budget : ℕ}
      (next : Next) →
      ((path : List ℕ) (host : H) (more : List Reply) (cost : ℕ) (acts : List Act)
      → m path (state vars host more budget cost acts)
      ≡ stands g r t next path (state vars host more budget cost acts)) →
      Comes g r w t m vars budget (changes budget vars next)
  comes_at {w = w} next e = record
      { same = λ path host more cost acts. rw add-zero (ap (heard w) (e path host more cost acts)) }

  -- a child under a frame, which begins or has its end at once
  abbrev pub under : Setting H → Room → Tree → Frame → Meaning H
  under g r t f path st =
      apply g (inner_of g r) t path f
      (heard (wants f) (eval g (inner_of g r) (inside g.procedures t f) (path ++ places f) st))

  pub under_flat : (g : Setting H) (r : Room) (t : Tree) (f : Frame) (path : List ℕ) (st : State H)
      → is_flat (inside g.procedures t f) ≡ true →
      under g r t f path st ≡ stands g r t
      (back_under f (leaf_code g.statics st.vars (inside g.procedures t f))) path st
  under_flat g r t f path st e =
      rw (leaf_eval g (inner_of g r) (inside g.procedures t f) (path ++ places f) st e) refl

  pub under_child : (g : Setting H) (r : Room) (t : Tree) (f : Frame) (path : List ℕ) (st : State H)
      → room_in r f ≡ r →
      under g r t f path st ≡ stands g r t (child_under f) path st
  under_child g r t f path st e = rw (e, append-nil) refl

-- what a move owes, and that a child that begins has something to do
pub record Bounded (procedures : List Procedure) (t : Tree) (n : ℕ) (m : Move) : Type 0 where
  pub owes : m.ticks + due m.next ≤ n + 3 * m.cost
  pub ready : Ready procedures t m.next

pub bounded_after : {procedures : List Procedure} {t : Tree} {n : ℕ} {m : Move} (k x : ℕ) → x ≤ 3 * k
    → Bounded procedures t n m → Bounded procedures t n (move_after k x m)
bounded_after {m = m} k x e b = record { owes = let h = b.owes in omega (arith, h, e); ready = b.ready }

owes_by : (b : Bool) → cond b 2 0 ≤ 2
owes_by true = omega arith
owes_by false = omega arith

pub back_owes : (code : Code) → mode_owed (mode.Back code) ≤ 2
back_owes code = owes_by (is_caught code)

-- a node that is done, where it owes two, and one that hands its child's code on
pub stop_bounded : {procedures : List Procedure} {t : Tree} (code : Code)
    → Bounded procedures t 2 (moves (stop code))
stop_bounded code = record { owes = let h = back_owes code in omega (arith, h); ready = tt }

pub pass_bounded : {procedures : List Procedure} {t : Tree} (code : Code)
    → Bounded procedures t (mode_owed (mode.Back code)) (moves (stop code))
pass_bounded code = record { owes = omega arith; ready = tt }

-- a child that is done, and one that begins, under a frame of weight one
pub back_bounded : {procedures : List Procedure} {t : Tree} (f : Frame) (code : Code) → weight f ≡ 1
    → Bounded procedures t 3 (moves (back_under f code))
back_bounded f code e = record { owes = let h = back_owes code in omega (arith, h, e); ready = tt }

pub child_bounded : {procedures : List Procedure} {t : Tree} (f : Frame) → weight f ≡ 1
    → is_flat (inside procedures t f) ≡ false → Bounded procedures t 2 (moves (child_under f))
child_bounded f e h = record { owes = omega (arith, e); ready = h }

pub bounded_less : {procedures : List Procedure} {t : Tree} {n k : ℕ} {m : Move} → k ≤ n
    → Bounded procedures t k m → Bounded procedures t n m
bounded_less e b = record { owes = let h = b.owes in omega (arith, h, e); ready = b.ready }

-- what is paid at the beginning is worth three for each unit
pub bounded_name : {procedures : List Procedure} {t : Tree} {n : ℕ} {m : Move} (k : ℕ) → n ≤ 3 * k
    → Bounded procedures t n m → Bounded procedures t 0 (move_after k 0 m)
bounded_name k e b = record { owes = let h = b.owes in omega (arith, h, e); ready = b.ready }

-- a code that no `catch` takes owes nothing
none_owed : (code : Code) → is_caught code ≡ false → mode_owed (mode.Back code) ≤ 0
none_owed code e = rw e (omega arith)

pub missing_bounded : {procedures : List Procedure} {t : Tree} (code : Code) → is_caught code ≡ false
    → Bounded procedures t 0 (moves (stop code))
missing_bounded code e = bounded_less (none_owed code e) (pass_bounded code)
