-- What the moves of a row come to, and what they owe.
use Rattle.std.proofs.Common.{◌≡◌, refl, ap, ◌∙◌, ℕ, suc, zero, ◌+◌, ◌≤◌, List, [], ◌∷◌, ◌++◌, map, drop, get_or, Bool, true, false, cond, Option, Some, None, Result, Ok, Err, arith, add-zero, add_assoc}
use Rattle.px_bytes.specs.declared.fault.Reply.{Reply}
use Rattle.px_bytes.specs.declared.fault.TclFault.{TclFault}
use Rattle.tcl_expr.specs.declared.expr.Joint.{Joint}
use Rattle.tcl_expr.specs.declared.expr.Joint.TheVariants.{Both, And, Or}
use Rattle.tcl_trees.specs.Procedures.{Procedure}
use Rattle.tcl_trees.specs.Tree.{Tree, Operands}
use Rattle.tcl_trees.specs.Tree as tree
use Rattle.tcl_vars.specs.Scopes.{Scopes}
use Rattle.rule_model.specs.Children.{child, one}
use Rattle.rule_model.specs.Evaluator.{eval, joints}
use Rattle.rule_model.specs.Expressions.{by_value, decided, decided_by, joined_value, joint_value, operands}
use Rattle.rule_model.specs.Outcome.{Act, state, Ends, Meaning, then_value}
use Rattle.rule_model.specs.declared.code.Code.{Code}
use Rattle.rule_model.specs.declared.code.Code.TheVariants.{Value, Raised, Return, Break, Continue}
use Rattle.rule_model.specs.Setting.{Setting, Inner}
use Rattle.rule_nodes.specs.Operators.{joint_ticks}
use Rattle.frames.specs.Children.{behind, child_at}
use Rattle.frames.specs.Counted.{Counted, given, counted_after}
use Rattle.frames.specs.Frames.{inner_of, joints_in}
use Rattle.frames.specs.Leafs.{leaf_code}
use Rattle.frames.specs.Moves.{begins, goes_on, stands, stop, child_under, back_under}
use Rattle.frames.specs.Owed.{is_flat, mode_owed}
use Rattle.frames.specs.Reads.{Known, known}
use Rattle.frame_loops.specs.Rows.{most_operators, listed, row_of, unless_decided, joins_to, right_by, right_joined, joined_to, on_joined, row_from, rowed_next, rowed_move, rest_move, left_told, joined_move, right_told, row_move}
use Rattle.frames.specs.Stills.{moves, move_after, still, Comes}
use Rattle.frames.specs.declared.frame.Frame.TheVariants as frame
use Rattle.frames.specs.declared.frame.Mode.TheVariants as mode
use Rattle.frames.specs.declared.frame.Room.{Room}
use Rattle.frame_loops.specs.declared.rows.Joined.{Joined}
use Rattle.frame_loops.specs.declared.rows.Joined.TheVariants as joined
use Rattle.frame_loops.specs.declared.rows.Rowed.{Rowed}
use Rattle.frame_loops.specs.declared.rows.Rowed.TheVariants as rowed
use Rattle.frames.proofs.Heard.{heard_true}
use Rattle.frames.proofs.LeafViews.{leaf_eval}
use Rattle.frames.proofs.InStills.{Bounded, back_owes, bounded_less, bounded_name, child_bounded, comes_as, comes_at, comes_paid, pass_bounded, stop_bounded}

-- the operand of a number, as a child
behind_listed : (os : Operands) → behind os ≡ map (λ o. o.1) (listed os)
behind_listed tree.no_operands = refl
behind_listed (tree.and_operand j t os) = ap (λ l. t ∷ l) (behind_listed os)

get_here : (all : List (Joint × Tree)) (at : ℕ) (o : Joint × Tree) (os : List (Joint × Tree)) (d : Tree)
    → drop at all ≡ o ∷ os → get_or (map (λ o. o.1) all) at d ≡ o.1
get_here [] zero o os d e = absurd (cc e)
get_here [] (suc at) o os d e = absurd (cc e)
get_here (p ∷ ps) zero o os d e = ap (λ l. get_or (map (λ o. o.1) l) 0 d) e
get_here (p ∷ ps) (suc at) o os d e = get_here ps at o os d e

pub drop_next : {A : Type 0} (all : List A) (at : ℕ) (o : A) (os : List A) → drop at all ≡ o ∷ os
    → drop (at + 1) all ≡ os
drop_next [] zero o os e = absurd (cc e)
drop_next [] (suc at) o os e = absurd (cc e)
drop_next (p ∷ ps) zero o os e = cc e
drop_next (p ∷ ps) (suc at) o os e =
    let n : suc at + 1 ≡ suc (at + 1) = omega arith in
    rw n (drop_next ps at o os e)

none_left : {A : Type 0} (at : ℕ) (o : A) (os : List A) → drop {A = A} at [] ≡ o ∷ os → ⊥
none_left zero o os e = cc e
none_left (suc at) o os e = cc e

child_behind : (t : Tree) (at : ℕ) (o : Joint × Tree) (os : List (Joint × Tree)) → drop at (row_of t) ≡ o ∷ os
    → child_at t (at + 1) ≡ o.1
child_behind (tree.row u us) at o os e =
    let n : at + 1 ≡ suc at = omega arith in
    rw n (ap (λ l. get_or l at (tree.row u us)) (behind_listed us)
    ∙ get_here (listed us) at o os (tree.row u us) e)
child_behind other at o os e = absurd (none_left at o os e)

module _ {H : Type 0} where
  -- operands from the child of a number on
  abbrev pub joints_on : Setting H → Inner H → ℕ → List (Joint × Tree) → List (Joint × Meaning H)
  joints_on g i k [] = []
  joints_on g i k (o ∷ os) = (o.0, child one k o.1 (eval g i o.1)) ∷ joints_on g i (k + 1) os

  pub joints_listed : (g : Setting H) (i : Inner H) (k : ℕ) (os : Operands)
      → joints g i k os ≡ joints_on g i k (listed os)
  joints_listed g i k tree.no_operands = refl
  joints_listed g i k (tree.and_operand j t os) =
      ap (λ l. (j, child one k t (eval g i t)) ∷ l) (joints_listed g i (k + 1) os)

  joints_all : (g : Setting H) (i : Inner H) (t : Tree) → joints_in g i t ≡ joints_on g i 1 (row_of t)
  joints_all g i (tree.row u us) = joints_listed g i 1 us
  joints_all g i other = refl

  drop_joints : (g : Setting H) (i : Inner H) (at k : ℕ) (os : List (Joint × Tree))
      → drop at (joints_on g i k os) ≡ joints_on g i (k + at) (drop at os)
  drop_joints g i zero k os = rw (add-zero k) refl
  drop_joints g i (suc at) k [] = refl
  drop_joints g i (suc at) k (o ∷ os) =
      let e : k + 1 + at ≡ k + suc at = omega arith in
      drop_joints g i at (k + 1) os ∙ ap (λ n. joints_on g i n (drop at os)) e

  joints_from : (g : Setting H) (i : Inner H) (t : Tree) (at : ℕ)
      → drop at (joints_in g i t) ≡ joints_on g i (at + 1) (drop at (row_of t))
  joints_from g i t at =
      let e : 1 + at ≡ at + 1 = omega arith in
      ap (drop at) (joints_all g i t) ∙ drop_joints g i at 1 (row_of t)
      ∙ ap (λ n. joints_on g i n (drop at (row_of t))) e

  -- what one operator leads to
  abbrev joined_out : Setting H → Room → Tree → (List ℕ → Meaning H) → Joined → Meaning H
  joined_out g r t go (joined.Goes v) path st = go v path st
  joined_out g r t go (joined.Ends rowed) path st = stands g r t (rowed_next rowed) path st

  record Joins (g : Setting H) (r : Room) (t : Tree) (go : List ℕ → Meaning H) (whole : Meaning H)
      (vars : Scopes) (budget : ℕ) (c : Counted Joined) : Type 0 where
    same : (path : List ℕ) (host : H) (more : List Reply) (cost : ℕ) (acts : List Act) →
        whole path (state vars host more budget cost acts)
        ≡ joined_out g r t go c.value path (state vars host more budget (cost + c.cost) acts)

  joins_at : {g : Setting H} {r : Room} {t : Tree} {go : List ℕ → Meaning H} {m : Meaning H} {vars : Scopes}
      {budget : ℕ} (j : Joined) (n : ℕ) →
      ((path : List ℕ) (host : H) (more : List Reply) (cost : ℕ) (acts : List Act)
      → m path (state vars host more budget cost acts)
      ≡ joined_out g r t go j path (state vars host more budget cost acts)) →
      Joins g r t go m vars budget (counted_after 0 n (given j))
  joins_at j n e = record {
    same =
        λ path host more cost acts. rw (add-zero cost) (e path host more cost acts);
  }

  joins_paid : {g : Setting H} {r : Room} {t : Tree} {go : List ℕ → Meaning H} {m m' : Meaning H}
      {vars : Scopes} {budget : ℕ} {c : Counted Joined} (k n : ℕ) →
      ((path : List ℕ) (host : H) (more : List Reply) (cost : ℕ) (acts : List Act)
      → m path (state vars host more budget cost acts)
      ≡ m' path (state vars host more budget (cost + k) acts)) →
      Joins g r t go m' vars budget c → Joins g r t go m vars budget (counted_after k n c)
  joins_paid {c = c} k n e q = record {
    same = λ path host more cost acts. rw (← add_assoc cost k c.cost)
        (e path host more cost acts ∙ q.same path host more (cost + k) acts);
  }

  joins_as : {g : Setting H} {r : Room} {t : Tree} {go : List ℕ → Meaning H} {m : Meaning H} {vars : Scopes}
      {budget : ℕ} {c d : Counted Joined} → c ≡ d →
      Joins g r t go m vars budget c → Joins g r t go m vars budget d
  joins_as e q = record { same = λ path host more cost acts. rw (← e) (q.same path host more cost acts) }

  -- the right operand's value
  value_joins : {g : Setting H} {r : Room} {t : Tree} {go : List ℕ → Meaning H} {vars : Scopes} {budget : ℕ}
      (x : Result (List ℕ) TclFault) (n : ℕ) →
      Joins g r t go (λ path st. by_value x (λ v s. go v path s) st) vars budget
      (counted_after 0 n (given (joins_to x)))
  value_joins (Ok v) n = joins_at (joined.Goes v) n (λ path host more cost acts. refl)
  value_joins (Err f) n = joins_at (joined.Ends (rowed.Done (Raised f))) n (λ path host more cost acts. refl)

  code_joins : {g : Setting H} {r : Room} {t : Tree} {go : List ℕ → Meaning H} {vars : Scopes} {budget : ℕ}
      (joint : Joint) (left : List ℕ) (code : Code) →
      Joins g r t go (λ path st. then_value (Ends code st) (joined_value go joint left path)) vars budget
      (right_by joint left code)
  code_joins joint left (Value right) = value_joins (joint_value joint left right) (joint_ticks joint)
  code_joins joint left (Raised f) =
      joins_at (joined.Ends (rowed.Done (Raised f))) 0 (λ path host more cost acts. refl)
  code_joins joint left (Return v) =
      joins_at (joined.Ends (rowed.Done (Return v))) 0 (λ path host more cost acts. refl)
  code_joins joint left Break = joins_at (joined.Ends (rowed.Done Break)) 0 (λ path host more cost acts. refl)
  code_joins joint left Continue =
      joins_at (joined.Ends (rowed.Done Continue)) 0 (λ path host more cost acts. refl)

  -- the operand that this frame waits for, and what is left behind it
  abbrev rest_of : Setting H → Room → Tree → ℕ → List ℕ → Meaning H
  rest_of g r t at = operands (drop at (joints_in g (inner_of g r) t))

  right_case : {g : Setting H} {r : Room} {t : Tree} {vars : Scopes} {budget : ℕ} (at : ℕ) (joint : Joint)
      (left : List ℕ) (b : Bool) → is_flat (child_at t at) ≡ b →
      Joins g r t (rest_of g r t at)
      (λ path st. then_value (eval g (inner_of g r) (child_at t at) (path ++ at ∷ []) st)
      (joined_value (rest_of g r t at) joint left path)) vars budget
      (right_joined (known g.statics vars) at joint (child_at t at) left)
  right_case {g = g} {r = r} {t = t} {vars = vars} {budget = budget} at joint left true e =
      let q = code_joins joint left (leaf_code g.statics vars (child_at t at)) in
      rw e (record {
        same = λ path host more cost acts.
            ap (λ o. then_value o (joined_value (rest_of g r t at) joint left path))
            (leaf_eval g (inner_of g r) (child_at t at) (path ++ at ∷ [])
            (state vars host more budget cost acts) e)
            ∙ q.same path host more cost acts;
      })
  right_case at joint left false e =
      rw e (joins_at (joined.Ends (rowed.Child at joint left)) 0
      (λ path host more cost acts. rw heard_true refl))

  decided_joins : {g : Setting H} {r : Room} {t : Tree} {vars : Scopes} {budget : ℕ} (at : ℕ) (joint : Joint)
      (left : List ℕ) (x : Result (Option (List ℕ)) TclFault) →
      Joins g r t (rest_of g r t at)
      (λ path st. decided x (λ s. then_value
      (child one at (child_at t at) (eval g (inner_of g r) (child_at t at)) path s)
      (joined_value (rest_of g r t at) joint left path)) st) vars budget
      (unless_decided x (counted_after 1 0
      (right_joined (known g.statics vars) at joint (child_at t at) left)))
  decided_joins {t = t} at joint left (Ok None) =
      joins_paid 1 0 (λ path host more cost acts. refl)
      (right_case at joint left (is_flat (child_at t at)) refl)
  decided_joins at joint left (Ok (Some v)) =
      joins_at (joined.Ends (rowed.Done (Value v))) 0 (λ path host more cost acts. refl)
  decided_joins at joint left (Err f) =
      joins_at (joined.Ends (rowed.Done (Raised f))) 0 (λ path host more cost acts. refl)

  -- an operator and its right operand, in the tree that they stand in
  joint_joins : {g : Setting H} {r : Room} {t : Tree} {vars : Scopes} {budget : ℕ} (at : ℕ) (o : Joint × Tree)
      (os : List (Joint × Tree)) (left : List ℕ) → drop at (row_of t) ≡ o ∷ os →
      Joins g r t (rest_of g r t (at + 1)) (operands (joints_on g (inner_of g r) (at + 1) (o ∷ os)) left) vars
      budget (joined_to (known g.statics vars) (at + 1) o.0 o.1 left)
  joint_joins {g = g} {r = r} {t = t} {vars = vars} {budget = budget} at o os left e =
      let i = inner_of g r in
      let u = child_behind t at o os e in
      let more : drop (at + 1) (joints_in g i t) ≡ joints_on g i (at + 1 + 1) os = joints_from g i t (at + 1)
      ∙ ap (joints_on g i (at + 1 + 1)) (drop_next (row_of t) at o os e) in
      joins_as (ap (λ x. joined_to (known g.statics vars) (at + 1) o.0 x left) u)
      (joins_paid 1 0 (λ path host replies cost acts. rw (u, more) refl)
      (decided_joins {g = g} {r = r} {t = t} {vars = vars} {budget = budget} (at + 1) o.0 left
      (decided_by o.0 left)))

  joined_comes : {g : Setting H} {r : Room} {w : Bool} {t : Tree} {vars : Scopes} {budget : ℕ} (at n : ℕ)
      (os : List (Joint × Tree)) (j : Joined) →
      drop (at + 1) (joints_in g (inner_of g r) t) ≡ joints_on g (inner_of g r) (at + 1 + 1) os →
      ((v : List ℕ) → Comes g r w t (operands (joints_on g (inner_of g r) (at + 1 + 1) os) v) vars budget
      (still budget vars (rowed_move (row_from (known g.statics vars) n (at + 1) os v)))) →
      Comes g r w t (joined_out g r t (rest_of g r t (at + 1)) j) vars budget
      (still budget vars (rowed_move (on_joined j (row_from (known g.statics vars) n (at + 1) os))))
  joined_comes at n os (joined.Goes v) e h = comes_as (λ path host more cost acts. rw e refl) (h v)
  joined_comes at n os (joined.Ends rowed) e h =
      comes_at (rowed_next rowed) (λ path host more cost acts. refl)

  row_is : {g : Setting H} {r : Room} {w : Bool} {t : Tree} {vars : Scopes} {budget : ℕ} (n at : ℕ)
      (os : List (Joint × Tree)) (left : List ℕ) → drop at (row_of t) ≡ os →
      Comes g r w t (operands (joints_on g (inner_of g r) (at + 1) os) left) vars budget
      (still budget vars (rowed_move (row_from (known g.statics vars) n at os left)))
  row_is n at [] left e = comes_at (stop (Value left)) (λ path host more cost acts. refl)
  row_is {g = g} {r = r} {t = t} zero at (o ∷ os) left e =
      comes_at (back_under (frame.Left at) (Value left))
      (λ path host more cost acts. rw (joints_from g (inner_of g r) t at, e) refl)
  row_is {g = g} {r = r} {t = t} {vars = vars} {budget = budget} (suc n) at (o ∷ os) left e =
      let i = inner_of g r in
      let c = joined_to (known g.statics vars) (at + 1) o.0 o.1 left in
      let next = drop_next (row_of t) at o os e in
      let more : drop (at + 1) (joints_in g i t) ≡ joints_on g i (at + 1 + 1) os = joints_from g i t (at + 1)
      ∙ ap (joints_on g i (at + 1 + 1)) next in
      comes_paid c.cost c.ticks (λ path host more cost acts.
      (joint_joins {g = g} {r = r} {t = t} {vars = vars} {budget = budget} at o os left e).same path host more
      cost acts)
      (joined_comes at n os c.value more (λ v. row_is n (at + 1) os v next))

  rest_is : {g : Setting H} {r : Room} {w : Bool} {t : Tree} {vars : Scopes} {budget : ℕ} (at : ℕ)
      (left : List ℕ) →
      Comes g r w t (rest_of g r t at left) vars budget
      (still budget vars (rest_move (known g.statics vars) at (row_of t) left))
  rest_is {g = g} {r = r} {t = t} at left =
      comes_as (λ path host more cost acts. rw (joints_from g (inner_of g r) t at) refl)
      (row_is most_operators at (drop at (row_of t)) left refl)

  pub left_goes : {g : Setting H} {r : Room} {w : Bool} {t : Tree} {vars : Scopes} {budget : ℕ} (at : ℕ)
      (code : Code) →
      Comes g r w t (goes_on g r t (frame.Left at) code) vars budget
      (still budget vars (left_told (known g.statics vars) at (row_of t) code))
  left_goes at (Value v) = comes_as (λ path host more cost acts. refl) (rest_is at v)
  left_goes at other = comes_at _ (λ path host more cost acts. refl)

  joined_value_is : {g : Setting H} {r : Room} {w : Bool} {t : Tree} {vars : Scopes} {budget : ℕ} (at : ℕ)
      (x : Result (List ℕ) TclFault) →
      Comes g r w t (λ path st. by_value x (λ v s. rest_of g r t at v path s) st) vars budget
      (still budget vars (joined_move (known g.statics vars) at (row_of t) x))
  joined_value_is at (Ok v) = comes_as (λ path host more cost acts. refl) (rest_is at v)
  joined_value_is at (Err f) = comes_at _ (λ path host more cost acts. refl)

  pub right_goes : {g : Setting H} {r : Room} {w : Bool} {t : Tree} {vars : Scopes} {budget : ℕ} (at : ℕ)
      (joint : Joint) (left : List ℕ) (code : Code) →
      Comes g r w t (goes_on g r t (frame.Right at joint left) code) vars budget
      (still budget vars (right_told (known g.statics vars) at (row_of t) joint left code))
  right_goes at joint left (Value v) =
      comes_paid 0 (joint_ticks joint) (λ path host more cost acts. rw add-zero refl)
      (joined_value_is at (joint_value joint left v))
  right_goes at joint left other = comes_at _ (λ path host more cost acts. refl)

  row_case : {g : Setting H} {r : Room} {w : Bool} {vars : Scopes} {budget : ℕ} (u : Tree) (us : Operands)
      (b : Bool) → is_flat u ≡ b →
      Comes g r w (tree.row u us) (λ path st. then_value (eval g (inner_of g r) u (path ++ 0 ∷ []) st)
      (λ v s. operands (joints g (inner_of g r) 1 us) v path s)) vars budget
      (still budget vars (cond b (left_told (known g.statics vars) 0 (listed us) (leaf_code g.statics vars u))
      (moves (child_under (frame.Left 0)))))
  row_case {g = g} {r = r} {vars = vars} {budget = budget} u us true e =
      comes_as (λ path host more cost acts. ap
      (λ o. then_value o (λ v s. operands (joints g (inner_of g r) 1 us) v path s))
      (leaf_eval g (inner_of g r) u (path ++ 0 ∷ []) (state vars host more budget cost acts) e))
      (left_goes {t = tree.row u us} 0 (leaf_code g.statics vars u))
  row_case u us false e = comes_at (child_under (frame.Left 0))
      (λ path host more cost acts. rw heard_true refl)

  pub row_begins : {g : Setting H} {r : Room} {w : Bool} {vars : Scopes} {budget : ℕ} (u : Tree)
      (us : Operands) →
      Comes g r w (tree.row u us) (begins g r (tree.row u us)) vars budget
      (still budget vars (row_move (known g.statics vars) u (listed us)))
  row_begins u us = comes_paid 1 0 (λ path host more cost acts. refl) (row_case u us (is_flat u) refl)

-- what they owe
abbrev EndsWell : List Procedure → Tree → Joined → Type 0
EndsWell procedures t (joined.Goes v) = Unit {0}
EndsWell procedures t (joined.Ends rowed) = Bounded procedures t 3 (moves (rowed_next rowed))

record JoinedBounded (procedures : List Procedure) (t : Tree) (n : ℕ) (c : Counted Joined) : Type 0 where
  ticks : c.ticks ≤ c.cost + n
  ends : EndsWell procedures t c.value

done_bounded : {procedures : List Procedure} {t : Tree} {n : ℕ} (code : Code)
    → JoinedBounded procedures t n (given (joined.Ends (rowed.Done code)))
done_bounded code = record { ticks = omega arith; ends = bounded_less (omega arith) (stop_bounded code) }

pub joint_once : (joint : Joint) → joint_ticks joint ≤ 1
joint_once (Both op) = omega arith
joint_once And = omega arith
joint_once Or = omega arith

value_bounded : {procedures : List Procedure} {t : Tree} (joint : Joint) (x : Result (List ℕ) TclFault)
    → JoinedBounded procedures t 1 (counted_after 0 (joint_ticks joint) (given (joins_to x)))
value_bounded joint (Ok v) = record { ticks = omega (arith, joint_once joint); ends = tt }
value_bounded joint (Err f) = record
    { ticks = omega (arith, joint_once joint); ends = bounded_less (omega arith) (stop_bounded (Raised f)) }

code_bounded : {procedures : List Procedure} {t : Tree} (joint : Joint) (left : List ℕ) (code : Code)
    → JoinedBounded procedures t 1 (right_by joint left code)
code_bounded joint left (Value right) = value_bounded joint (joint_value joint left right)
code_bounded joint left (Raised f) = done_bounded (Raised f)
code_bounded joint left (Return v) = done_bounded (Return v)
code_bounded joint left Break = done_bounded Break
code_bounded joint left Continue = done_bounded Continue

right_bounded : {procedures : List Procedure} {t : Tree} (k : Known) (at : ℕ) (joint : Joint) (left : List ℕ)
    (b : Bool) → is_flat (child_at t at) ≡ b
    → JoinedBounded procedures t 1 (right_joined k at joint (child_at t at) left)
right_bounded {t = t} k at joint left true e =
    rw e (code_bounded joint left (leaf_code k.statics k.vars (child_at t at)))
right_bounded k at joint left false e =
    rw e (record { ticks = omega arith; ends = record { owes = omega arith; ready = e } })

decided_bounded : {procedures : List Procedure} {t : Tree} (x : Result (Option (List ℕ)) TclFault)
    (c : Counted Joined) → JoinedBounded procedures t 1 c
    → JoinedBounded procedures t 0 (unless_decided x (counted_after 1 0 c))
decided_bounded (Ok None) c h = record { ticks = let k = h.ticks in omega (arith, k); ends = h.ends }
decided_bounded (Ok (Some v)) c h = done_bounded (Value v)
decided_bounded (Err f) c h = done_bounded (Raised f)

on_bounded : {procedures : List Procedure} {t : Tree} (j : Joined) (cost ticks : ℕ)
    (go : List ℕ → Counted Rowed) → 1 ≤ cost → ticks ≤ cost → EndsWell procedures t j →
    ((v : List ℕ) → Bounded procedures t 3 (rowed_move (go v)))
    → Bounded procedures t 2 (move_after cost ticks (rowed_move (on_joined j go)))
on_bounded (joined.Goes v) cost ticks go some few ends h = let b = h v in
    record { owes = let k = b.owes in omega (arith, k, some, few); ready = b.ready }
on_bounded (joined.Ends rowed) cost ticks go some few ends h =
    record { owes = let k = ends.owes in omega (arith, k, some, few); ready = ends.ready }

row_more : {procedures : List Procedure} {t : Tree} (k : Known) (n at : ℕ) (o : Joint × Tree)
    (os : List (Joint × Tree)) (left : List ℕ) → drop at (row_of t) ≡ o ∷ os →
    ((v : List ℕ) → Bounded procedures t 3 (rowed_move (row_from k n (at + 1) os v)))
    → Bounded procedures t 2 (rowed_move (row_from k (suc n) at (o ∷ os) left))
row_more {procedures = procedures} {t = t} k n at o os left e h =
    let j = joined_to k (at + 1) o.0 o.1 left in
    let u = child_behind t at o os e in
    let b : JoinedBounded procedures t 0
    (unless_decided (decided_by o.0 left) (counted_after 1 0 (right_joined k (at + 1) o.0 o.1 left)))
    = rw u at (decided_bounded {procedures = procedures} {t = t} (decided_by o.0 left)
    (right_joined k (at + 1) o.0 (child_at t (at + 1)) left)
    (right_bounded k (at + 1) o.0 left (is_flat (child_at t (at + 1))) refl)) in
    on_bounded j.value j.cost j.ticks (row_from k n (at + 1) os) (omega arith)
    (let few = b.ticks in omega (arith, few)) b.ends h

row_owes : {procedures : List Procedure} {t : Tree} (k : Known) (n at : ℕ) (os : List (Joint × Tree))
    (left : List ℕ) → drop at (row_of t) ≡ os → Bounded procedures t 3 (rowed_move (row_from k n at os left))
row_owes k n at [] left e = bounded_less (omega arith) (stop_bounded (Value left))
row_owes k zero at (o ∷ os) left e = record { owes = omega arith; ready = tt }
row_owes {t = t} k (suc n) at (o ∷ os) left e =
    bounded_less (omega arith) (row_more k n at o os left e
    (λ v. row_owes k n (at + 1) os v (drop_next (row_of t) at o os e)))

rest_case : {procedures : List Procedure} {t : Tree} (k : Known) (at : ℕ) (os : List (Joint × Tree))
    (left : List ℕ) → drop at (row_of t) ≡ os
    → Bounded procedures t 2 (rowed_move (row_from k most_operators at os left))
rest_case k at [] left e = stop_bounded (Value left)
rest_case {t = t} k at (o ∷ os) left e =
    row_more k 3 at o os left e (λ v. row_owes k 3 (at + 1) os v (drop_next (row_of t) at o os e))

rest_owes : {procedures : List Procedure} {t : Tree} (k : Known) (at : ℕ) (left : List ℕ)
    → Bounded procedures t 2 (rest_move k at (row_of t) left)
rest_owes {t = t} k at left = rest_case k at (drop at (row_of t)) left refl

pub left_goes_owes : {procedures : List Procedure} {t : Tree} (k : Known) (at : ℕ) (code : Code)
    → Bounded procedures t (mode_owed (mode.Back code)) (left_told k at (row_of t) code)
left_goes_owes k at (Value v) = rest_owes k at v
left_goes_owes k at (Raised f) = pass_bounded (Raised f)
left_goes_owes k at (Return v) = pass_bounded (Return v)
left_goes_owes k at Break = pass_bounded Break
left_goes_owes k at Continue = pass_bounded Continue

joined_owes : {procedures : List Procedure} {t : Tree} (k : Known) (at : ℕ) (x : Result (List ℕ) TclFault)
    → Bounded procedures t 2 (joined_move k at (row_of t) x)
joined_owes k at (Ok v) = rest_owes k at v
joined_owes k at (Err f) = stop_bounded (Raised f)

-- a right operand's frame owes one more
pub right_goes_owes : {procedures : List Procedure} {t : Tree} (k : Known) (at : ℕ) (joint : Joint)
    (left : List ℕ) (code : Code) → Bounded procedures t (mode_owed (mode.Back code) + 1)
    (right_told k at (row_of t) joint left code)
right_goes_owes {procedures = procedures} {t = t} k at joint left (Value v) =
    let b = joined_owes {procedures = procedures} {t = t} k at (joint_value joint left v) in
    record { owes = let h = b.owes in omega (arith, h, joint_once joint); ready = b.ready }
right_goes_owes k at joint left (Raised f) = bounded_less (omega arith) (pass_bounded (Raised f))
right_goes_owes k at joint left (Return v) = bounded_less (omega arith) (pass_bounded (Return v))
right_goes_owes k at joint left Break = bounded_less (omega arith) (pass_bounded Break)
right_goes_owes k at joint left Continue = bounded_less (omega arith) (pass_bounded Continue)

first_owes : {procedures : List Procedure} (k : Known) (u : Tree) (us : Operands) (b : Bool) → is_flat u ≡ b →
    Bounded procedures (tree.row u us) 2
    (cond b (left_told k 0 (listed us) (leaf_code k.statics k.vars u)) (moves (child_under (frame.Left 0))))
first_owes k u us true e = bounded_less (back_owes (leaf_code k.statics k.vars u))
    (left_goes_owes {t = tree.row u us} k 0 (leaf_code k.statics k.vars u))
first_owes k u us false e = child_bounded (frame.Left 0) refl e

pub row_begins_owes : {procedures : List Procedure} (k : Known) (u : Tree) (us : Operands)
    → Bounded procedures (tree.row u us) 0 (row_move k u (listed us))
row_begins_owes k u us = bounded_name 1 (omega arith) (first_owes k u us (is_flat u) refl)
