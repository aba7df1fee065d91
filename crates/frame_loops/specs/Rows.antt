-- The moves of a row of operators, and of operators before an operand (Tcl 8.4, expr(n)).
use Rattle.std.specs.Prelude.{ℕ, zero, suc, ◌+◌, List, [], ◌∷◌, drop}
use Rattle.std.specs.Prelude.{Option, Some, None, Result, Ok, Err, if◌then◌else◌}
use Rattle.px_bytes.specs.declared.fault.TclFault.{TclFault}
use Rattle.tcl_expr.specs.declared.expr.Joint.{Joint}
use Rattle.tcl_trees.specs.Tree.{Tree, Operands, no_operands, and_operand}
use Rattle.tcl_trees.specs.Tree as tree
use Rattle.rule_model.specs.Expressions.{decided_by, joint_value}
use Rattle.rule_model.specs.declared.code.Code.{Code}
use Rattle.rule_model.specs.declared.code.Code.TheVariants.{Value, Raised}
use Rattle.rule_nodes.specs.Operators.{joint_ticks}
use Rattle.frames.specs.Counted.{Counted, given, counted_after}
use Rattle.frames.specs.Leafs.{leaf_code}
use Rattle.frames.specs.Moves.{back_under, child_under, stop}
use Rattle.frames.specs.Owed.{is_flat}
use Rattle.frames.specs.Reads.{Known}
use Rattle.frames.specs.Stills.{Move, moves, move_after}
use Rattle.frames.specs.declared.frame.Frame.TheVariants as frame
use Rattle.frames.specs.declared.next.Next.{Next}
use Rattle.frame_loops.specs.declared.rows.Joined.{Joined}
use Rattle.frame_loops.specs.declared.rows.Joined.TheVariants as joined
use Rattle.frame_loops.specs.declared.rows.Rowed.{Rowed}
use Rattle.frame_loops.specs.declared.rows.Rowed.TheVariants as rowed

-- as many operators as one move may apply
abbrev pub most_operators : ℕ
most_operators = 4

-- operands with what joins each to those before
abbrev pub listed : Operands → List (Joint × Tree)
listed no_operands = []
listed (and_operand joint t os) = (joint, t) ∷ listed os

abbrev pub row_of : Tree → List (Joint × Tree)
row_of (tree.row t os) = listed os
row_of t = []

-- goes on where the left operand doesn't decide
abbrev pub unless_decided : Result (Option (List ℕ)) TclFault → Counted Joined → Counted Joined
unless_decided (Ok None) go = go
unless_decided (Ok (Some v)) go = given (joined.Ends (rowed.Done (Value v)))
unless_decided (Err f) go = given (joined.Ends (rowed.Done (Raised f)))

abbrev pub joins_to : Result (List ℕ) TclFault → Joined
joins_to (Ok v) = joined.Goes v
joins_to (Err f) = joined.Ends (rowed.Done (Raised f))

-- with the right operand's code
abbrev pub right_by : Joint → (left : List ℕ) → Code → Counted Joined
right_by joint left (Value right) =
    counted_after 0 (joint_ticks joint) (given (joins_to (joint_value joint left right)))
right_by joint left code = given (joined.Ends (rowed.Done code))

-- the right operand of this number, where it has its end at once
abbrev pub right_joined : Known → (at : ℕ) → Joint → Tree → (left : List ℕ) → Counted Joined
right_joined k at joint t left =
    if is_flat t then right_by joint left (leaf_code k.statics k.vars t)
    else given (joined.Ends (rowed.Child at joint left))

-- one operator, and its right operand
abbrev pub joined_to : Known → (at : ℕ) → Joint → Tree → (left : List ℕ) → Counted Joined
joined_to k at joint t left =
    counted_after 1 0
    (unless_decided (decided_by joint left)
    (counted_after 1 0 (right_joined k at joint t left)))

abbrev pub on_joined : Joined → (List ℕ → Counted Rowed) → Counted Rowed
on_joined (joined.Goes v) go = go v
on_joined (joined.Ends r) go = given r

-- A row from its value before the operator of number `at` on, with at most so many operators.
abbrev pub row_from : Known → (most at : ℕ) → List (Joint × Tree) → (left : List ℕ)
    → Counted Rowed
row_from k most at [] left = given (rowed.Done (Value left))
row_from k zero at (o ∷ os) left = given (rowed.Stays at left)
row_from k (suc most) at (o ∷ os) left =
    let c = joined_to k (at + 1) o.0 o.1 left in
    counted_after c.cost c.ticks (on_joined c.value (row_from k most (at + 1) os))

-- where the row stands then
abbrev pub rowed_next : Rowed → Next
rowed_next (rowed.Done code) = stop code
rowed_next (rowed.Child at joint left) = child_under (frame.Right at joint left)
rowed_next (rowed.Stays at left) = back_under (frame.Left at) (Value left)

abbrev pub rowed_move : Counted Rowed → Move
rowed_move c = record { next = rowed_next c.value; cost = c.cost; ticks = c.ticks }

abbrev pub rest_move : Known → (at : ℕ) → List (Joint × Tree) → (left : List ℕ) → Move
rest_move k at all left = rowed_move (row_from k most_operators at (drop at all) left)

-- behind the operand up to which the row has a value, and behind a right operand
abbrev pub left_told : Known → (at : ℕ) → List (Joint × Tree) → Code → Move
left_told k at all (Value v) = rest_move k at all v
left_told k at all code = moves (stop code)

abbrev pub joined_move : Known → (at : ℕ) → List (Joint × Tree) → Result (List ℕ) TclFault → Move
joined_move k at all (Ok v) = rest_move k at all v
joined_move k at all (Err f) = moves (stop (Raised f))

abbrev pub right_told : Known → (at : ℕ) → List (Joint × Tree) → Joint → (left : List ℕ) → Code
    → Move
right_told k at all joint left (Value v) =
    move_after 0 (joint_ticks joint) (joined_move k at all (joint_value joint left v))
right_told k at all joint left code = moves (stop code)

-- a row begins
abbrev pub row_move : Known → (first : Tree) → List (Joint × Tree) → Move
row_move k first all =
    move_after 1 0
    (if is_flat first then left_told k 0 all (leaf_code k.statics k.vars first)
    else moves (child_under (frame.Left 0)))
