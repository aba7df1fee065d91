-- The moves of operators before an operand, and of `expr` (Tcl 8.4, expr(n)).
use Rattle.std.specs.Prelude.{ℕ, ◌-◌, List, length, take, slice_get, nat_lt, Option, Some, None}
use Rattle.std.specs.Prelude.{Result, Ok, Err, if◌then◌else◌}
use Rattle.px_bytes.specs.declared.fault.TclFault.{TclFault}
use Rattle.tcl_expr.specs.Operators.{operator_value_1}
use Rattle.tcl_expr.specs.declared.operator.Op1.{Op1}
use Rattle.tcl_trees.specs.Tree.{Tree}
use Rattle.tcl_trees.specs.WholeResult.{whole_result}
use Rattle.rule_model.specs.Children.{alone}
use Rattle.rule_model.specs.declared.code.Code.{Code}
use Rattle.rule_model.specs.declared.code.Code.TheVariants.{Value, Raised}
use Rattle.frames.specs.Leafs.{leaf_code}
use Rattle.frames.specs.Moves.{back_under, child_under, stop}
use Rattle.frames.specs.Owed.{is_flat}
use Rattle.frame_loops.specs.Quick.{quick}
use Rattle.frames.specs.Reads.{Known}
use Rattle.frames.specs.Stills.{Move, moves, move_after}
use Rattle.frames.specs.declared.frame.Frame.TheVariants as frame
use Rattle.frames.specs.declared.next.Next.{Next}

-- The innermost of so many operators gives this: one a move. Where it gives a fault, all of them
-- are paid for.
abbrev pub applied_move : (left : ℕ) → Result (List ℕ) TclFault → Move
applied_move left (Ok v) =
    record {
      next = if nat_lt 1 left then back_under (frame.Operand (left - 1)) (Value v)
          else stop (Value v);
      cost = 1;
      ticks = 1;
    }
applied_move left (Err f) = record { next = stop (Raised f); cost = left; ticks = 1 }

abbrev pub innermost_move : Option Op1 → (left : ℕ) → List ℕ → Move
innermost_move None left v = moves (stop (Value v))
innermost_move (Some op) left v = applied_move left (operator_value_1 op v)

abbrev pub operators_move : List Op1 → List ℕ → Move
operators_move ops v = innermost_move (slice_get ops (length ops - 1)) (length ops) v

-- behind the operand, where so many operators, the outermost, aren't applied yet
abbrev pub operand_told : List Op1 → (left : ℕ) → Code → Move
operand_told ops left (Value v) = operators_move (take left ops) v
operand_told ops left code = moves (stop code)

abbrev pub prefixed_move : Known → List Op1 → Tree → Move
prefixed_move k ops t =
    move_after 1 0
    (if is_flat t then operand_told ops (length ops) (leaf_code k.statics k.vars t)
    else moves (child_under (frame.Operand (length ops))))

-- the whole expression of an `expr`
abbrev pub whole_next : Code → Next
whole_next (Value v) = stop (Value (whole_result v))
whole_next code = stop code

abbrev pub whole_told : Code → Move
whole_told code = moves (whole_next code)

abbrev pub whole_by : Option Code → Move
whole_by (Some code) = whole_told code
whole_by None = moves (child_under frame.Whole)

abbrev pub expr_move : Known → Tree → Move
expr_move k t =
    let q = quick k t in
    move_after 1 0 (move_after (alone t) 0 (move_after q.cost q.ticks (whole_by q.value)))
