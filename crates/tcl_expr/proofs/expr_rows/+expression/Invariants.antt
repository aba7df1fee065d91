use Rattle.std.proofs.Common.{◌≤◌, ◌+◌, ◌*◌, ◌-◌, length}
use Rattle.tcl_expr.specs.ExpressionReading.{enclosed_at, operand_at, row_at}
use Rattle.tcl_expr.proofs.RowTurns.{MoreTo, CasesTo}
use Rattle.tcl_expr.proofs.expr_rows.+expression.Given as goal

-- the readers with one room call one another in this order, and what is enclosed has one room less

abbrev pub decreases-enclosed : goal.decreases-enclosed
decreases-enclosed l = 32 * l.room

abbrev pub decreases-between : goal.decreases-between
decreases-between l = 32 * l.room + 1

abbrev pub decreases-operand : goal.decreases-operand
decreases-operand l = 32 * l.room + 2

abbrev pub decreases-row : goal.decreases-row
decreases-row l = 32 * l.room + (2 * l.row_number + 3)

abbrev pub decreases-rest : goal.decreases-rest
decreases-rest l = 32 * l.room + (2 * l.row_number + 2)

abbrev pub decreases-whole : goal.decreases-whole
decreases-whole l = 32 * l.room + 30

abbrev pub invariant-rest-loop-joint : goal.invariant-rest-loop-joint
invariant-rest-loop-joint l = record {
  so_far : MoreTo l.row_number (row_at (l.row_number - 1) (operand_at l.room (enclosed_at l.room l.text) l.text) l.text)
      l.text l.start l.rest.items l.at;
  within : l.at ≤ length l.text;
  onward : l.start ≤ l.at;
}

abbrev pub decreases-rest-loop-joint : goal.decreases-rest-loop-joint
decreases-rest-loop-joint l = length l.text - l.at

abbrev pub invariant-whole-loop-cases : goal.invariant-whole-loop-cases
invariant-whole-loop-cases l = record {
  so_far : CasesTo (enclosed_at l.room l.text) (row_at 13 (operand_at l.room (enclosed_at l.room l.text) l.text) l.text)
      l.text l.start l.cases.items l.at;
  within : l.at ≤ length l.text;
  onward : l.start ≤ l.at;
}

abbrev pub decreases-whole-loop-cases : goal.decreases-whole-loop-cases
decreases-whole-loop-cases l = length l.text - l.at
