use Rattle.std.proofs.Common.{◌≡◌, ◌+◌, ◌-◌, ◌≤◌, drop}
use Rattle.tcl_trees.specs.TreeView.{operands_view}
use Rattle.frames.specs.Reads.{known_by}
use Rattle.frame_loops.specs.Rows.{most_operators, row_from}
use Rattle.frame_loops.proofs.rows.row_from.Given as goal

abbrev pub invariant-loop-at : goal.invariant-loop-at
invariant-loop-at g l =
    let k = known_by l.reads in
    let all = operands_view l.joints in
    let begun = row_from k most_operators l.first (drop l.first all) l.fn.left in
    let rest = row_from k (most_operators - (l.at - l.first)) l.at (drop l.at all) l.left in
    record {
      few : l.at - l.first ≤ most_operators;
      value : rest.value ≡ begun.value;
      cost : l.paid + rest.cost ≡ l.fn.paid + begun.cost;
      ticks : l.steps + rest.ticks ≡ l.fn.steps + begun.ticks;
      counted : l.steps ≤ l.fn.steps + (l.at - l.first);
    }
