use Rattle.std.proofs.Common.{◌≡◌, ◌+◌, ◌≤◌, length}
use Rattle.rule_model.specs.Expressions.{prefixed_value}
use Rattle.rule_nodes.proofs.operators.prefixed.Given as goal

abbrev pub invariant-loop-op : goal.invariant-loop-op
invariant-loop-op g l = record {
  value : prefixed_value l.rest l.value ≡ prefixed_value l.ops l.fn.value;
  ticks : l.steps + length l.rest ≤ l.fn.steps + length l.ops;
}

abbrev pub decreases-loop-op : goal.decreases-loop-op
decreases-loop-op g l = length l.rest
