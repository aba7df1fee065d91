use Rattle.std.proofs.Common.{◌≤◌, ◌-◌, length}
use Rattle.tcl_expr.proofs.PrefixTurns.{PrefixesTo}
use Rattle.tcl_expr.proofs.prefixes.prefixes.Given as goal

abbrev pub invariant-loop-operator : goal.invariant-loop-operator
invariant-loop-operator l = record {
  so_far : PrefixesTo l.row l.text l.start l.operators.items l.at;
  within : l.at ≤ length l.text;
  onward : l.start ≤ l.at;
}

abbrev pub decreases-loop-operator : goal.decreases-loop-operator
decreases-loop-operator l = length l.text - l.at
