use Rattle.std.proofs.Common.{◌≤◌, ◌+◌, ◌-◌, length}
use Rattle.tcl_words.proofs.Runs.{SkipTo}
use Rattle.tcl_expr.specs.Tokens.{digit_stands}
use Rattle.tcl_expr.proofs.tokens.digits_end.Given as goal

abbrev pub invariant-loop-at : goal.invariant-loop-at
invariant-loop-at l = record {
  so_far : SkipTo (digit_stands l.radix l.text) (λ k. k + 1) l.text l.start l.at;
  within : l.at ≤ length l.text;
  onward : l.start ≤ l.at;
}

abbrev pub decreases-loop-at : goal.decreases-loop-at
decreases-loop-at l = length l.text - l.at
