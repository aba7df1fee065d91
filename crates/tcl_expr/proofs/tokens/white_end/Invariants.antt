use Rattle.std.proofs.Common.{◌≤◌, ◌-◌, length}
use Rattle.tcl_words.specs.Places.{after_blank}
use Rattle.tcl_words.proofs.Runs.{SkipTo}
use Rattle.tcl_expr.specs.Tokens.{white_stands}
use Rattle.tcl_expr.proofs.tokens.white_end.Given as goal

abbrev pub invariant-loop-at : goal.invariant-loop-at
invariant-loop-at l = record {
  so_far : SkipTo (white_stands l.text) (after_blank l.text) l.text l.start l.at;
  within : l.at ≤ length l.text;
  onward : l.start ≤ l.at;
}

abbrev pub decreases-loop-at : goal.decreases-loop-at
decreases-loop-at l = length l.text - l.at
