use Rattle.std.proofs.Common.{◌≡◌, ◌≤◌, length}
use Rattle.tcl_words.specs.Escapes.{digits}
use Rattle.tcl_words.proofs.escapes.digits.Given as goal

abbrev pub invariant-loop-left : goal.invariant-loop-left
invariant-loop-left l = record {
  so_far : digits l.base l.text l.limit l.start 0 ≡ digits l.base l.text l.left l.at l.number;
  within : l.at ≤ length l.text;
  onward : l.start ≤ l.at;
}

abbrev pub decreases-loop-left : goal.decreases-loop-left
decreases-loop-left l = l.left
