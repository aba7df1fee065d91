use Rattle.std.proofs.Common.{◌≡◌, ◌≤◌, ◌+◌, length}
use Rattle.tcl_lists.specs.Read.{elements_from}
use Rattle.tcl_lists.proofs.rest.without_white.Given as goal

abbrev pub invariant-loop-text : goal.invariant-loop-text
invariant-loop-text l = record {
  same : elements_from 0 l.at l.text ≡ elements_from 0 l.fn.rest.at l.fn.rest.text.now;
  size : l.at + length l.text ≡ l.fn.rest.at + length l.fn.rest.text.now;
  within : length l.text ≤ length l.fn.rest.text.now;
}

abbrev pub decreases-loop-text : goal.decreases-loop-text
decreases-loop-text l = length l.text
