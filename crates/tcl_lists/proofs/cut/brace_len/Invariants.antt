use Rattle.std.proofs.Common.{◌≡◌, ◌≤◌, ◌+◌, false, drop}
use Rattle.tcl_lists.specs.Element.{brace_len}
use Rattle.tcl_lists.proofs.cut.brace_len.Given as goal

abbrev pub invariant-loop-at : goal.invariant-loop-at
invariant-loop-at l = record {
  same : l.at + brace_len l.taken l.depth (drop l.at l.text) ≡ brace_len false 0 l.text;
  small : l.depth ≤ l.at;
}
