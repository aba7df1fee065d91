use Rattle.std.proofs.Common.{get_or, drop}
use Rattle.tcl_strings.specs.Suffixes.{texts}
use Rattle.tcl_strings.proofs.Stepping.{IsCandidate}
use Rattle.tcl_strings.proofs.suffixes.Suffixes.step.Given as goal

abbrev pub invariant-loop-longer : goal.invariant-loop-longer
invariant-loop-longer l = IsCandidate (texts l.self) (get_or l.text 0 0) (drop 1 l.text) l.node

abbrev pub decreases-loop-longer : goal.decreases-loop-longer
decreases-loop-longer l = l.node
