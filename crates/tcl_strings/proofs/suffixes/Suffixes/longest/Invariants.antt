use Rattle.std.proofs.Common.{◌≤◌, length, drop}
use Rattle.tcl_strings.specs.Suffixes.{IsLongestNode}
use Rattle.tcl_strings.proofs.suffixes.Suffixes.longest.Given as goal

abbrev pub invariant-loop-place : goal.invariant-loop-place
invariant-loop-place l =
    (l.place ≤ length l.text) × IsLongestNode l.self (drop l.place l.text) l.node

abbrev pub decreases-loop-place : goal.decreases-loop-place
decreases-loop-place l = l.place
