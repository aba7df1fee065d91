use Rattle.std.proofs.Common.{◌≡◌, ◌+◌, drop}
use Rattle.tcl_lists.specs.Cut.{stops}
use Rattle.tcl_lists.specs.Element.{free_len}
use Rattle.tcl_lists.proofs.cut.free_len.Given as goal

abbrev pub invariant-loop-at : goal.invariant-loop-at
invariant-loop-at l =
    l.at + free_len (stops l.end) l.taken (drop l.at l.text) ≡ free_len (stops l.end) l.fn.taken l.text
