use Rattle.std.proofs.Common.{◌≡◌, take}
use Rattle.tcl_lists.specs.Write.{joined}
use Rattle.tcl_lists.proofs.write.join_list.Given as goal

abbrev pub invariant-loop-at : goal.invariant-loop-at
invariant-loop-at l = l.out ≡ joined (take l.at l.items)
