use Rattle.std.proofs.Common.{◌≡◌, take, map}
use Rattle.tcl_trees.specs.CaseList.{item_of}
use Rattle.tcl_compile.proofs.ListItems.{elements_of}
use Rattle.tcl_compile.proofs.case_list.items.Given as goal

abbrev pub invariant-loop-at : goal.invariant-loop-at
invariant-loop-at l = l.items.items ≡ map (item_of l.text) (take l.at (elements_of l.text))
