use Rattle.std.proofs.Common.{◌≡◌, drop}
use Rattle.tcl_list_commands.specs.Items.{items_of}
use Rattle.tcl_list_commands.proofs.ItemLists.{onto}
use Rattle.tcl_list_commands.proofs.sorting.items_of.Given as goal

abbrev pub invariant-loop-element : goal.invariant-loop-element
invariant-loop-element l = onto l.items (items_of l.integer (drop l.element-index l.elements)) ≡ items_of l.integer l.elements
