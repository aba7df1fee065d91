use Rattle.tcl_list_commands.proofs.SortOrder.{sort_keeps_equals}
use Rattle.tcl_list_commands.proofs.laws.sort_keeps_equals.Goals as goal

pub returns : goal.returns
returns c = sort_keeps_equals
