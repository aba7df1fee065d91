use Rattle.tcl_list_commands.proofs.SortOrder.{sort_has_the_same}
use Rattle.tcl_list_commands.proofs.laws.sort_has_the_same.Goals as goal

pub returns : goal.returns
returns c = sort_has_the_same
