use Rattle.tcl_list_commands.proofs.SortOrder.{sort_is_ordered}
use Rattle.tcl_list_commands.proofs.laws.sort_is_ordered.Goals as goal

pub returns : goal.returns
returns c = sort_is_ordered
