use Rattle.tcl_lists.proofs.Splits.{exactly_lists}
use Rattle.tcl_lists.proofs.laws.reads_exactly_lists.Goals as goal

pub returns : goal.returns
returns c = exactly_lists
