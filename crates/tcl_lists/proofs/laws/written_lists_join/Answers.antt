use Rattle.tcl_lists.proofs.Again.{written_join}
use Rattle.tcl_lists.proofs.laws.written_lists_join.Goals as goal

pub returns : goal.returns
returns c = written_join
