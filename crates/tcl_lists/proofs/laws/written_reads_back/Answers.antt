use Rattle.tcl_lists.proofs.Again.{written_alone}
use Rattle.tcl_lists.proofs.laws.written_reads_back.Goals as goal

pub returns : goal.returns
returns c = λ items. written_alone items 0
