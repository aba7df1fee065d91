use Rattle.std.proofs.Common.{refl}
use Rattle.std.specs.Fmt.{digits}
use Rattle.tcl_trees.proofs.whole_result.result_alone.Goals as goal

pub returns : goal.returns
unfolding digits
returns c = record { result = refl; operand = refl }
