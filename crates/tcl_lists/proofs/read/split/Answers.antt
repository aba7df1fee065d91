use Rattle.tcl_lists.proofs.Splits.{splits_list}
use Rattle.tcl_lists.proofs.read.split.Goals as goal

pub returns-clause-grammar : goal.returns-clause-grammar
returns-clause-grammar c = splits_list c.args.text.now c.values.result c.values.ensures
