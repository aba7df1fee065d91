use Rattle.tcl_trees.proofs.Named.{first_viewed}
use Rattle.tcl_trees.proofs.procs.Procs.get.Goals as goal

pub returns : goal.returns
returns c = first_viewed c.args.name.now c.args.self.now c.first.result c.first.ensures
