use Rattle.std.proofs.Common.{◌∙◌}
use Rattle.tcl_trees.proofs.Named.{place_viewed}
use Rattle.tcl_trees.proofs.procs.Procs.place.Goals as goal

pub returns : goal.returns
returns c = c.first_place.ensures ∙ place_viewed c.args.name.now c.args.self.now
