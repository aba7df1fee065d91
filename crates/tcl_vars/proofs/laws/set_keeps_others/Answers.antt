use Rattle.tcl_vars.proofs.AfterSet.{set_keeps_others}
use Rattle.tcl_vars.proofs.laws.set_keeps_others.Goals as goal

pub returns : goal.returns
returns c = set_keeps_others
