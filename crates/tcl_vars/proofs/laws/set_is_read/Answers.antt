use Rattle.tcl_vars.proofs.AfterSet.{set_is_read}
use Rattle.tcl_vars.proofs.laws.set_is_read.Goals as goal

pub returns : goal.returns
returns c = set_is_read
