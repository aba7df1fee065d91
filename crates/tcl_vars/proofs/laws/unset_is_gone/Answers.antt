use Rattle.tcl_vars.proofs.AfterSet.{unset_is_gone}
use Rattle.tcl_vars.proofs.laws.unset_is_gone.Goals as goal

pub returns : goal.returns
returns c = unset_is_gone
