use Rattle.tcl_vars.proofs.AfterSet.{unset_keeps_others}
use Rattle.tcl_vars.proofs.laws.unset_keeps_others.Goals as goal

pub returns : goal.returns
returns c = unset_keeps_others
