use Rattle.tcl_vars.proofs.AfterSet.{calls_have_their_own}
use Rattle.tcl_vars.proofs.laws.calls_have_their_own.Goals as goal

pub returns : goal.returns
returns c = calls_have_their_own
