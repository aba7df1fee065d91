use Rattle.tcl_vars.proofs.AfterSet.{outer_levels_stay}
use Rattle.tcl_vars.proofs.laws.outer_levels_stay.Goals as goal

pub returns : goal.returns
returns c = outer_levels_stay
