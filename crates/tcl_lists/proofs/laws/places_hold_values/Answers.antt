use Rattle.tcl_lists.proofs.Placed.{places_hold}
use Rattle.tcl_lists.proofs.laws.places_hold_values.Goals as goal

pub returns : goal.returns
returns c = places_hold
