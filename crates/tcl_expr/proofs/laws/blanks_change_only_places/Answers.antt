use Rattle.tcl_expr.proofs.BlanksBetween.{blanks_change_only_places}
use Rattle.tcl_expr.proofs.laws.blanks_change_only_places.Goals as goal

pub returns : goal.returns
returns c = blanks_change_only_places
