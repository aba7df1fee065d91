use Rattle.tcl_expr.proofs.Deeper.{more_room_is_same}
use Rattle.tcl_expr.proofs.laws.more_room_is_same.Goals as goal

pub returns : goal.returns
returns c = more_room_is_same
