use Rattle.tcl_lists.proofs.Moves.{white_moves}
use Rattle.tcl_lists.proofs.laws.white_space_moves.Goals as goal

pub returns : goal.returns
returns c = white_moves
