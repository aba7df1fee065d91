use Rattle.tcl_lists.proofs.Moves.{braces_keep}
use Rattle.tcl_lists.proofs.laws.braces_keep_bytes.Goals as goal

pub returns : goal.returns
returns c = braces_keep
