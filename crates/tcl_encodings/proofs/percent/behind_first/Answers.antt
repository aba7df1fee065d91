use Rattle.std.proofs.Common.{arith}
use Rattle.tcl_encodings.proofs.Pieces.{byte_first}
use Rattle.tcl_encodings.proofs.percent.behind_first.Goals as goal

pub returns : goal.returns
returns c = byte_first c.args.text.now (omega arith) c.in_default.ensures
