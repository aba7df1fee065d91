use Rattle.std.proofs.Common.{arith}
use Rattle.irule_http.proofs.Moves.{moves}
use Rattle.irule_http.proofs.laws.answers_read_back.Goals as goal

pub returns : goal.returns
returns c = λ event h words brief. (moves 1048576 event h words brief).reads (omega arith)
