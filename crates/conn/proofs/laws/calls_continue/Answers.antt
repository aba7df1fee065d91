use Rattle.conn.proofs.Continued.{calls}
use Rattle.conn.proofs.laws.calls_continue.Goals as goal

pub returns : goal.returns
returns c = calls
