use Rattle.conn.proofs.Continuing.{continues}
use Rattle.conn.proofs.laws.connection_continues.Goals as goal

pub returns : goal.returns
returns c = continues
