use Rattle.conn_trace.proofs.Querying.{given_is_due}
use Rattle.conn_trace.proofs.laws.given_is_due.Goals as goal

pub returns : goal.returns
returns c = given_is_due
