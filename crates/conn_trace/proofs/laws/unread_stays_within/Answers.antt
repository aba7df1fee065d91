use Rattle.conn_trace.proofs.Unread.{unread_within}
use Rattle.conn_trace.proofs.laws.unread_stays_within.Goals as goal

pub returns : goal.returns
returns c = unread_within
