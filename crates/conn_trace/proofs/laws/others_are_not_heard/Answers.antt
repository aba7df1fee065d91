use Rattle.conn_trace.proofs.Hearing.{others_not_heard}
use Rattle.conn_trace.proofs.laws.others_are_not_heard.Goals as goal

pub returns : goal.returns
returns c = others_not_heard
