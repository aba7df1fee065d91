use Rattle.conn_trace.proofs.Given.{cut_keeps}
use Rattle.conn_trace.proofs.laws.cut_keeps_given.Goals as goal

pub returns : goal.returns
returns c = cut_keeps
