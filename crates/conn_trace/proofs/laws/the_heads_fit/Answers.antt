use Rattle.conn_trace.proofs.TheHeads.{the_heads_fit}
use Rattle.conn_trace.proofs.laws.the_heads_fit.Goals as goal

pub returns : goal.returns
returns c = the_heads_fit
