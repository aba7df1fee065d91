use Rattle.conn_trace.proofs.Querying.{comes_where}
use Rattle.conn_trace.proofs.laws.comes_where_it_arrives.Goals as goal

pub returns : goal.returns
returns c = comes_where
