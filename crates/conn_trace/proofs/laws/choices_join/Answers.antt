use Rattle.conn_trace.proofs.Furthering.{choices_join}
use Rattle.conn_trace.proofs.laws.choices_join.Goals as goal

pub returns : goal.returns
returns c = choices_join
