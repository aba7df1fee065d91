use Rattle.conn_trace.proofs.Spelling.{spelled}
use Rattle.conn_trace.proofs.laws.selected_is_spelled.Goals as goal

pub returns : goal.returns
returns c = spelled
