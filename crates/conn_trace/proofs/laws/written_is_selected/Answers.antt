use Rattle.conn_trace.proofs.Spelling.{written_is_selected}
use Rattle.conn_trace.proofs.laws.written_is_selected.Goals as goal

pub returns : goal.returns
returns c = written_is_selected
