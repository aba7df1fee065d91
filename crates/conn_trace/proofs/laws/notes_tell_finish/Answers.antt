use Rattle.conn_trace.proofs.Telling.{items_tell}
use Rattle.conn_trace.proofs.laws.notes_tell_finish.Goals as goal

pub returns : goal.returns
returns c = items_tell
