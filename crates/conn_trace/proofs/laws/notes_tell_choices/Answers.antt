use Rattle.conn_trace.proofs.Telling.{notes_tell}
use Rattle.conn_trace.proofs.laws.notes_tell_choices.Goals as goal

pub returns : goal.returns
returns c = notes_tell
