use Rattle.conn_trace.proofs.Telling.{notes_tell_cut}
use Rattle.conn_trace.proofs.laws.notes_tell_cut.Goals as goal

pub returns : goal.returns
returns c = notes_tell_cut
