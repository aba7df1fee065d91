use Rattle.std.proofs.Common.{arith}
use Rattle.journal_value.proofs.NoteKinds.{connect_exact}
use Rattle.journal_value.proofs.notes.connect_note.Goals as goal

pub returns : goal.returns
returns c = connect_exact c.args.conn c.args.rest.now _ c.in_ok-to.to (omega arith) (omega arith) c.in_ok-to.ensures
