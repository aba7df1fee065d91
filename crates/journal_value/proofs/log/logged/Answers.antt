use Rattle.std.proofs.Common.{None, Some}
use Rattle.journal_value.proofs.NoteKinds.{log_exact}
use Rattle.journal_value.proofs.log.logged.Goals as goal

pub returns-in-Some : goal.returns-in-Some
returns-in-Some c = log_exact c.args.conn c.args.text.now (Some c.in-Some.text) (rw c.in-Some.is at c.in_ok-text.ensures)

pub returns-in-None : goal.returns-in-None
returns-in-None c = log_exact c.args.conn c.args.text.now None (rw c.in-None.is at c.in_ok-text.ensures)
