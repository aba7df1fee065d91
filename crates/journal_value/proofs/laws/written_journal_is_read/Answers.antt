use Rattle.journal_value.proofs.WrittenJournal.{written_journal_is_read}
use Rattle.journal_value.proofs.laws.written_journal_is_read.Goals as goal

pub returns : goal.returns
returns c = written_journal_is_read
