use Rattle.journal_text.proofs.Written.{written_is_read}
use Rattle.journal_text.proofs.laws.written_is_read.Goals as goal

pub returns : goal.returns
returns c = written_is_read
