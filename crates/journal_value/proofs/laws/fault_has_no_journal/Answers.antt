use Rattle.journal_value.proofs.NoJournal.{fault_has_no_journal}
use Rattle.journal_value.proofs.laws.fault_has_no_journal.Goals as goal

pub returns : goal.returns
returns c = fault_has_no_journal
