use Rattle.proxy.proofs.JournalRead as journal
use Rattle.proxy.proofs.laws.journal_has_no_fault.Goals as goal

pub returns : goal.returns
returns c = journal.journal_has_no_fault
