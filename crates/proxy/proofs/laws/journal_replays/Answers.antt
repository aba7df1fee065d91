use Rattle.proxy.proofs.JournalRead as journal
use Rattle.proxy.proofs.laws.journal_replays.Goals as goal

pub returns : goal.returns
returns c = journal.journal_replays
