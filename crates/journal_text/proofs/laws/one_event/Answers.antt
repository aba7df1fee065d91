use Rattle.journal_text.proofs.OneEvent.{one_event}
use Rattle.journal_text.proofs.laws.one_event.Goals as goal

pub returns : goal.returns
returns c = one_event
