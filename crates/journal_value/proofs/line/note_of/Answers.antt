use Rattle.journal_value.proofs.NoJournal.{note_only}
use Rattle.journal_value.proofs.line.note_of.Goals as goal

pub returns-in-Some-clause-only_told : goal.returns-in-Some-clause-only_told
returns-in-Some-clause-only_told c =
    let exact = rw c.in-Some.is at c.in_ok-note.ensures in
    note_only c.args.line.now c.in-Some.note c.requires exact.is_only
