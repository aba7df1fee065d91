use Rattle.std.proofs.Common.{length}
use Rattle.journal_value.specs.Reading.{HasRead}
use Rattle.journal_value.proofs.journal.read_journal.Given as goal

abbrev pub invariant-loop-journal : goal.invariant-loop-journal
invariant-loop-journal l = HasRead l.text l.reader l.journal

abbrev pub decreases-loop-journal : goal.decreases-loop-journal
decreases-loop-journal l = length l.reader.0
