use Rattle.std.proofs.Common.{List, length}
use Rattle.journal_value.specs.Reading.{HasRead}
use Rattle.access_report.specs.Tallies.{Tallies}
use Rattle.journal_value.specs.declared.journal.JournalLine.{JournalLine}
use Rattle.std.specs.Prelude.{reverse}
use Rattle.access_report.proofs.report.tally_of.Given as goal

abbrev pub invariant-loop-tally : goal.invariant-loop-tally
invariant-loop-tally l = (told : List JournalLine) × HasRead l.text l.reader told × Tallies (reverse told) l.tally

abbrev pub decreases-loop-tally : goal.decreases-loop-tally
decreases-loop-tally l = length l.reader.0
