use Rattle.std.proofs.Common.{◌≤◌, List, ℕ, length}
use Rattle.journal_value.specs.Reading.{HasRead}
use Rattle.journal_value.specs.declared.journal.JournalLine.{JournalLine}
use Rattle.journal_value.proofs.reader.JournalReader.next.Given as goal

abbrev pub invariant-loop-line : goal.invariant-loop-line
invariant-loop-line l =
    ((text : List ℕ) (past : List JournalLine) → HasRead text l.fn.self past → HasRead text l.self past) × (length l.self.0 ≤ length l.fn.self.0)

abbrev pub decreases-loop-line : goal.decreases-loop-line
decreases-loop-line l = length l.self.0
