use Rattle.std.proofs.Common.{◌∷◌, List, subst, sym}
use Rattle.journal_value.specs.declared.journal.JournalLine.{JournalLine}
use Rattle.journal_value.specs.declared.journal.JournalLine.TheVariants.{Note}
use Rattle.access_report.specs.Sums.{end_counts, one_call}
use Rattle.access_report.specs.Tallies.{Counted, Tallies}
use Rattle.access_report.proofs.Summing.{called_tallies, ended_tallies, on_ok}
use Rattle.access_report.proofs.tally.Tally.note.Goals as goal

pub returns-in-History : goal.returns-in-History
returns-in-History c =
    let old = c.args.self.now in
    let new = c.count.new.self in
    let now = c.in-History in
    let after : Counted old new now.conn one_call → (past : List JournalLine) → Tallies past old → Tallies (Note c.args.note.now ∷ past) new = λ a past t.
    subst (λ e. Tallies (Note e ∷ past) new) (sym now.is) (called_tallies past old new now.conn now.moment now.call now.reply a t) in
    on_ok c.count.result _ _ after c.count.ensures

pub returns-in-Finish : goal.returns-in-Finish
returns-in-Finish c =
    let old = c.args.self.now in
    let new = c.count-in-Finish.new.self in
    let now = c.in-Finish in
    let after : Counted old new now.conn (end_counts now.cause) → (past : List JournalLine) → Tallies past old → Tallies (Note c.args.note.now ∷ past) new = λ a past t.
    subst (λ e. Tallies (Note e ∷ past) new) (sym now.is) (ended_tallies past old new now.conn now.cause a t) in
    on_ok c.count-in-Finish.result _ _ after (rw c.end_counts.ensures at c.count-in-Finish.ensures)
