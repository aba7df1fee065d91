use Rattle.std.proofs.Common.{◌∷◌, List, subst, sym}
use Rattle.journal_value.specs.declared.journal.JournalLine.{JournalLine}
use Rattle.journal_value.specs.declared.journal.JournalLine.TheVariants.{Event}
use Rattle.access_report.specs.Sums.{of_bytes}
use Rattle.access_report.specs.Tallies.{Accepted, Counted, Tallies}
use Rattle.access_report.proofs.Summing.{accepted_tallies, on_ok, took_tallies}
use Rattle.access_report.proofs.tally.Tally.event.Goals as goal

pub returns-in-Accept : goal.returns-in-Accept
returns-in-Accept c =
    let old = c.args.self.now in
    let new = c.accept.new.self in
    let now = c.in-Accept in
    let after : Accepted old new now.conn now.vs → (past : List JournalLine) → Tallies past old → Tallies (Event c.args.event.now ∷ past) new = λ a past t.
    subst (λ e. Tallies (Event e ∷ past) new) (sym now.is) (accepted_tallies past old new now.conn now.vs now.from a t) in
    on_ok c.accept.result _ _ after c.accept.ensures

pub returns-in-ClientTook : goal.returns-in-ClientTook
returns-in-ClientTook c =
    let old = c.args.self.now in
    let new = c.count.new.self in
    let now = c.in-ClientTook in
    let after : Counted old new now.conn (of_bytes now.n) → (past : List JournalLine) → Tallies past old → Tallies (Event c.args.event.now ∷ past) new = λ a past t.
    subst (λ e. Tallies (Event e ∷ past) new) (sym now.is) (took_tallies past old new now.conn now.n a t) in
    on_ok c.count.result _ _ after (rw c.of_bytes.ensures at c.count.ensures)
