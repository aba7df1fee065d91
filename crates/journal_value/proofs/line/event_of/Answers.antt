use Rattle.std.proofs.Common.{◌≡◌}
use Rattle.core_events.specs.declared.event.Event.{Event}
use Rattle.journal_text.specs.Line.{IsSkipped, SpellsEvent}
use Rattle.journal_value.proofs.NoJournal.{event_only, is_event}
use Rattle.journal_value.proofs.line.event_of.Goals as goal

pub returns-in-Some-clause-only_told : goal.returns-in-Some-clause-only_told
returns-in-Some-clause-only_told c =
    let text = c.args.line.now in
    let event = c.in-Some.event in
    let not : ¬ IsSkipped text = λ skipped. is_event c.line_event.result c.in_ok-event.field-0 event c.in_ok-event.was c.in-Some.is (c.line_event.ensures.skipped.1 skipped) in
    let only : (other : Event) → SpellsEvent text other → other ≡ event = rw c.in-Some.is at c.in_ok-event.ensures.only_event in
    event_only text event c.requires not only
