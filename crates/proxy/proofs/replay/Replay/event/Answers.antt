use Rattle.std.proofs.Common.{◌∙◌, ◌+◌, ap, refl}
use Rattle.journal_text.specs.Notes.{note_lines}
use Rattle.proxy.specs.Stops.{StopsWith}
use Rattle.proxy.specs.Taken.{with_took}
use Rattle.proxy.proofs.Stopping.{out_of_memory, not_written, stands_front, written_front, Given}
use Rattle.proxy.proofs.Stopping.{stands_next, front_in_notes, only_group}
use Rattle.proxy.proofs.TakenRows.{are_rising}
use Rattle.proxy.proofs.replay.Replay.event.Goals as goal

pub returns-in_err-reserve-clause-stops : goal.returns-in_err-reserve-clause-stops
returns-in_err-reserve-clause-stops g c =
    let s = c.args.self.now in
    let w = g.K.Sink.written c.args.out.now in
    out_of_memory c.from_residual.result (StopsWith c.args.line c.args.event s.core s.core s.taken.items s.taken.items s.events s.events w w) c.from_residual.ensures.1
    (λ C told text line number st is gives. stands_front C text _ number s.core s.taken.items s.events told w st)

pub returns-in_err-took-clause-stops : goal.returns-in_err-took-clause-stops
returns-in_err-took-clause-stops g c =
    let s = c.args.self.now in
    let w = g.K.Sink.written c.args.out.now in
    out_of_memory c.from_residual-in_err-took.result (StopsWith c.args.line c.args.event s.core s.core s.taken.items s.taken.items s.events s.events w w) c.from_residual-in_err-took.ensures.1
    (λ C told text line number st is gives. stands_front C text _ number s.core s.taken.items s.events told w st)

pub returns-in-Err-clause-stops : goal.returns-in-Err-clause-stops
returns-in-Err-clause-stops g c C told text line number st is gives = rw c.in-Err.ensures.same.0 (refl, (st, gives, c.in-Err.ensures.scheduled C st.past st.state st.represents))

pub returns-in_err-write_notes-clause-stops : goal.returns-in_err-write_notes-clause-stops
returns-in_err-write_notes-clause-stops g c =
    let s = c.args.self.now in
    let w = g.K.Sink.written c.args.out.now in
    out_of_memory c.from_residual-in_err-write_notes.result (StopsWith c.args.line c.args.event s.core c.step.new.self s.taken.items s.taken.items s.events (s.events + 1) w w) c.from_residual-in_err-write_notes.ensures.1
    (λ C told text line number st is gives. stands_front C text _ number s.core s.taken.items s.events told w st)

pub returns-in_err-write_all-clause-stops : goal.returns-in_err-write_all-clause-stops
returns-in_err-write_all-clause-stops g c =
    let s = c.args.self.now in
    let k = c.in_default.ensures.steps in
    let notes = only_group c.reserve.new.self.items c.step.new.notes.items k.group (c.reserve.ensures.same ∙ c.clear.ensures.items) k.notes in
    let said = c.as_bytes-2.ensures ∙ c.in_ok-write_notes.ensures ∙ ap note_lines (c.as_slice.ensures ∙ notes) in
    let given : Given s.core c.step.new.self c.args.event k.group = record { accepted = c.in_default.ensures.accepted; stands = k.stands } in
    not_written c.in_err-write_all.field-0.0 c.from_residual-in_err-write_all.result (StopsWith c.args.line c.args.event s.core c.step.new.self s.taken.items s.taken.items s.events (s.events + 1) (g.K.Sink.written c.args.out.now) (g.K.Sink.written c.write_all.new.sink)) c.from_residual-in_err-write_all.ensures.1
    (λ C told text line number st is gives. front_in_notes C text line number s.core c.step.new.self c.args.event k.group s.taken.items s.events told (g.K.Sink.written c.args.out.now) _ given st is gives (rw said at c.in_err-write_all.ensures.err_writes_prefix))
    (λ C told text line number st is gives. front_in_notes C text line number s.core c.step.new.self c.args.event k.group s.taken.items s.events told (g.K.Sink.written c.args.out.now) _ given st is gives (rw said at c.in_err-write_all.ensures.err_writes_prefix))

pub returns-in_err-add_took-clause-stops : goal.returns-in_err-add_took-clause-stops
returns-in_err-add_took-clause-stops g c =
    let s = c.args.self.now in
    let k = c.in_default.ensures.steps in
    let notes = only_group c.reserve.new.self.items c.step.new.notes.items k.group (c.reserve.ensures.same ∙ c.clear.ensures.items) k.notes in
    let said = c.as_bytes-2.ensures ∙ c.in_ok-write_notes.ensures ∙ ap note_lines (c.as_slice.ensures ∙ notes) in
    let given : Given s.core c.step.new.self c.args.event k.group = record { accepted = c.in_default.ensures.accepted; stands = k.stands } in
    out_of_memory c.from_residual-in_err-add_took.result (StopsWith c.args.line c.args.event s.core c.step.new.self s.taken.items c.add_took.new.all.items s.events (s.events + 1) (g.K.Sink.written c.args.out.now) (g.K.Sink.written c.write_all.new.sink)) c.from_residual-in_err-add_took.ensures.1
    (λ C told text line number st is gives.
    let next = stands_next C text line number s.core c.step.new.self c.args.event k.group s.taken.items _ s.events told (g.K.Sink.written c.args.out.now) (g.K.Sink.written c.write_all.new.sink) given refl st is gives (rw said at c.in_ok-write_all.ensures.ok_writes_all) in
    written_front C _ _ _ _ _ _ _ next)

pub returns-clause-goes_on : goal.returns-clause-goes_on
returns-clause-goes_on g c C told text line number st is gives =
    let s = c.args.self.now in
    let k = c.in_default.ensures.steps in
    let notes = only_group c.reserve.new.self.items c.step.new.notes.items k.group (c.reserve.ensures.same ∙ c.clear.ensures.items) k.notes in
    let said = c.as_bytes-2.ensures ∙ c.in_ok-write_notes.ensures ∙ ap note_lines (c.as_slice.ensures ∙ notes) in
    let given : Given s.core c.step.new.self c.args.event k.group = record { accepted = c.in_default.ensures.accepted; stands = k.stands } in
    stands_next C text line number s.core c.step.new.self c.args.event k.group s.taken.items c.add_took.new.all.items s.events told (g.K.Sink.written c.args.out.now) (g.K.Sink.written c.write_all.new.sink) given
    (c.in_ok-add_took.ensures (are_rising C st.past st.state s.taken.items st.represents.sound.leads st.taken_is) ∙ ap (λ t. with_took t s.taken.items) c.in_ok-took.ensures) st is gives (rw said at c.in_ok-write_all.ensures.ok_writes_all)
