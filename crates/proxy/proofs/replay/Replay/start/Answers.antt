use Rattle.std.proofs.Common.{◌∙◌, ap}
use Rattle.journal_text.specs.Notes.{note_lines}
use Rattle.record_model.specs.Setup.{init_notes}
use Rattle.proxy.specs.Stops.{StopsAtStart}
use Rattle.proxy.proofs.Stopping.{out_of_memory, stands_first, start_front, front_none}
use Rattle.proxy.proofs.replay.Replay.start.Goals as goal

pub returns-in_err-core-clause-stops : goal.returns-in_err-core-clause-stops
returns-in_err-core-clause-stops g c =
    let C = c.args.config in
    let w = g.K.Sink.written c.args.out.now in
    out_of_memory c.from_residual.result (StopsAtStart C w w) c.from_residual.ensures.1 (start_front C w w (front_none (note_lines (init_notes C)) w))

pub returns-in-Err-clause-stops : goal.returns-in-Err-clause-stops
returns-in-Err-clause-stops g c = c.in-Err.ensures.stops c.args.config (c.as_slice.ensures ∙ c.in_ok-core.ensures.notes)

pub returns-in-Ok-clause-stands : goal.returns-in-Ok-clause-stands
returns-in-Ok-clause-stands g c =
    let C = c.args.config in
    let notes = c.as_slice.ensures ∙ c.in_ok-core.ensures.notes in
    stands_first C c.in_ok-core.core _ (g.K.Sink.written c.args.out.now) (g.K.Sink.written c.write_start.new.out) c.in_ok-core.ensures.stands c.new-in-Ok.ensures.items
    (rw (ap note_lines notes) at c.in-Ok.ensures.written)
