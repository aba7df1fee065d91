use Rattle.std.proofs.Common.{◌≡◌, ◌∙◌, [], ap, Err, subst}
use Rattle.journal_text.specs.Notes.{note_lines}
use Rattle.record_model.specs.Setup.{init_notes}
use Rattle.run_config.specs.declared.config.Config.{Config}
use Rattle.px_outside.specs.Outside.{AddsPrefix}
use Rattle.proxy.specs.Stops.{StopsAtStart}
use Rattle.proxy.specs.Written.{WritesNotes}
use Rattle.proxy.specs.declared.replay.Stop.{Stop}
use Rattle.proxy.proofs.Stopping.{counted, out_of_memory, not_written, start_front, front_none}
use Rattle.proxy.proofs.replay.write_start.Goals as goal

pub returns-in_err-lines-clause-stops : goal.returns-in_err-lines-clause-stops
returns-in_err-lines-clause-stops g c =
    let w = g.K.Sink.written c.args.out.now in
    let P : Stop → Type 0 = λ why. (C : Config) → c.args.notes.now ≡ init_notes C → StopsAtStart C w w why in
    out_of_memory c.from_residual.result P c.from_residual.ensures.1 (λ C is. start_front C w w (front_none (note_lines (init_notes C)) w))

pub returns-in_err-write_all-clause-stops : goal.returns-in_err-write_all-clause-stops
returns-in_err-write_all-clause-stops g c =
    let old = g.K.Sink.written c.args.out.now in
    let new = g.K.Sink.written c.write_all.new.sink in
    let said = c.as_bytes.ensures ∙ c.in_ok-lines.ensures in
    let P : Stop → Type 0 = λ why. (C : Config) → c.args.notes.now ≡ init_notes C → StopsAtStart C old new why in
    let front : (C : Config) → c.args.notes.now ≡ init_notes C → WritesNotes C [] old new = λ C is.
    let part = subst (λ t. AddsPrefix t old new) (said ∙ ap note_lines is) c.in_err-write_all.ensures.err_writes_prefix in
    start_front C old new (part.taken, part.written) in
    not_written c.in_err-write_all.field-0.0 c.from_residual-in_err-write_all.result P c.from_residual-in_err-write_all.ensures.1 front front

pub returns-in_err-write_all-clause-failed_is_counted : goal.returns-in_err-write_all-clause-failed_is_counted
returns-in_err-write_all-clause-failed_is_counted g c =
    counted c.in_err-write_all.field-0.0 c.from_residual-in_err-write_all.result _ c.from_residual-in_err-write_all.ensures.1 (λ e. c.in_err-write_all.ensures.failed_is_counted (ap Err e))
