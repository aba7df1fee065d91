use Rattle.std.proofs.Common.{inr, refl, arith}
use Rattle.proxy.specs.declared.replay.Stop.TheVariants as stop
use Rattle.proxy.proofs.Finishing.{done_replayed, text_replayed, event_replayed, rose_earlier, start_stopped}
use Rattle.proxy.proofs.run_schedule.counted_replay.Goals as goal

pub returns-in-Ok-lines-clause-replayed : goal.returns-in-Ok-lines-clause-replayed
returns-in-Ok-lines-clause-replayed g c =
    let old = g.K.Sink.written c.args.out.now in
    let st = c.in-Ok-lines.ensures.goes_on c.args.config old c.in-Ok.ensures.stands in
    rw c.unless.ensures (done_replayed c.args.config c.args.schedule.now c.lines.new.self c.end_line-last.result old _ _ _ _ _ c.finish.result st (omega (arith, c.start.ensures.faults_never_fall, c.lines.ensures.faults_never_fall)) c.end_line-last.ensures c.finish.ensures.finished)

pub returns-in-Err-Text-clause-replayed : goal.returns-in-Err-Text-clause-replayed
returns-in-Err-Text-clause-replayed g c =
    let old = g.K.Sink.written c.args.out.now in
    let st = (rw c.in-Err-Text.field-0-is at c.in-Err-Text.ensures.stops) c.args.config old c.in-Ok.ensures.stands in
    rw c.unless-in-Err-Text.ensures (text_replayed c.args.config c.args.schedule.now c.lines.new.self c.in-Err-Text.line c.in-Err-Text.kind c.text_fault_line-last.result old _ _ _ _ _ c.finish-in-Err-Text.result st (omega (arith, c.start.ensures.faults_never_fall, c.lines.ensures.faults_never_fall)) c.text_fault_line-last.ensures c.finish-in-Err-Text.ensures.finished)

pub returns-in-Err-Event-clause-replayed : goal.returns-in-Err-Event-clause-replayed
returns-in-Err-Event-clause-replayed g c =
    let old = g.K.Sink.written c.args.out.now in
    let st = (rw c.in-Err-Event.field-0-is at c.in-Err-Event.ensures.stops) c.args.config old c.in-Ok.ensures.stands in
    rw c.unless-in-Err-Event.ensures (event_replayed c.args.config c.args.schedule.now c.lines.new.self c.in-Err-Event.line c.in-Err-Event.why c.event_fault_line-last.result old _ _ _ _ _ c.finish-in-Err-Event.result st (omega (arith, c.start.ensures.faults_never_fall, c.lines.ensures.faults_never_fall)) c.event_fault_line-last.ensures c.finish-in-Err-Event.ensures.finished)

pub returns-in-Err-WriteFault-clause-replayed : goal.returns-in-Err-WriteFault-clause-replayed
returns-in-Err-WriteFault-clause-replayed g c =
    let old = g.K.Sink.written c.args.out.now in
    let new = g.K.Sink.written c.start.new.out in (
      (rw c.in-Err-WriteFault.field-0-is at c.in-Err-WriteFault.ensures.failed_is_counted) refl,
      start_stopped c.args.config c.args.schedule.now old new stop.WriteFault (rw c.in-Err-WriteFault.field-0-is at c.in-Err-WriteFault.ensures.stops),
    )

pub returns-in-Err-clause-replayed : goal.returns-in-Err-clause-replayed
returns-in-Err-clause-replayed g c =
    inr (start_stopped c.args.config c.args.schedule.now (g.K.Sink.written c.args.out.now) (g.K.Sink.written c.start.new.out) _ c.in-Err.ensures.stops)

pub returns-in-Err-WriteFault-lines-clause-replayed : goal.returns-in-Err-WriteFault-lines-clause-replayed
returns-in-Err-WriteFault-lines-clause-replayed g c =
    let old = g.K.Sink.written c.args.out.now in (
      rose_earlier _ _ _ c.start.ensures.faults_never_fall ((rw c.in-Err-WriteFault-lines.field-0-is at c.in-Err-WriteFault-lines.ensures.failed_is_counted) refl),
      (rw c.in-Err-WriteFault-lines.field-0-is at c.in-Err-WriteFault-lines.ensures.stops) c.args.config old c.in-Ok.ensures.stands,
    )

pub returns-clause-replayed : goal.returns-clause-replayed
returns-clause-replayed g c =
    let old = g.K.Sink.written c.args.out.now in
    inr ((rw c.in-Err-Memory.field-0-is at c.in-Err-Memory.ensures.stops) c.args.config old c.in-Ok.ensures.stands)
