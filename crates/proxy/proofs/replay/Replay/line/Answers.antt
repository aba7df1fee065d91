use Rattle.std.proofs.Common.{◌∙◌, ap, Ok}
use Rattle.proxy.specs.Stops.{GoesOnWith, GoesOnBehind, StopsWith, StopsBehind}
use Rattle.proxy.proofs.LineStops.{skips, at_line, event_gives}
use Rattle.proxy.proofs.LineStops.{goes_behind, stops_behind}
use Rattle.proxy.proofs.Stopping.{stands_front}
use Rattle.proxy.proofs.replay.Replay.line.Goals as goal

pub returns-in-Ok-None-clause-goes_on : goal.returns-in-Ok-None-clause-goes_on
returns-in-Ok-None-clause-goes_on g c C told text number st =
    let s = c.args.self.now in
    skips C text c.args.text.now number s.core s.taken.items s.events told _ st c.requires.is_line (c.line_event.ensures.skipped.0 (c.in-Ok-None.is ∙ ap Ok c.in-Ok-None.field-0-is))

pub returns-in-Ok-Some-clause-goes_on : goal.returns-in-Ok-Some-clause-goes_on
returns-in-Ok-Some-clause-goes_on g c =
    let s = c.args.self.now in
    let n = c.event.new.self in
    let before = g.K.Sink.written c.args.out.now in
    let after = g.K.Sink.written c.event.new.out in
    let e = c.in-Ok-Some.is ∙ ap Ok c.in-Ok-Some.field-0-is in
    goes_behind c.event.result (GoesOnWith c.in-Ok-Some.event s.core n.core s.taken.items n.taken.items s.events n.events before after) (GoesOnBehind c.args.text.now s.core n.core s.taken.items n.taken.items s.events n.events before after)
    (λ k C told text number st. k C told text c.args.text.now number st c.requires.is_line (event_gives c.args.text.now c.line_event.result c.in-Ok-Some.event e c.line_event.ensures.skipped c.line_event.ensures.event))
    c.event.ensures.goes_on

pub returns-in-Ok-Some-clause-stops : goal.returns-in-Ok-Some-clause-stops
returns-in-Ok-Some-clause-stops g c =
    let s = c.args.self.now in
    let n = c.event.new.self in
    let before = g.K.Sink.written c.args.out.now in
    let after = g.K.Sink.written c.event.new.out in
    let e = c.in-Ok-Some.is ∙ ap Ok c.in-Ok-Some.field-0-is in
    stops_behind c.event.result (StopsWith c.args.line c.in-Ok-Some.event s.core n.core s.taken.items n.taken.items s.events n.events before after) (StopsBehind c.args.line c.args.text.now s.core n.core s.taken.items n.taken.items s.events n.events before after)
    (λ why k C told text number st. at_line C text c.args.text.now number c.args.line c.in-Ok-Some.event n.core n.taken.items n.events told after why (k C told text c.args.text.now number st c.requires.is_line (event_gives c.args.text.now c.line_event.result c.in-Ok-Some.event e c.line_event.ensures.skipped c.line_event.ensures.event)))
    c.event.ensures.stops

pub returns-in-Err-Memory-clause-stops : goal.returns-in-Err-Memory-clause-stops
returns-in-Err-Memory-clause-stops g c C told text number st =
    let s = c.args.self.now in stands_front C text _ number s.core s.taken.items s.events told _ st
