use Rattle.std.proofs.Common.{◌<◌, length, Some, None, inl, inr, sym, refl}
use Rattle.px_outside.specs.Net.{Write}
use Rattle.serve_loop.proofs.Fresh.{once_none, owners_same}
use Rattle.serve_loop.proofs.Calling.{call_quiet, call_heard, nothing_to_write, part_wrote, takes_write, is_nothing, is_some}
use Rattle.serve_loop.specs.Broken.{AreAsks}
use Rattle.serve_loop.proofs.Breaking.{broke_heard}
use Rattle.serve_loop.proofs.Exits.{at_fault}
use Rattle.serve_loop.proofs.serving.Serving.write_once.Goals as goal

pub returns-in_default-clause-part : goal.returns-in_default-clause-part
returns-in_default-clause-part g c =
    nothing_to_write c.args.self.now.conns c.args.conn c.args.side c.args.self.now c.args.net.now (inl (sym c.in_default.ensures))

pub returns-then-is_empty-clause-part : goal.returns-then-is_empty-clause-part
returns-then-is_empty-clause-part g c =
    let nothing = is_nothing c.front-bytes.result.now c.if-is_empty.ensures in
    nothing_to_write c.args.self.now.conns c.args.conn c.args.side c.args.self.now c.args.net.now (inr (rw nothing at c.front-bytes.ensures.queue))

pub returns-in-None-clause-part : goal.returns-in-None-clause-part
returns-in-None-clause-part g c =
    let bytes = c.front-bytes.result.now in
    let some : 0 < length bytes = is_some bytes c.if-is_empty.ensures in
    let linked = sym c.in-Some.ensures in
    let queued = c.front-bytes.ensures.queue in
    rw c.asked_of.ensures
    (part_wrote c.args.conn c.args.side c.in-Some.link bytes c.write-answer.result None linked queued c.write-answer.ensures.within c.in-None.ensures
    (call_quiet c.args.self.now c.args.net.now c.write-answer.new.self (Write c.in-Some.link bytes c.write-answer.result)
    c.write-answer.ensures.did (once_none c.write-answer.ensures.lasts.given)
    (record { conn = c.args.conn; side = c.args.side; linked = linked; queued = queued; some = some; becomes = c.in-None.ensures }) refl))

pub returns-in_ok-give-in-Some-write_to_event-clause-part : goal.returns-in_ok-give-in-Some-write_to_event-clause-part
returns-in_ok-give-in-Some-write_to_event-clause-part g c =
    let bytes = c.front-bytes.result.now in
    let some : 0 < length bytes = is_some bytes c.if-is_empty.ensures in
    let linked = sym c.in-Some.ensures in
    let queued = c.front-bytes.ensures.queue in
    let event = c.in-Some-write_to_event.ensures in
    let lasts = c.write-answer.ensures.lasts.given in
    rw c.asked_of-in-Some-write_to_event.ensures
    (part_wrote c.args.conn c.args.side c.in-Some.link bytes c.write-answer.result (Some c.in-Some-write_to_event.event) linked queued
    c.write-answer.ensures.within event
    (call_heard c.args.self.now c.args.self.now.links c.give.new.self c.args.net.now c.write-answer.new.self c.give.new.net
    (Write c.in-Some.link bytes c.write-answer.result) c.in-Some-write_to_event.event c.write-answer.ensures.did (once_none lasts)
    (owners_same _ c.args.self.now.links) (λ known l r e. lasts l (known l r e))
    (record { conn = c.args.conn; side = c.args.side; linked = linked; queued = queued; some = some; becomes = event }) refl
    (takes_write c.args.conn c.args.side (length bytes) c.write-answer.result c.in-Some-write_to_event.event (c.front-bytes.ensures.takes some)
    c.write-answer.ensures.within (sym event)) c.in_ok-give-in-Some-write_to_event.ensures.gives))

pub returns-in_err-give-in-Some-write_to_event-clause-broke : goal.returns-in_err-give-in-Some-write_to_event-clause-broke
returns-in_err-give-in-Some-write_to_event-clause-broke g c =
    let bytes = c.front-bytes.result.now in
    let some : 0 < length bytes = is_some bytes c.if-is_empty.ensures in
    let event = c.in-Some-write_to_event.ensures in
    let lasts = c.write-answer.ensures.lasts.given in
    at_fault _ c.from_residual.result c.in_err-give-in-Some-write_to_event.field-0.0 c.from_residual.ensures.1
    (broke_heard AreAsks c.args.self.now c.args.self.now.links c.give.new.self c.args.net.now c.write-answer.new.self c.give.new.net
    (Write c.in-Some.link bytes c.write-answer.result) c.in-Some-write_to_event.event c.write-answer.ensures.did (once_none lasts)
    (λ known l r e. lasts l (known l r e))
    (record { conn = c.args.conn; side = c.args.side; linked = sym c.in-Some.ensures; queued = c.front-bytes.ensures.queue; some = some; becomes = event })
    refl (λ o. (tt, tt))
    (takes_write c.args.conn c.args.side (length bytes) c.write-answer.result c.in-Some-write_to_event.event (c.front-bytes.ensures.takes some)
    c.write-answer.ensures.within (sym event)) c.in_err-give-in-Some-write_to_event.ensures.broke)
