use Rattle.std.proofs.Common.{sym, ◌∙◌, refl, length}
use Rattle.px_outside.specs.Net.{Read, got}
use Rattle.px_outside.specs.declared.answers.ReadyAt.TheVariants as ready
use Rattle.serve_loop.proofs.Calling.{part_quiet, part_heard, part_read, takes_read}
use Rattle.serve_loop.proofs.Fresh.{once_none, owners_same}
use Rattle.serve_loop.specs.declared.fault.ServeFault.TheVariants.{Memory as OutOfMemory}
use Rattle.serve_loop.specs.Broken.{AreAsks}
use Rattle.serve_loop.proofs.Breaking.{broke_heard}
use Rattle.serve_loop.proofs.Losing.{read_lost}
use Rattle.serve_loop.proofs.Exits.{at_fault}
use Rattle.serve_loop.proofs.serving.Serving.read_into.Goals as goal

pub returns-in-None-clause-part : goal.returns-in-None-clause-part
returns-in-None-clause-part g c =
    let none = sym c.in_ok-read_to_event.ensures ∙ c.in-None.is in
    let wanted = c.requires.wanted in
    rw c.asked_by.ensures
    (part_read _ (part_quiet (ready.Link c.args.link) c.args.self.now c.args.net.now c.read-answer.new.self
    (Read c.args.link (length c.args.room.now) c.read-answer.result (got c.read-answer.result c.read-answer.new.room))
    c.read-answer.ensures.did (once_none c.read-answer.ensures.lasts.given) refl
    (record {
      row = c.args.row;
      owned = c.requires.owned;
      wanted = wanted.wanted;
      wants = wanted.wants;
      some = c.requires.some;
      within = wanted.within;
      becomes = sym none;
    }) refl))

pub returns-in_ok-give-in-Some-clause-part : goal.returns-in_ok-give-in-Some-clause-part
returns-in_ok-give-in-Some-clause-part g c =
    let some = sym c.in_ok-read_to_event.ensures ∙ c.in-Some.is in
    let wanted = c.requires.wanted in
    let lasts = c.read-answer.ensures.lasts.given in
    rw c.asked_by-in-Some.ensures
    (part_read _ (part_heard (ready.Link c.args.link) c.args.self.now c.args.self.now.links c.give.new.self c.args.net.now c.read-answer.new.self
    c.give.new.net (Read c.args.link (length c.args.room.now) c.read-answer.result (got c.read-answer.result c.read-answer.new.room)) c.in-Some.event
    c.read-answer.ensures.did (once_none lasts) (owners_same _ c.args.self.now.links) (λ known l r e. lasts l (known l r e)) refl
    (record {
      row = c.args.row;
      owned = c.requires.owned;
      wanted = wanted.wanted;
      wants = wanted.wants;
      some = c.requires.some;
      within = wanted.within;
      becomes = sym some;
    }) refl
    (takes_read c.args.row.conn c.args.row.side wanted.wanted (length c.args.room.now) c.read-answer.result c.read-answer.new.room c.in-Some.event wanted.may
    c.read-answer.ensures.within wanted.within some) c.in_ok-give-in-Some.ensures.gives))

pub returns-in_err-read_to_event-clause-broke : goal.returns-in_err-read_to_event-clause-broke
returns-in_err-read_to_event-clause-broke g c =
    at_fault _ c.from_residual.result OutOfMemory c.from_residual.ensures.1
    (read_lost c.args.self.now c.args.net.now c.read-answer.new.self c.args.row c.args.link (length c.args.room.now) c.read-answer.result
    (got c.read-answer.result c.read-answer.new.room) c.read-answer.ensures.did (once_none c.read-answer.ensures.lasts.given)
    c.requires.owned c.requires.some c.requires.wanted _ refl)

pub returns-in_err-give-in-Some-clause-broke : goal.returns-in_err-give-in-Some-clause-broke
returns-in_err-give-in-Some-clause-broke g c =
    let some = sym c.in_ok-read_to_event.ensures ∙ c.in-Some.is in
    let wanted = c.requires.wanted in
    let lasts = c.read-answer.ensures.lasts.given in
    at_fault _ c.from_residual-in_err-give-in-Some.result c.in_err-give-in-Some.field-0.0 c.from_residual-in_err-give-in-Some.ensures.1
    (broke_heard AreAsks c.args.self.now c.args.self.now.links c.give.new.self c.args.net.now c.read-answer.new.self c.give.new.net
    (Read c.args.link (length c.args.room.now) c.read-answer.result (got c.read-answer.result c.read-answer.new.room)) c.in-Some.event
    c.read-answer.ensures.did (once_none lasts) (λ known l r e. lasts l (known l r e))
    (record {
      row = c.args.row;
      owned = c.requires.owned;
      wanted = wanted.wanted;
      wants = wanted.wants;
      some = c.requires.some;
      within = wanted.within;
      becomes = sym some;
    }) refl (λ o. (tt, tt))
    (takes_read c.args.row.conn c.args.row.side wanted.wanted (length c.args.room.now) c.read-answer.result c.read-answer.new.room c.in-Some.event wanted.may
    c.read-answer.ensures.within wanted.within some) c.in_err-give-in-Some.ensures.broke)
