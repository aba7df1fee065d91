use Rattle.std.proofs.Common.{Ok, Err, refl, ap, ◌∙◌, subst}
use Rattle.std.specs.Prelude.{IfOk}
use Rattle.px_bytes.specs.declared.addr.Side.TheVariants.{Client}
use Rattle.core_events.specs.declared.event.Event.TheVariants as event
use Rattle.px_outside.specs.Net.{Accept, GivesNew}
use Rattle.px_outside.specs.declared.answers.Accepted.TheVariants as accepted
use Rattle.px_outside.specs.declared.answers.ReadyAt.TheVariants as ready
use Rattle.serve_loop.proofs.Carried.{known_open}
use Rattle.serve_loop.proofs.Fresh.{once_none, once_one, owners_open}
use Rattle.serve_loop.proofs.Calling.{part_quiet, part_heard, part_again, part_over}
use Rattle.serve_loop.specs.declared.fault.ServeFault.TheVariants.{Memory as OutOfMemory}
use Rattle.serve_loop.specs.Broken.{AreAsks}
use Rattle.serve_loop.specs.Faults.{fault_of}
use Rattle.serve_loop.proofs.Breaking.{broke_quiet, broke_ungiven, broke_heard}
use Rattle.serve_loop.proofs.Compose.{tells_nothing}
use Rattle.serve_loop.proofs.Exits.{at_fault}
use Rattle.serve_loop.proofs.serving.Serving.accept_as.Goals as goal

pub returns-in-NotYet-clause-part : goal.returns-in-NotYet-clause-part
returns-in-NotYet-clause-part g c =
    part_over (part_quiet (ready.Listener c.args.slot) c.args.self.now c.args.net.now c.accept.new.self (Accept c.args.slot (Ok accepted.NotYet))
    (subst (λ r. g.N.Net.did c.args.net.now (Accept c.args.slot r) c.accept.new.self) (c.in_ok-accept.was ∙ ap Ok c.in-NotYet.is) c.accept.ensures.did)
    (once_none c.accept.ensures.lasts.given) refl ((c.args.number, (c.requires.next, c.requires.within)), refl) refl)

pub returns-in_ok-give-in-One-clause-part : goal.returns-in_ok-give-in-One-clause-part
returns-in_ok-give-in-One-clause-part g c =
    let answer = c.in_ok-accept.was ∙ ap Ok c.in-One.is in
    let new = subst (λ r. IfOk r (GivesNew (g.N.Net.gave c.args.net.now) (g.N.Net.gave c.accept.new.self))) answer c.accept.ensures.is_new in
    part_again (part_heard (ready.Listener c.args.slot) c.args.self.now c.open.new.self c.give.new.self c.args.net.now c.accept.new.self c.give.new.net
    (Accept c.args.slot (Ok (accepted.One c.in-One.link c.in-One.from))) _
    (subst (λ r. g.N.Net.did c.args.net.now (Accept c.args.slot r) c.accept.new.self) answer c.accept.ensures.did)
    (once_one c.in-One.link new c.accept.ensures.lasts.given)
    (owners_open (g.N.Net.gave c.args.net.now) c.args.self.now.links c.open.new.self c.in-One.link c.args.number Client new.before
    c.in_ok-open-in-One.ensures.opens)
    (known_open (g.N.Net.gave c.args.net.now) (g.N.Net.gave c.accept.new.self) c.args.self.now.links c.open.new.self c.in-One.link c.args.number Client
    c.accept.ensures.lasts.given new.now c.in_ok-open-in-One.ensures.opens) refl
    (record { number = c.args.number; may = (c.requires.next, c.requires.within); name = c.args.vs; named = c.requires.named; becomes = refl })
    (c.args.number, c.requires.next, c.in_ok-open-in-One.ensures.opens) (c.requires.may c.in-One.from) c.in_ok-give-in-One.ensures.gives)

pub returns-in_err-accept-clause-broke : goal.returns-in_err-accept-clause-broke
returns-in_err-accept-clause-broke g c =
    let failed = c.in_err-accept.field-0.0 in
    at_fault _ c.from_residual.result (fault_of failed) c.from_residual.ensures.1
    (broke_quiet AreAsks _ c.args.self.now c.args.net.now c.accept.new.self (Accept c.args.slot (Err failed))
    c.in_err-accept.ensures.did (once_none c.accept.ensures.lasts.given) ((c.args.number, (c.requires.next, c.requires.within)), refl) refl (tt, tt))

pub returns-in_err-open-in-One-clause-broke : goal.returns-in_err-open-in-One-clause-broke
returns-in_err-open-in-One-clause-broke g c =
    let answer = c.in_ok-accept.was ∙ ap Ok c.in-One.is in
    let new = subst (λ r. IfOk r (GivesNew (g.N.Net.gave c.args.net.now) (g.N.Net.gave c.accept.new.self))) answer c.accept.ensures.is_new in
    at_fault _ c.from_residual-in_err-open-in-One.result OutOfMemory c.from_residual-in_err-open-in-One.ensures.1
    (broke_ungiven AreAsks c.args.self.now _ c.args.net.now c.accept.new.self
    (Accept c.args.slot (Ok (accepted.One c.in-One.link c.in-One.from))) (event.Accept c.args.number c.args.vs c.in-One.from)
    (subst (λ r. g.N.Net.did c.args.net.now (Accept c.args.slot r) c.accept.new.self) answer c.accept.ensures.did)
    (once_one c.in-One.link new c.accept.ensures.lasts.given)
    (record { number = c.args.number; may = (c.requires.next, c.requires.within); name = c.args.vs; named = c.requires.named; becomes = refl })
    refl (tells_nothing c.args.self.now.journal) (tt, tt))

pub returns-in_err-give-in-One-clause-broke : goal.returns-in_err-give-in-One-clause-broke
returns-in_err-give-in-One-clause-broke g c =
    let answer = c.in_ok-accept.was ∙ ap Ok c.in-One.is in
    let new = subst (λ r. IfOk r (GivesNew (g.N.Net.gave c.args.net.now) (g.N.Net.gave c.accept.new.self))) answer c.accept.ensures.is_new in
    at_fault _ c.from_residual-in_err-give-in-One.result c.in_err-give-in-One.field-0.0 c.from_residual-in_err-give-in-One.ensures.1
    (broke_heard AreAsks c.args.self.now c.open.new.self c.give.new.self c.args.net.now c.accept.new.self c.give.new.net
    (Accept c.args.slot (Ok (accepted.One c.in-One.link c.in-One.from))) (event.Accept c.args.number c.args.vs c.in-One.from)
    (subst (λ r. g.N.Net.did c.args.net.now (Accept c.args.slot r) c.accept.new.self) answer c.accept.ensures.did)
    (once_one c.in-One.link new c.accept.ensures.lasts.given)
    (known_open (g.N.Net.gave c.args.net.now) (g.N.Net.gave c.accept.new.self) c.args.self.now.links c.open.new.self c.in-One.link c.args.number Client
    c.accept.ensures.lasts.given new.now c.in_ok-open-in-One.ensures.opens)
    (record { number = c.args.number; may = (c.requires.next, c.requires.within); name = c.args.vs; named = c.requires.named; becomes = refl })
    (c.args.number, c.requires.next, c.in_ok-open-in-One.ensures.opens) (λ o. (tt, tt)) (c.requires.may c.in-One.from) c.in_err-give-in-One.ensures.broke)
