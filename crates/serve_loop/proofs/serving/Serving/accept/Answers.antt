use Rattle.std.proofs.Common.{List, Option, true, inl, inr, refl, subst}
use Rattle.px_outside.specs.declared.answers.ReadyAt.TheVariants as ready
use Rattle.serve_loop.specs.declared.polled.Polled.TheVariants as is
use Rattle.serve_loop.specs.Asking.{AskedOnce}
use Rattle.serve_loop.proofs.Calling.{part_unknown}
use Rattle.serve_loop.proofs.Compose.{part_nothing}
use Rattle.serve_loop.specs.declared.fault.ServeFault.TheVariants.{Memory as OutOfMemory}
use Rattle.serve_loop.specs.Broken.{AreAsks}
use Rattle.serve_loop.proofs.Breaking.{broke_nothing}
use Rattle.serve_loop.proofs.Exits.{at_fault}
use Rattle.serve_loop.proofs.serving.Serving.accept.Goals as goal

pub returns-in-None-clause-part : goal.returns-in-None-clause-part
returns-in-None-clause-part g c =
    part_unknown c.args.self.now.conns (ready.Listener c.args.slot) c.args.self.now c.args.net.now
    (subst (λ (o : Option (List _)). g.C.EventCore.face.name c.args.self.now.core c.args.slot o) c.in-None.is c.in_ok-name.ensures)

pub returns-in_default-clause-part : goal.returns-in_default-clause-part
returns-in_default-clause-part g c =
    part_nothing (AskedOnce g.C.EventCore.face c.args.self.now.conns (ready.Listener c.args.slot) is.Stays) c.args.self.now c.args.net.now
    (record { none = refl; same = refl; because = inl c.in_default.ensures.next })

pub returns-then-number-self-clause-part : goal.returns-then-number-self-clause-part
returns-then-number-self-clause-part g c =
    part_nothing (AskedOnce g.C.EventCore.face c.args.self.now.conns (ready.Listener c.args.slot) is.Stays) c.args.self.now c.args.net.now
    (record { none = refl; same = refl; because = inr (c.in-Some.number, c.in-Some.ensures.next, c.if-number-self.true) })

pub returns-in_err-name-clause-broke : goal.returns-in_err-name-clause-broke
returns-in_err-name-clause-broke g c =
    at_fault _ c.from_residual.result OutOfMemory c.from_residual.ensures.1 (broke_nothing AreAsks true c.args.self.now c.args.net.now tt)
