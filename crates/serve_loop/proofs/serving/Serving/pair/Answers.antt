use Rattle.std.proofs.Common.{inl, inr}
use Rattle.core_events.specs.declared.event.Event.TheVariants as event
use Rattle.serve_loop.proofs.Compose.{part_then, part_less}
use Rattle.serve_loop.proofs.Calling.{part_own}
use Rattle.serve_loop.specs.Broken.{AreAsks}
use Rattle.serve_loop.proofs.Breaking.{broke_after, broke_own}
use Rattle.serve_loop.proofs.Exits.{at_fault}
use Rattle.serve_loop.proofs.Walking.{run_goes}
use Rattle.serve_loop.proofs.serving.Serving.pair.Goals as goal

pub returns-clause-part : goal.returns-clause-part
returns-clause-part g c =
    part_less (λ a steps b r. r) (part_then (part_own event.Run (λ s. (g.met.C.EventCore.always c.args.self.now.core s).0) c.in_ok-give.ensures.gives)
    (part_own event.Turn (λ s. (g.met.C.EventCore.always c.give.new.self.core s).1) c.in_ok-give-2.ensures.gives))

pub returns-in_err-give-clause-broke : goal.returns-in_err-give-clause-broke
returns-in_err-give-clause-broke g c =
    at_fault _ c.from_residual.result c.in_err-give.field-0.0 c.from_residual.ensures.1
    (broke_own AreAsks event.Run tt tt (λ given is. (inl is, tt)) (λ s. (g.met.C.EventCore.always c.args.self.now.core s).0) c.in_err-give.ensures.broke)

pub returns-in_err-give-2-clause-broke : goal.returns-in_err-give-2-clause-broke
returns-in_err-give-2-clause-broke g c =
    at_fault _ c.from_residual-in_err-give-2.result c.in_err-give-2.field-0.0 c.from_residual-in_err-give-2.ensures.1
    (broke_after (run_goes g.C.EventCore.face c.args.self.now.conns)
    (part_own event.Run (λ s. (g.met.C.EventCore.always c.args.self.now.core s).0) c.in_ok-give.ensures.gives)
    (broke_own AreAsks event.Turn tt tt (λ given is. (inr is, tt)) (λ s. (g.met.C.EventCore.always c.give.new.self.core s).1) c.in_err-give-2.ensures.broke))
