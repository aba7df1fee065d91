use Rattle.std.proofs.Common.{ℕ, ◌≤◌, ◌<◌, inl, inr, refl, ap, ◌∙◌, subst, arith}
use Rattle.std.specs.Prelude.{min}
use Rattle.core_events.specs.declared.event.Event.TheVariants as event
use Rattle.serve_loop.specs.Part.{Part}
use Rattle.serve_loop.specs.Running.{OwnStep}
use Rattle.serve_loop.specs.Turn.{Ticks, tick_limit}
use Rattle.serve_loop.proofs.Compose.{part_at, part_nothing}
use Rattle.serve_loop.proofs.Calling.{part_own}
use Rattle.serve_loop.specs.Fallen.{FellTick}
use Rattle.serve_loop.specs.Part.{stand}
use Rattle.serve_loop.proofs.Breaking.{broke_own}
use Rattle.serve_loop.proofs.Exits.{at_fault}
use Rattle.serve_loop.proofs.serving.Serving.tick.Goals as goal

pub returns-clause-part : goal.returns-clause-part
returns-clause-part g c =
    let above : c.moment.result < min c.args.now tick_limit = subst (λ t. c.moment.result < t) c.limited-moment.ensures c.if-moment.false in
    let le : c.moment.result ≤ c.limited-moment.result = omega arith in
    part_at (λ steps r. record { present = c.moment.result; is_present = c.moment.ensures.moment; ticks = inl (above, r) })
    (subst (λ (t : ℕ). Part g.C.EventCore.face g.N.Net.did g.N.Net.gave (OwnStep g.C.EventCore.face (event.Tick t)) c.args.self.now c.give.new.self
    c.args.net.now c.give.new.net) c.limited-moment.ensures
    (part_own (event.Tick c.limited-moment.result) (λ s. c.moment.ensures.takes c.limited-moment.result le) c.in_ok-give.ensures.gives))

pub returns-then-moment-clause-part : goal.returns-then-moment-clause-part
returns-then-moment-clause-part g c =
    part_nothing (Ticks g.C.EventCore.face c.args.now) c.args.self.now c.args.net.now (record {
      present = c.moment.result;
      is_present = c.moment.ensures.moment;
      ticks = inr (record { none = refl; same = refl; because = subst (λ (t : ℕ). t ≤ c.moment.result) c.limited-moment.ensures c.if-moment.true });
    })

pub returns-in_err-give-clause-broke : goal.returns-in_err-give-clause-broke
returns-in_err-give-clause-broke g c =
    let above : c.moment.result < min c.args.now tick_limit = subst (λ t. c.moment.result < t) c.limited-moment.ensures c.if-moment.false in
    let le : c.moment.result ≤ c.limited-moment.result = omega arith in
    at_fault _ c.from_residual.result c.in_err-give.field-0.0 c.from_residual.ensures.1
    (broke_own (FellTick g.C.EventCore.face c.args.now (stand c.args.self.now)) (event.Tick c.limited-moment.result) tt
    (record { present = c.moment.result; is_present = c.moment.ensures.moment; above = above; tick = tt })
    (λ given is. record { present = c.moment.result; is_present = c.moment.ensures.moment; above = above; tick = is ∙ ap event.Tick c.limited-moment.ensures })
    (λ s. c.moment.ensures.takes c.limited-moment.result le) c.in_err-give.ensures.broke)
