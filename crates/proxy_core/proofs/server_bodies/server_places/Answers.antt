use Rattle.std.proofs.Common.{◌≡◌, ap, ◌∙◌, map, take, arith}
use Rattle.event_order.specs.Event.{every_event}
use Rattle.proxy_core.specs.Bodies.{places_of, server_places}
use Rattle.proxy_core.proofs.server_bodies.server_places.Goals as goal

pub returns : goal.returns
unfolding server_places
returns c =
    let all : c.loop-event.event-index ≡ 13 = omega arith in
    c.loop-event.invariant ∙ ap (λ n. map (places_of c.args.rules.now c.args.numbers.now) (take n every_event)) all
