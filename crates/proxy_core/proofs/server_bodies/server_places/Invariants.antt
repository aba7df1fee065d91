use Rattle.std.proofs.Common.{◌≡◌, map, take}
use Rattle.event_order.specs.Event.{every_event}
use Rattle.proxy_core.specs.Bodies.{places_of}
use Rattle.proxy_core.proofs.server_bodies.server_places.Given as goal

abbrev pub invariant-loop-event : goal.invariant-loop-event
invariant-loop-event l = l.made ≡ map (places_of l.rules l.numbers) (take l.event-index every_event)
