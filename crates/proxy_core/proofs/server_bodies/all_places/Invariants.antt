use Rattle.std.proofs.Common.{◌≡◌, take}
use Rattle.proxy_core.specs.Bodies.{all_places}
use Rattle.proxy_core.proofs.server_bodies.all_places.Given as goal

abbrev pub invariant-loop-server : goal.invariant-loop-server
invariant-loop-server l = l.made ≡ all_places l.rules (take l.server-index l.virtuals)
