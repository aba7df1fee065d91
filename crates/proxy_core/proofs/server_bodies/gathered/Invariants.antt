use Rattle.std.proofs.Common.{◌≡◌, take}
use Rattle.proxy_core.specs.Bodies.{gathered}
use Rattle.proxy_core.proofs.server_bodies.gathered.Given as goal

abbrev pub invariant-loop-number : goal.invariant-loop-number
invariant-loop-number l = l.all ≡ gathered l.rules l.event (take l.number-index l.numbers)
