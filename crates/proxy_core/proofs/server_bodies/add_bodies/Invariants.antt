use Rattle.std.proofs.Common.{◌≡◌, ◌++◌, take}
use Rattle.proxy_core.specs.Bodies.{placed}
use Rattle.proxy_core.proofs.server_bodies.add_bodies.Given as goal

abbrev pub invariant-loop-number : goal.invariant-loop-number
invariant-loop-number l = l.all ≡ l.initial.all ++ placed l.rule 0 (take l.number l.handlers)
