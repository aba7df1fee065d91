use Rattle.std.proofs.Common.{◌≡◌, ◌-◌, drop, length}
use Rattle.proxy_core.specs.Bodies.{place_priority}
use Rattle.record_model.specs.Order.{by_priority}
use Rattle.proxy_core.proofs.server_bodies.by_priority.Given as goal

abbrev pub invariant-loop-i : goal.invariant-loop-i
invariant-loop-i l = l.sorted.items ≡ by_priority place_priority (drop (length l.all - l.i) l.all)
