use Rattle.std.proofs.Common.{◌≡◌, ◌+◌, ◌≤◌, drop}
use Rattle.px_outside.specs.MemLink.{over}
use Rattle.px_outside.specs.MemNet.{has_ended}
use Rattle.px_outside.proofs.mem_net.MemNet.over_items.Given as goal

abbrev pub invariant-loop-item : goal.invariant-loop-item
invariant-loop-item l = (l.n ≤ l.item-index)
    × (over (has_ended l.self.links) l.reads ≡ l.n + over (has_ended l.self.links) (drop l.item-index l.reads))
