use Rattle.std.proofs.Common.{◌≡◌, ◌++◌, drop}
use Rattle.px_outside.specs.MemNet.{alive_from}
use Rattle.px_outside.proofs.mem_net.MemNet.list_links.Given as goal

abbrev pub invariant-loop-i : goal.invariant-loop-i
invariant-loop-i l =
    l.out ++ alive_from l.i (drop l.i l.self.links) ≡ l.fn.out ++ alive_from 0 l.fn.self.links
