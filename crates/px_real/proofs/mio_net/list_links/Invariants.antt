use Rattle.px_outside.specs.Net.{ListsAlive}
use Rattle.px_real.specs.Links.{IsOpen}
use Rattle.px_real.proofs.mio_net.list_links.Given as goal

abbrev pub invariant-loop-number : goal.invariant-loop-number
invariant-loop-number l = ListsAlive (IsOpen l.links) l.out
