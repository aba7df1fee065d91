use Rattle.px_outside.specs.Net.{ListsAlive}
use Rattle.px_real.specs.Links.{IsOpen}
use Rattle.px_real.proofs.mio_net.list_listeners.Given as goal

abbrev pub invariant-loop-slot : goal.invariant-loop-slot
invariant-loop-slot l = ListsAlive (IsOpen l.links) l.out
