use Rattle.px_outside.specs.Net.{ListsAlive}
use Rattle.px_real.specs.Links.{IsOpen}
use Rattle.px_real.proofs.mio_net.list.Given as goal

abbrev pub invariant-loop-event : goal.invariant-loop-event
invariant-loop-event l = ListsAlive (IsOpen l.links) l.out
