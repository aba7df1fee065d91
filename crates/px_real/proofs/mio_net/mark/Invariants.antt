use Rattle.px_real.specs.Links.{SameLinks}
use Rattle.px_real.proofs.mio_net.mark.Given as goal

abbrev pub invariant-loop-event : goal.invariant-loop-event
invariant-loop-event l = SameLinks l.fn.links l.links
