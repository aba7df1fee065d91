use Rattle.std.proofs.Common.{◌≡◌, ◌++◌, length}
use Rattle.tcl_lists.specs.Escape.{replaced}
use Rattle.tcl_lists.proofs.value.replaced.Given as goal

abbrev pub invariant-loop-out : goal.invariant-loop-out
invariant-loop-out l = l.out.items ++ replaced l.rest ≡ replaced l.fn.raw

abbrev pub decreases-loop-out : goal.decreases-loop-out
decreases-loop-out l = length l.rest
