use Rattle.std.proofs.Common.{◌≡◌, ◌++◌, length}
use Rattle.px_bytes.specs.Escapes.{escaped}
use Rattle.px_bytes.proofs.escapes.escape.Given as goal

abbrev pub invariant-loop-out : goal.invariant-loop-out
invariant-loop-out l = l.out.items ++ escaped l.rest ≡ escaped l.fn.bytes

abbrev pub decreases-loop-out : goal.decreases-loop-out
decreases-loop-out l = length l.rest
