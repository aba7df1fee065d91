use Rattle.std.proofs.Common.{◌≡◌, false, length}
use Rattle.px_bytes.specs.Glob.{behind_set}
use Rattle.px_bytes.proofs.piece.behind_set.Given as goal

abbrev pub invariant-loop-items : goal.invariant-loop-items
invariant-loop-items l = behind_set l.byte l.found 0 l.items ≡ behind_set l.byte false 0 l.fn.set

abbrev pub decreases-loop-items : goal.decreases-loop-items
decreases-loop-items l = length l.items
