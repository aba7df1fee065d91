use Rattle.std.proofs.Common.{length}
use Rattle.px_bytes.specs.GlobRun.{ComesTo}
use Rattle.px_bytes.proofs.pattern.run_to_star.Given as goal

abbrev pub invariant-loop-pieces : goal.invariant-loop-pieces
invariant-loop-pieces l = ComesTo l.fn.pattern l.fn.text l.pieces l.rest

abbrev pub decreases-loop-pieces : goal.decreases-loop-pieces
decreases-loop-pieces l = length l.pieces
