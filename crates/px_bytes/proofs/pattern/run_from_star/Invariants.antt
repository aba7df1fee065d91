use Rattle.std.proofs.Common.{◌↔◌, length}
use Rattle.px_bytes.specs.Glob.{Matches}
use Rattle.px_bytes.specs.GlobRun.{starred}
use Rattle.px_bytes.proofs.pattern.run_from_star.Given as goal

abbrev pub invariant-loop-rest : goal.invariant-loop-rest
invariant-loop-rest l = Matches (starred l.fn.behind) l.rest ↔ Matches (starred l.fn.behind) l.fn.text

abbrev pub decreases-loop-rest : goal.decreases-loop-rest
decreases-loop-rest l = length l.rest
