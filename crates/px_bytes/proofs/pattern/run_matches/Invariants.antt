use Rattle.px_bytes.specs.GlobRun.{Settles, left_of}
use Rattle.px_bytes.proofs.pattern.run_matches.Given as goal

abbrev pub invariant-loop-run : goal.invariant-loop-run
invariant-loop-run l = Settles l.fn.pattern l.fn.text l.run

abbrev pub decreases-loop-run : goal.decreases-loop-run
decreases-loop-run l = left_of l.run
