use Rattle.std.proofs.Common.{◌≡◌, ◌+◌, ◌*◌, ◌≤◌, ◌++◌, false, length}
use Rattle.http_answers.specs.Answers.{written_given}
use Rattle.http_heads.specs.Written.{lines_of}
use Rattle.http_answers.specs.Options.{pairs_of}
use Rattle.http_answers.proofs.given.put_given.Given as goal

abbrev pub invariant-loop-rest : goal.invariant-loop-rest
invariant-loop-rest l =
    (l.out.items ++ lines_of (written_given l.closed (pairs_of l.rest))
    ≡ l.initial.out.items ++ lines_of (written_given false (pairs_of l.fn.words)))
    × (l.count + length (written_given l.closed (pairs_of l.rest))
    ≡ length (written_given false (pairs_of l.fn.words)))
    × (2 * l.count + length l.rest ≤ length l.fn.words)

abbrev pub decreases-loop-rest : goal.decreases-loop-rest
decreases-loop-rest l = length l.rest
