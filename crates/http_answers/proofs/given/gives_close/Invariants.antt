use Rattle.std.proofs.Common.{◌≡◌, length}
use Rattle.http_answers.specs.Answers.{gives_close}
use Rattle.http_answers.specs.Options.{pairs_of}
use Rattle.http_answers.proofs.given.gives_close.Given as goal

abbrev pub invariant-loop-rest : goal.invariant-loop-rest
invariant-loop-rest l = gives_close (pairs_of l.rest) ≡ gives_close (pairs_of l.fn.words)

abbrev pub decreases-loop-rest : goal.decreases-loop-rest
decreases-loop-rest l = length l.rest
