use Rattle.std.proofs.Common.{◌≡◌, length}
use Rattle.http_cookies.specs.Blanks.{without_last}
use Rattle.http_cookies.proofs.blanks.without_last.Given as goal

abbrev pub invariant-loop-rest : goal.invariant-loop-rest
invariant-loop-rest l = without_last l.rest ≡ without_last l.fn.text

abbrev pub decreases-loop-rest : goal.decreases-loop-rest
decreases-loop-rest l = length l.rest
