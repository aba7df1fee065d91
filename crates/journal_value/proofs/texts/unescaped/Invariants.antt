use Rattle.std.proofs.Common.{◌≡◌, ◌++◌, length}
use Rattle.journal_value.specs.Unescaped.{unescaped}
use Rattle.journal_value.proofs.texts.unescaped.Given as goal

abbrev pub invariant-loop-rest : goal.invariant-loop-rest
invariant-loop-rest l = l.out.items ++ unescaped l.rest ≡ unescaped l.fn.text

abbrev pub decreases-loop-rest : goal.decreases-loop-rest
decreases-loop-rest l = length l.rest
