use Rattle.std.proofs.Common.{◌≡◌, length}
use Rattle.config.specs.KeyLines.{turned}
use Rattle.config.proofs.key_line.turned.Given as goal

abbrev pub invariant-loop-rest : goal.invariant-loop-rest
invariant-loop-rest l = turned l.on l.rest ≡ turned l.fn.in_text l.fn.line

abbrev pub decreases-loop-rest : goal.decreases-loop-rest
decreases-loop-rest l = length l.rest
