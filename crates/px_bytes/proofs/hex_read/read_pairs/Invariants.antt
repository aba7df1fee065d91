use Rattle.std.proofs.Common.{◌≡◌, ◌++◌, length, option_map}
use Rattle.px_bytes.specs.HexRead.{hex_pairs}
use Rattle.px_bytes.proofs.hex_read.read_pairs.Given as goal

abbrev pub invariant-loop-rest : goal.invariant-loop-rest
invariant-loop-rest l = option_map (λ more. l.out.items ++ more) (hex_pairs l.rest) ≡ hex_pairs l.fn.text

abbrev pub decreases-loop-rest : goal.decreases-loop-rest
decreases-loop-rest l = length l.rest
