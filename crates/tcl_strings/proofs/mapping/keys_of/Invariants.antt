use Rattle.std.proofs.Common.{◌≡◌, ◌++◌, length, map}
use Rattle.tcl_strings.specs.FirstKeys.{keys_of}
use Rattle.tcl_strings.proofs.mapping.keys_of.Given as goal

abbrev pub invariant-loop-rest : goal.invariant-loop-rest
invariant-loop-rest l = map (λ k. k.now) l.keys.items ++ keys_of l.rest ≡ keys_of l.fn.pairs

abbrev pub decreases-loop-rest : goal.decreases-loop-rest
decreases-loop-rest l = length l.rest
