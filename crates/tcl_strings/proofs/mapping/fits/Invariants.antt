use Rattle.std.proofs.Common.{◌≡◌, ◌+◌, ◌≤◌, length}
use Rattle.tcl_strings.specs.Mapping.{mapped}
use Rattle.tcl_strings.specs.FirstKeys.{IsTable, keys_of}
use Rattle.tcl_strings.proofs.mapping.fits.Given as goal

abbrev pub invariant-loop-rest : goal.invariant-loop-rest
invariant-loop-rest l =
    (l.size ≤ 1048576)
    × (l.size + length (mapped l.fn.pairs 0 l.rest) ≡ length (mapped l.fn.pairs 0 l.fn.text))
    × IsTable (keys_of l.fn.pairs) l.fn.numbers l.rest

abbrev pub decreases-loop-rest : goal.decreases-loop-rest
decreases-loop-rest l = length l.rest
