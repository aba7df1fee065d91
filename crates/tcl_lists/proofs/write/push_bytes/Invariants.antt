use Rattle.std.proofs.Common.{◌≡◌, ◌++◌, length}
use Rattle.tcl_lists.specs.Write.{spelled_bytes}
use Rattle.tcl_lists.proofs.write.push_bytes.Given as goal

abbrev pub invariant-loop-byte : goal.invariant-loop-byte
invariant-loop-byte l = l.out ++ spelled_bytes l.rest ≡ l.fn.out ++ spelled_bytes l.fn.bytes

abbrev pub decreases-loop-byte : goal.decreases-loop-byte
decreases-loop-byte l = length l.rest
