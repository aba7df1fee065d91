use Rattle.std.proofs.Common.{◌≡◌, ◌++◌, drop}
use Rattle.test_failure.specs.Quoted as quoted
use Rattle.test_failure.proofs.quoted.quoted.Given as goal

abbrev pub invariant-loop-byte : goal.invariant-loop-byte
invariant-loop-byte l = l.text ++ quoted.quoted_from l.behind_digits (drop l.byte-index l.bytes) ≡ quoted.quoted l.bytes
