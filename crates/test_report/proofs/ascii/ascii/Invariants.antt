use Rattle.std.proofs.Common.{◌≡◌, ◌++◌, drop}
use Rattle.test_report.specs.Parts as parts
use Rattle.test_report.proofs.ascii.ascii.Given as goal

abbrev pub invariant-loop-byte : goal.invariant-loop-byte
invariant-loop-byte l = l.text ++ parts.ascii (drop l.byte-index l.bytes) ≡ parts.ascii l.bytes
