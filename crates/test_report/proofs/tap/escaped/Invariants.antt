use Rattle.std.proofs.Common.{◌≡◌, ◌++◌, drop}
use Rattle.std.specs.Prelude.{flat_map}
use Rattle.test_report.specs.Report as report
use Rattle.test_report.proofs.tap.escaped.Given as goal

abbrev pub invariant-loop-byte : goal.invariant-loop-byte
invariant-loop-byte l = l.text ++ flat_map report.tap_byte (drop l.byte-index l.bytes) ≡ flat_map report.tap_byte l.bytes
