use Rattle.std.proofs.Common.{◌≡◌, ◌++◌, drop}
use Rattle.std.specs.Prelude.{flat_map}
use Rattle.test_report.specs.Report as report
use Rattle.test_report.proofs.xml.escaped.Given as goal

abbrev pub invariant-loop-byte : goal.invariant-loop-byte
invariant-loop-byte l = l.text ++ flat_map report.xml_byte (drop l.byte-index l.bytes) ≡ flat_map report.xml_byte l.bytes
