use Rattle.std.proofs.Common.{◌≡◌, ◌++◌, drop}
use Rattle.test_report.specs.Report as report
use Rattle.test_report.proofs.xml.xml_lines.Given as goal

abbrev pub invariant-loop-line : goal.invariant-loop-line
invariant-loop-line l = l.text ++ report.xml_lines (drop l.line-index l.lines) ≡ report.xml_lines l.lines
