use Rattle.std.proofs.Common.{◌≡◌, ◌++◌, drop}
use Rattle.test_report.specs.Parts as parts
use Rattle.test_report.proofs.ascii.ascii_lines.Given as goal

abbrev pub invariant-loop-line : goal.invariant-loop-line
invariant-loop-line l = l.text ++ parts.ascii_lines l.before (drop l.line-index l.lines) ≡ parts.ascii_lines l.before l.lines
