use Rattle.std.proofs.Common.{◌≡◌, ◌+◌, ◌++◌, drop}
use Rattle.test_report.specs.Report as report
use Rattle.test_report.proofs.tap.tap_all.Given as goal

abbrev pub invariant-loop-at : goal.invariant-loop-at
invariant-loop-at l = l.text ++ report.tap_from (l.at + 1) (drop l.at l.results) ≡ report.tap_from 1 l.results
