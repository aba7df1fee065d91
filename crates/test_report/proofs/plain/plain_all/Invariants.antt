use Rattle.std.proofs.Common.{◌≡◌, ◌++◌, drop}
use Rattle.test_report.specs.Report as report
use Rattle.test_report.proofs.plain.plain_all.Given as goal

abbrev pub invariant-loop-one : goal.invariant-loop-one
invariant-loop-one l = l.text ++ report.plain_all (drop l.one-index l.results) ≡ report.plain_all l.results
