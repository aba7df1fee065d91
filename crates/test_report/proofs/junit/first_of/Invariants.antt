use Rattle.std.proofs.Common.{◌≡◌, ◌++◌, drop, take}
use Rattle.test_report.specs.Report as report
use Rattle.test_report.proofs.junit.first_of.Given as goal

abbrev pub invariant-loop-at : goal.invariant-loop-at
invariant-loop-at l = take l.at l.results ++ report.first_of l.file (drop l.at l.results) ≡ report.first_of l.file l.results
