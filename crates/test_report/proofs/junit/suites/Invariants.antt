use Rattle.std.proofs.Common.{◌≡◌, ◌++◌, None, drop, option_map}
use Rattle.test_report.specs.Report as report
use Rattle.test_report.proofs.junit.suites.Given as goal

abbrev pub invariant-loop-at : goal.invariant-loop-at
invariant-loop-at l = l.text ++ report.suites_from (option_map (λ b. b.now) l.before) (drop l.at l.results) ≡ report.suites_from None l.results
