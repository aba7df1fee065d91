use Rattle.std.proofs.Common.{◌∙◌, ap, option_map}
use Rattle.test_report.specs.Report.{suite_begin}
use Rattle.test_report.proofs.Parts.{suite_parts}
use Rattle.test_report.proofs.junit.new_suite.Goals as goal

pub returns : goal.returns
returns c =
    suite_parts c.joined.result c.suite_end-end.result.now c.as_bytes-2.result.now (option_map (λ b. b.now) c.args.before)
    c.args.one.now c.args.results.now c.suite_end-end.ensures
    (c.as_bytes-2.ensures ∙ c.in_ok-begin.ensures ∙ ap (λ f. suite_begin f c.args.results.now) c.as_bytes.ensures) c.joined.ensures
