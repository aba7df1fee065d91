use Rattle.std.proofs.Common.{◌≡◌, ◌∙◌, option_map}
use Rattle.std.proofs.lemmas.List.{take_rest}
use Rattle.test_report.proofs.Suites.{next}
use Rattle.test_report.proofs.junit.suites.Goals as goal

pub loop-at-preserved : goal.loop-at-preserved
loop-at-preserved c =
    next (option_map (λ b. b.now) c.loop-at.before) c.args.results.now _ c.loop-at.at c.index-results-at.result c.loop-at.text
    c.as_bytes.result.now c.push.new.self c.as_bytes-in-loop-at.result.now c.loop-at-test.true c.index-results-at.is
    (take_rest c.args.results.now c.loop-at.at) c.loop-at.invariant (c.as_bytes.ensures ∙ c.in_ok-part.ensures)
    c.in_ok-push.ensures.ok c.as_bytes-in-loop-at.ensures
