use Rattle.std.proofs.Common.{◌∙◌}
use Rattle.test_report.proofs.Parts.{failure_parts}
use Rattle.test_report.proofs.xml.failure_of.Goals as goal

pub returns : goal.returns
returns c =
    failure_parts c.joined.result c.as_bytes.result.now c.as_bytes-2.result.now c.as_bytes-3.result.now c.args.line.now c.args.lines.now
    (c.as_bytes.ensures ∙ c.in_ok-head.ensures) (c.as_bytes-2.ensures ∙ c.in_ok-first.ensures)
    (c.as_bytes-3.ensures ∙ c.in_ok-rest.ensures) c.joined.ensures
