use Rattle.std.proofs.Common.{◌∙◌, append_assoc}
use Rattle.proxy.proofs.report.second_rule_line.Goals as goal

pub returns : goal.returns
returns c = c.text_of.ensures ∙ (c.in_ok-format.ensures.ok ∙ simp append_assoc)
