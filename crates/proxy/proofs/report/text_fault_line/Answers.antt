use Rattle.std.proofs.Common.{◌∙◌, append_assoc}
use Rattle.proxy.proofs.report.text_fault_line.Goals as goal

pub returns : goal.returns
returns c = c.text_of.ensures ∙ (c.in_ok-format.ensures.ok ∙ rw c.kind_number-number.ensures (simp append_assoc))
