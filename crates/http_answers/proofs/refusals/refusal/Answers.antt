use Rattle.std.proofs.Common.{ap, sym, ◌∙◌}
use Rattle.http_answers.specs.Refusals.{refusal}
use Rattle.http_answers.proofs.Refusing.{method_text, other_text}
use Rattle.http_answers.proofs.refusals.refusal.Goals as goal

pub returns-in-Method : goal.returns-in-Method
returns-in-Method c = method_text ∙ sym (ap refusal c.in-Method.is)

pub returns-in_default : goal.returns-in_default
returns-in_default c = other_text c.args.fault c.in_default.not-Method
