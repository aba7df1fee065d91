use Rattle.http_answers.proofs.Refusing.{refused}
use Rattle.http_answers.proofs.laws.refusals_are_answers.Goals as goal

pub returns : goal.returns
returns c = refused
