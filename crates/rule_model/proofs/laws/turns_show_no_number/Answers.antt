use Rattle.rule_model.proofs.Turns.{turns_show_no_number}
use Rattle.rule_model.proofs.laws.turns_show_no_number.Goals as goal

pub returns : goal.returns
returns g c = turns_show_no_number
