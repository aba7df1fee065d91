use Rattle.rule_model.proofs.Order.{words_go_from_the_left}
use Rattle.rule_model.proofs.laws.words_go_from_the_left.Goals as goal

pub returns : goal.returns
returns g c = words_go_from_the_left
