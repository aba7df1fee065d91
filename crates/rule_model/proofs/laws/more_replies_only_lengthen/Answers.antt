use Rattle.rule_model.proofs.Pairs.{more_replies}
use Rattle.rule_model.proofs.laws.more_replies_only_lengthen.Goals as goal

pub returns : goal.returns
returns g c = more_replies
