use Rattle.std.proofs.Common.{◌∙◌}
use Rattle.data_groups.proofs.Operators.{match_other}
use Rattle.data_groups.proofs.matches.match_first.Goals as goal

pub returns-in_default : goal.returns-in_default
returns-in_default c = c.match_tested.ensures ∙ match_other c.args.group.now c.args.op c.args.item.now c.in_default.not-Equals
