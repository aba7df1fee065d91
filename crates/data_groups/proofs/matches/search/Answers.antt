use Rattle.std.proofs.Common.{◌∙◌}
use Rattle.data_groups.proofs.Operators.{search_other}
use Rattle.data_groups.proofs.matches.search.Goals as goal

pub returns-in_default : goal.returns-in_default
returns-in_default c = c.search_tested.ensures ∙ search_other c.args.group.now c.args.op c.args.item.now c.in_default.not-Equals
