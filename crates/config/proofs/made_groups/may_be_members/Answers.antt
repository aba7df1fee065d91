use Rattle.config.proofs.MayBeMembers.{tested}
use Rattle.config.proofs.made_groups.may_be_members.Goals as goal

pub returns : goal.returns
returns c = tested c.are_members.result c.args.members.now c.are_members.ensures
