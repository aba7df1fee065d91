use Rattle.std.proofs.Common.{ap, ◌∙◌}
use Rattle.pool_monitor.specs.Made.{members_by}
use Rattle.pool_monitor.proofs.made.members_at.Goals as goal

pub returns : goal.returns
returns c =
    c.members_by.ensures ∙ ap (members_by c.args.pools.now) (c.find.ensures ∙ ap (λ f. f c.args.name.now) c.requires)
