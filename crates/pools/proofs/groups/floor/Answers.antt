use Rattle.std.proofs.Common.{sym, ◌∙◌}
use Rattle.pools.proofs.Serving.{floor_found, floor_past, none_below_next}
use Rattle.pools.proofs.groups.floor.Goals as goal

pub loop-priority-preserved : goal.loop-priority-preserved
loop-priority-preserved c =
    none_below_next c.args.min_active c.args.members.now c.loop-priority.priority c.loop-priority.invariant (sym c.serves.ensures ∙ c.if-not-serves.true)

pub returns-else-not-serves : goal.returns-else-not-serves
returns-else-not-serves c =
    floor_found c.args.min_active c.args.members.now c.loop-priority.priority c.loop-priority.invariant (sym c.serves.ensures ∙ c.if-not-serves.false)

pub returns-after-loop-priority : goal.returns-after-loop-priority
returns-after-loop-priority c =
    floor_past c.args.min_active c.args.members.now c.loop-priority.priority c.loop-priority.invariant c.loop-priority-test.false
