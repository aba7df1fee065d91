use Rattle.irule_net.proofs.steps.carry_out.Goals as goal

pub returns-in-Collects : goal.returns-in-Collects
returns-in-Collects c = rw c.in-Collects.is (c.collects.ensures c.args.made.now)

pub returns-in-Replaces : goal.returns-in-Replaces
returns-in-Replaces c = rw c.in-Replaces.is (c.replaces.ensures c.args.made.now)

pub returns-in-Reselects : goal.returns-in-Reselects
returns-in-Reselects c = rw c.in-Reselects.is (c.reselects.ensures c.args.made.now)

pub returns-in-ReselectsFrom : goal.returns-in-ReselectsFrom
returns-in-ReselectsFrom c = rw c.in-ReselectsFrom.is (c.reselects_from.ensures c.args.made.now)
