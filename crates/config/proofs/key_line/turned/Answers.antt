use Rattle.config.proofs.Marks.{turned_all, turned_on}
use Rattle.config.proofs.key_line.turned.Goals as goal

pub loop-rest-preserved : goal.loop-rest-preserved
loop-rest-preserved c = turned_on c.loop-rest.on c.switched-on.result _ c.loop-rest.rest.now c.in-len1-up.len_at_least c.switched-on.ensures c.loop-rest.invariant

pub returns : goal.returns
returns c = turned_all c.loop-rest.on _ c.loop-rest.rest.now c.in_default.len_below c.loop-rest.invariant
