use Rattle.std.proofs.Common.{◌∙◌, ◌/◌, ◌<◌, arith, length-set}
use Rattle.index_lists.proofs.Trees.{inner_set, leaf_set, leaves_set, node_set}
use Rattle.index_lists.proofs.tree.set.Goals as goal

pub loop-node-init : goal.loop-node-init
loop-node-init c = record {
  low = omega (arith, c.requires.leaf, c.requires.inside);
  high = c.requires.inside;
  size = length-set _ _ _ ∙ c.requires.tree.twice;
  but = leaf_set c.args.size c.args.at c.args.due _ c.requires.tree.least c.requires.leaf;
  dues = leaves_set c.args.size c.args.at c.args.due _ c.requires.leaf;
}

pub loop-node-preserved : goal.loop-node-preserved
loop-node-preserved c =
    let v = c.loop-node.invariant in
    let inner : c.loop-node.node / 2 < c.args.size = omega (arith, v.high, c.loop-node-test.true) in
    record {
      low = omega (arith, c.loop-node-test.true);
      high = omega (arith, inner);
      size = length-set _ _ _ ∙ v.size;
      but = rw c.earlier-least.ensures (node_set _ _ _ v.size v.but (omega (arith, c.loop-node-test.true)) inner);
      dues = inner_set _ _ _ _ inner ∙ v.dues;
    }
