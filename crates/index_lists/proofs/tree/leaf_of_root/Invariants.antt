use Rattle.std.proofs.Common.{◌-◌, ◌≡◌, ◌*◌, ◌<◌, ◌≤◌, None, get_or}
use Rattle.index_lists.proofs.tree.leaf_of_root.Given as goal

abbrev pub invariant-loop-node : goal.invariant-loop-node
invariant-loop-node l = record {
  low : 1 ≤ l.node;
  high : l.node < 2 * l.size;
  same : get_or l.nodes l.node None ≡ get_or l.nodes 1 None;
}

abbrev pub decreases-loop-node : goal.decreases-loop-node
decreases-loop-node l = 2 * l.size - l.node
