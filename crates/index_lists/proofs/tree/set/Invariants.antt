use Rattle.std.proofs.Common.{◌-◌, ◌/◌, ◌≡◌, ◌*◌, ◌<◌, ◌≤◌, length, slice_set, drop}
use Rattle.index_lists.specs.Least.{IsLeastBut}
use Rattle.index_lists.proofs.tree.set.Given as goal

abbrev pub invariant-loop-node : goal.invariant-loop-node
invariant-loop-node l = record {
  low : 1 ≤ l.node;
  high : l.node < 2 * l.size;
  size : length l.nodes ≡ 2 * l.size;
  but : IsLeastBut l.size (l.node / 2) l.nodes;
  dues : drop l.size l.nodes ≡ slice_set (drop l.size l.fn.nodes) (l.at - l.size) l.fn.due;
}

abbrev pub decreases-loop-node : goal.decreases-loop-node
decreases-loop-node l = l.node
