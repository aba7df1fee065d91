use Rattle.std.proofs.Common.{◌≡◌, ◌-◌, ◌++◌, None, drop, take, replicate}
use Rattle.index_lists.specs.Least.{IsTree}
use Rattle.index_lists.proofs.wider.put_all.Given as goal

abbrev pub invariant-loop-id : goal.invariant-loop-id
invariant-loop-id l = record {
  tree : IsTree l.size l.nodes;
  dues : drop l.size l.nodes ≡ take l.id l.dues ++ replicate (l.size - l.id) None;
}
