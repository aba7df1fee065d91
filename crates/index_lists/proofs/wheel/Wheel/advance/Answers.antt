use Rattle.std.proofs.Common.{arith}
use Rattle.index_lists.proofs.Leaves.{leaf_is_due}
use Rattle.index_lists.proofs.wheel.Wheel.advance.Goals as goal

pub returns-clause-due : goal.returns-clause-due
returns-clause-due c =
    let same = rw c.deref.ensures.value at c.leaf_of_root-leaf.ensures.same in
    let next = rw (← c.self.view_is) at c.in_ok-next_due.ensures.some in
    rw (← c.self.view_is) (leaf_is_due c.self.inside.size c.leaf_of_root-leaf.result c.in_ok-next_due.field-0 c.args.moment c.self.inside.nodes.items c.self.invariant.0 c.leaf_of_root-leaf.ensures.leaf same next (omega (arith, c.if-branch-moment.false)))
