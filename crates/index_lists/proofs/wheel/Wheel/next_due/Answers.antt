use Rattle.std.proofs.Common.{arith, sym, None}
use Rattle.std.proofs.lemmas.List.{get_or_read}
use Rattle.index_lists.proofs.Leaves.{next_none, next_some}
use Rattle.index_lists.proofs.wheel.Wheel.next_due.Goals as goal

pub returns-clause-some : goal.returns-clause-some
returns-clause-some c =
    let t = c.self.invariant.0 in
    let root = get_or_read c.self.inside.nodes.items 1 c.index.result.now (omega (arith, t.twice, c.if-self-eq0.false)) c.index.ensures None in
    rw (← c.self.view_is) (next_some c.self.inside.size _ _ t (omega (arith, c.if-self-eq0.false)) (sym root))

pub returns-clause-none : goal.returns-clause-none
returns-clause-none c =
    let t = c.self.invariant.0 in
    let root = get_or_read c.self.inside.nodes.items 1 c.index.result.now (omega (arith, t.twice, c.if-self-eq0.false)) c.index.ensures None in
    rw (← c.self.view_is) (next_none c.self.inside.size _ _ t (sym root))
