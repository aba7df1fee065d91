use Rattle.std.proofs.Common.{sym, ap, ap₂, ◌∙◌, ◌%◌, arith}
use Rattle.pools.specs.Groups.{weight_from}
use Rattle.pools.specs.Selection.{by_running_sums, in_turn}
use Rattle.std.specs.Prelude.{sum_by}
use Rattle.pools.specs.contracts.pool.Pool.{the_view}
use Rattle.pools.proofs.Serving.{found_by_floor, none_by_floor}
use Rattle.pools.proofs.pool.Pool.in_turn.Goals as goal

pub returns-then-total-eq0 : goal.returns-then-total-eq0
returns-then-total-eq0 c =
    let weighs = weight_from c.self.inside.method c.self.inside.floor in
    let nothing = ap (sum_by weighs) (sym c.deref.ensures.value) ∙ sym c.total-total.ensures ∙ c.if-total-eq0.true in
    none_by_floor (the_view c.self.inside) c.self.inside.floor c.self.invariant.1 c.self.invariant.0.priorities nothing ∙ ap in_turn c.self.view_is

pub returns : goal.returns
returns c =
    let weighs = weight_from c.self.inside.method c.self.inside.floor in
    let is = c.total-total.ensures ∙ ap (sum_by weighs) c.deref.ensures.value in
    c.by_running_sums.ensures
    ∙ ap₂ (λ ms n. by_running_sums weighs ms (c.self.inside.counter % n)) c.deref-2.ensures.value is
    ∙ found_by_floor (the_view c.self.inside) c.self.inside.floor c.self.invariant.1 c.self.invariant.0.priorities (omega (arith, is, c.if-total-eq0.false))
    ∙ ap in_turn c.self.view_is
