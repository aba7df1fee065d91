use Rattle.std.proofs.Common.{ap, arith, rules, subst, ◌<◌, ◌∙◌, ◌≡◌, ◌≤◌, ◌-◌, ◌+◌, suc, length}
use Rattle.test_orders.specs.Orders.{grown, most_orders}
use Rattle.test_orders.proofs.Growing.{come_first, come_many, come_on, come_to_end, none_is, some_is}
use Rattle.test_orders.proofs.order.orders.Goals as goal

pub loop-init : goal.loop-init
loop-init c = come_first c.args.groups.now c.in_ok-found.found (length c.args.groups.now - 0) (omega arith) c.in_ok-found.ensures

pub returns-in-None-clause-none : goal.returns-in-None-clause-none
returns-in-None-clause-none c =
    let groups = c.args.groups.now in
    let there : c.loop.counter + 1 ≤ length groups = search rules in
    let more : length groups - c.loop.counter ≡ suc (length groups - (c.loop.counter + 1)) = omega (arith, there) in
    come_many groups c.loop.found _ _ more c.loop.invariant
    (subst (λ f. most_orders < length (grown groups f)) c.as_slice.ensures (none_is _ _ c.in-None.is c.in_ok-next.ensures.none))

pub loop-preserved : goal.loop-preserved
loop-preserved c =
    let groups = c.args.groups.now in
    let there : c.loop.counter + 1 ≤ length groups = search rules in
    let more : length groups - c.loop.counter ≡ suc (length groups - (c.loop.counter + 1)) = omega (arith, there) in
    come_on groups c.loop.found c.in-Some.next _ _ more c.loop.invariant
    (some_is _ _ c.in-Some.next c.in-Some.is c.in_ok-next.ensures.some ∙ ap (grown groups) c.as_slice.ensures)

pub returns-clause-some : goal.returns-clause-some
returns-clause-some c =
    let groups = c.args.groups.now in
    let all : length groups ≤ c.loop.counter = search rules in
    let none : length groups - c.loop.counter ≡ 0 = omega (arith, all) in
    come_to_end groups c.loop.found _ none c.loop.invariant
