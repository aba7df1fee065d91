use Rattle.std.proofs.Common.{false, refl, ap, subst, ◌∙◌}
use Rattle.conn.specs.Forwarding.{NotYet, PassesUnit, Then, UnitGoes, passage}
use Rattle.conn.proofs.UnitsGo.{units_stop}
use Rattle.conn.proofs.ends.Ends.forward_units.Goals as goal

pub loop-unit-init : goal.loop-unit-init
loop-unit-init c = (NotYet, refl)

pub loop-unit-preserved : goal.loop-unit-preserved
loop-unit-preserved c =
    let side = c.args.side in
    let unit = c.next_unit-unit.result in
    let place = c.loop-unit.place in
    let e = c.loop-unit.self in
    let to = c.forward_unit.new.place in
    let f = c.forward_unit.new.self in
    let same = c.next_unit-unit.ensures.same in
    let goes : PassesUnit side (passage place c.next_unit-unit.new.self) (passage to f) = subst (λ b. UnitGoes b side unit place c.next_unit-unit.new.self to f) c.if-not-branch.false c.in_ok-forward_unit.ensures.ok in
    let here = subst (λ x. PassesUnit side (passage place x) (passage to f)) same goes in
    (Then (passage place e) (passage to f) c.loop-unit.invariant.0 here, c.in_ok-forward_unit.ensures.edges ∙ ap (λ x. x.edges) same ∙ c.loop-unit.invariant.1)

pub returns-then-not-branch-clause-ok : goal.returns-then-not-branch-clause-ok
returns-then-not-branch-clause-ok c =
    let side = c.args.side in
    let unit = c.next_unit-unit.result in
    let place = c.loop-unit.place in
    let e = c.loop-unit.self in
    let to = c.forward_unit.new.place in
    let f = c.forward_unit.new.self in
    let stays : UnitGoes false side unit place c.next_unit-unit.new.self to f = subst (λ b. UnitGoes b side unit place c.next_unit-unit.new.self to f) c.if-not-branch.true c.in_ok-forward_unit.ensures.ok in
    let here = subst (λ x. UnitGoes false side unit place x to f) c.next_unit-unit.ensures.same stays in
    units_stop side c.args.from place to c.args.self.now e f unit c.loop-unit.invariant.0 c.next_unit-unit.ensures.value here
