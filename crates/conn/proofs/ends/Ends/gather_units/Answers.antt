use Rattle.std.proofs.Common.{false, refl, ap, subst, ◌∙◌}
use Rattle.conn.specs.Gathering.{GathersUnit, GathersUnits, NoneYet, Then, UnitGathered, gathered}
use Rattle.conn.proofs.GatherUnits.{units_on}
use Rattle.conn.proofs.ends.Ends.gather_units.Goals as goal

pub loop-unit-init : goal.loop-unit-init
loop-unit-init c = (NoneYet, refl)

pub loop-unit-preserved : goal.loop-unit-preserved
loop-unit-preserved c =
    let side = c.args.side in
    let unit = c.next_unit-unit.result in
    let place = c.loop-unit.place in
    let http = c.loop-unit.http in
    let e = c.loop-unit.self in
    let q = gathered c.gather_unit.new.place c.gather_unit.new.http c.gather_unit.new.self in
    let same = c.next_unit-unit.ensures.same in
    let goes : GathersUnit side (gathered place http c.next_unit-unit.new.self) q = subst (λ b. UnitGathered b side unit (gathered place http c.next_unit-unit.new.self) q) c.if-not-branch.false c.in_ok-gather_unit.ensures.ok in
    let here = subst (λ x. GathersUnit side (gathered place http x) q) same goes in
    (Then (gathered place http e) q c.loop-unit.invariant.0 here, c.in_ok-gather_unit.ensures.edges ∙ ap (λ x. x.edges) same ∙ c.loop-unit.invariant.1)

pub returns-then-not-branch-clause-ok : goal.returns-then-not-branch-clause-ok
returns-then-not-branch-clause-ok c =
    let side = c.args.side in
    let unit = c.next_unit-unit.result in
    let place = c.loop-unit.place in
    let http = c.loop-unit.http in
    let e = c.loop-unit.self in
    let q = gathered c.gather_unit.new.place c.gather_unit.new.http c.gather_unit.new.self in
    let stops : GathersUnits side (gathered place http c.next_unit-unit.new.self) q unit = subst (λ b. UnitGathered b side unit (gathered place http c.next_unit-unit.new.self) q) c.if-not-branch.true c.in_ok-gather_unit.ensures.ok in
    let here = subst (λ x. GathersUnits side (gathered place http x) q unit) c.next_unit-unit.ensures.same stops in
    units_on side (gathered c.args.from c.args.http.now c.args.self.now) (gathered place http e) q unit c.loop-unit.invariant.0 here
