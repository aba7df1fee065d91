use Rattle.frames.proofs.NodePlaces.{row_past, row_there}
use Rattle.frames.proofs.children.nth_operand.Goals as goal

pub returns-in-Some : goal.returns-in-Some
returns-in-Some c = row_there c.args.first.now c.args.rest.now _ _ _ c.if-place-eq0.false
    c.in-Some.ensures.lookup.0 c.in-Some.ensures.lookup.1

pub returns-in-None : goal.returns-in-None
returns-in-None c = row_past c.args.first.now c.args.rest.now _ _ c.if-place-eq0.false
    c.in-None.ensures.lookup.0
