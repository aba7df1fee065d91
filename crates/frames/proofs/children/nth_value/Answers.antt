use Rattle.std.proofs.Common.{◌∙◌, arith}
use Rattle.frames.proofs.NodePlaces.{even_both, odd_both, behind_both}
use Rattle.frames.proofs.children.nth_value.Goals as goal

pub returns-then-place-eq0 : goal.returns-then-place-eq0
returns-then-place-eq0 c = even_both c.args.values.now _ _ _ _ c.in-Some.ensures.lookup.0
    c.in-Some.ensures.lookup.1 c.if-place-eq0.true

pub returns-else-place-eq0 : goal.returns-else-place-eq0
returns-else-place-eq0 c = odd_both c.args.values.now _ _ _ _ c.in-Some.ensures.lookup.0
    c.in-Some.ensures.lookup.1 c.if-place-eq0.false (omega arith)

pub returns-in-None : goal.returns-in-None
returns-in-None c = c.nth.ensures
    ∙ rw c.from_ref.ensures.value (behind_both _ _ _ _ c.in-None.ensures.lookup.0)
