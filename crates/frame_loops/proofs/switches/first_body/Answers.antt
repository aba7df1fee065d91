use Rattle.std.proofs.Common.{◌≡◌, ◌∙◌, sym, ◌+◌, length, arith}
use Rattle.tcl_trees.specs.TreeView.{node_view}
use Rattle.frames.specs.Reads.{known_by}
use Rattle.frame_loops.proofs.RowSteps.{body_here, first_here, first_more}
use Rattle.frame_loops.proofs.switches.first_body.Goals as goal

pub returns-then-not-is_next : goal.returns-then-not-is_next
returns-then-not-is_next c =
    let b = c.index-bodies-at.result in
    let here = body_here c.args.bodies.now c.loop-at.at b c.index-bodies-at.is c.loop-at-test.true in
    let one = first_here (known_by c.args.reads.now) (length c.args.before.now + c.loop-at.at) _ _
    (node_view b) c.args.wanted here (sym c.is_next.ensures ∙ c.if-not-is_next.true) in
    rw (sym c.loop-at.invariant ∙ one) c.within.ensures

pub loop-at-preserved : goal.loop-at-preserved
loop-at-preserved c =
    let b = c.index-bodies-at.result in
    let here = body_here c.args.bodies.now c.loop-at.at b c.index-bodies-at.is c.loop-at-test.true in
    let one = first_more (known_by c.args.reads.now) (length c.args.before.now + c.loop-at.at) _ _
    (node_view b) c.args.wanted here (sym c.is_next.ensures ∙ c.if-not-is_next.false) in
    let n : length c.args.before.now + c.loop-at.at + 1 ≡ length c.args.before.now + (c.loop-at.at + 1) =
    omega arith in
    rw n at (sym one) ∙ c.loop-at.invariant
