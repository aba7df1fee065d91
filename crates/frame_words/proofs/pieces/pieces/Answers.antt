use Rattle.std.proofs.Common.{◌∙◌, sym, arith}
use Rattle.std.specs.Prelude.{option_map}
use Rattle.frame_words.proofs.PieceSteps.{cost_child, cost_ends, cost_more, piece_child, piece_ends, piece_more}
use Rattle.frame_words.proofs.Rests.{node_here}
use Rattle.frame_words.proofs.pieces.pieces.Goals as goal

pub returns-then-not-is_leaf-clause-piece : goal.returns-then-not-is_leaf-clause-piece
returns-then-not-is_leaf-clause-piece g c =
    let e = node_here c.args.parts.now c.loop-part.part c.index-parts-part.result c.index-parts-part.is
    c.loop-part-test.true in
    sym (piece_child _ _ _ _ _ c.loop-part.part e c.loop-part.text
    (sym c.is_leaf.ensures ∙ c.if-not-is_leaf.true)) ∙ c.loop-part.invariant.piece

pub returns-then-not-is_leaf-clause-cost : goal.returns-then-not-is_leaf-clause-cost
returns-then-not-is_leaf-clause-cost g c =
    let level = option_map (λ v. v.now.statics) c.args.statics in
    let e = node_here c.args.parts.now c.loop-part.part c.index-parts-part.result c.index-parts-part.is
    c.loop-part-test.true in
    let k = cost_child c.args.price level c.args.vars.now _ _ _ e c.loop-part.text
    (sym c.is_leaf.ensures ∙ c.if-not-is_leaf.true) in
    omega (arith, c.loop-part.invariant.cost, k, c.add.ensures)

pub returns-in-Some-clause-piece : goal.returns-in-Some-clause-piece
returns-in-Some-clause-piece g c =
    let e = node_here c.args.parts.now c.loop-part.part c.index-parts-part.result c.index-parts-part.is
    c.loop-part-test.true in
    sym (piece_ends _ _ _ _ _ c.loop-part.part e c.loop-part.text c.in-Some.code
    (sym c.is_leaf.ensures ∙ c.if-not-is_leaf.false) (sym c.in-Some.is ∙ c.in_ok-code.ensures.end))
    ∙ c.loop-part.invariant.piece

pub returns-in-Some-clause-cost : goal.returns-in-Some-clause-cost
returns-in-Some-clause-cost g c =
    let level = option_map (λ v. v.now.statics) c.args.statics in
    let e = node_here c.args.parts.now c.loop-part.part c.index-parts-part.result c.index-parts-part.is
    c.loop-part-test.true in
    let k = cost_ends c.args.price level c.args.vars.now _ _ _ e c.loop-part.text c.in-Some.code
    (sym c.is_leaf.ensures ∙ c.if-not-is_leaf.false) (sym c.in-Some.is ∙ c.in_ok-code.ensures.end) in
    omega (arith, c.loop-part.invariant.cost, k, c.add.ensures)

pub loop-part-preserved : goal.loop-part-preserved
loop-part-preserved g c =
    let level = option_map (λ v. v.now.statics) c.args.statics in
    let e = node_here c.args.parts.now c.loop-part.part c.index-parts-part.result c.index-parts-part.is
    c.loop-part-test.true in
    let f = sym c.is_leaf.ensures ∙ c.if-not-is_leaf.false in
    let h = sym c.in-None.is ∙ c.in_ok-code.ensures.end in
    let k = cost_more c.args.price level c.args.vars.now _ _ _ e c.loop-part.text f h in
    record {
      piece = rw c.in_ok-code.ensures.text
          (sym (piece_more level c.args.vars.now _ _ _ c.loop-part.part e c.loop-part.text f h))
          ∙ c.loop-part.invariant.piece;
      cost = rw c.in_ok-code.ensures.text (omega (arith, c.loop-part.invariant.cost, k, c.add.ensures));
    }
