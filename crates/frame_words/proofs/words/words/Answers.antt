use Rattle.std.proofs.Common.{◌∙◌, sym, arith}
use Rattle.std.specs.Prelude.{option_map}
use Rattle.frame_words.proofs.PieceSteps.{short_by, too_long_by, word_child, word_child_cost, word_ends, word_ends_cost, word_long, word_long_cost, word_more, word_more_cost}
use Rattle.frame_words.proofs.Rests.{node_here}
use Rattle.frame_words.proofs.words.words.Goals as goal

pub returns-then-not-fits-clause-words : goal.returns-then-not-fits-clause-words
returns-then-not-fits-clause-words g c =
    let level = option_map (λ v. v.now.statics) c.args.statics in
    let e = node_here c.args.all.now c.loop-word.word c.index-all-word.result c.index-all-word.is
    c.loop-word-test.true in
    let h = rw (c.word_parts.ensures, c.empty-text.ensures) at c.in_ok-text.ensures.piece in
    let l = too_long_by _ _ c.in_ok-fits-in-Whole.ensures.fits c.if-not-fits.true in
    rw c.in_ok-too_long-in-Whole.ensures
    (sym (word_long level c.args.vars.now _ _ _ c.loop-word.word e c.loop-word.values c.in-Whole.text
    (sym h ∙ c.in-Whole.is) l)) ∙ c.loop-word.invariant.words

pub returns-then-not-fits-clause-cost : goal.returns-then-not-fits-clause-cost
returns-then-not-fits-clause-cost g c =
    let level = option_map (λ v. v.now.statics) c.args.statics in
    let e = node_here c.args.all.now c.loop-word.word c.index-all-word.result c.index-all-word.is
    c.loop-word-test.true in
    let h = rw (c.word_parts.ensures, c.empty-text.ensures) at c.in_ok-text.ensures.piece in
    let l = too_long_by _ _ c.in_ok-fits-in-Whole.ensures.fits c.if-not-fits.true in
    let p = rw (c.word_parts.ensures, c.empty-text.ensures, c.part_price-price.ensures) at
    c.in_ok-text.ensures.cost in
    let k = word_long_cost c.args.unit level c.args.vars.now _ _ _ e c.loop-word.values c.in-Whole.text
    (sym h ∙ c.in-Whole.is) l in
    omega (arith, c.loop-word.invariant.cost, k, p)

pub returns-in-Ends-clause-words : goal.returns-in-Ends-clause-words
returns-in-Ends-clause-words g c =
    let level = option_map (λ v. v.now.statics) c.args.statics in
    let e = node_here c.args.all.now c.loop-word.word c.index-all-word.result c.index-all-word.is
    c.loop-word-test.true in
    let h = rw (c.word_parts.ensures, c.empty-text.ensures) at c.in_ok-text.ensures.piece in
    sym (word_ends level c.args.vars.now _ _ _ c.loop-word.word e c.loop-word.values c.in-Ends.code
    (sym h ∙ c.in-Ends.is)) ∙ c.loop-word.invariant.words

pub returns-in-Ends-clause-cost : goal.returns-in-Ends-clause-cost
returns-in-Ends-clause-cost g c =
    let level = option_map (λ v. v.now.statics) c.args.statics in
    let e = node_here c.args.all.now c.loop-word.word c.index-all-word.result c.index-all-word.is
    c.loop-word-test.true in
    let h = rw (c.word_parts.ensures, c.empty-text.ensures) at c.in_ok-text.ensures.piece in
    let p = rw (c.word_parts.ensures, c.empty-text.ensures, c.part_price-price.ensures) at
    c.in_ok-text.ensures.cost in
    let k = word_ends_cost c.args.unit level c.args.vars.now _ _ _ e c.loop-word.values c.in-Ends.code
    (sym h ∙ c.in-Ends.is) in
    omega (arith, c.loop-word.invariant.cost, k, p)

pub returns-in-Child-clause-words : goal.returns-in-Child-clause-words
returns-in-Child-clause-words g c =
    let level = option_map (λ v. v.now.statics) c.args.statics in
    let e = node_here c.args.all.now c.loop-word.word c.index-all-word.result c.index-all-word.is
    c.loop-word-test.true in
    let h = rw (c.word_parts.ensures, c.empty-text.ensures) at c.in_ok-text.ensures.piece in
    sym (word_child level c.args.vars.now _ _ _ c.loop-word.word e c.loop-word.values c.in-Child.part
    c.in-Child.text (sym h ∙ c.in-Child.is)) ∙ c.loop-word.invariant.words

pub returns-in-Child-clause-cost : goal.returns-in-Child-clause-cost
returns-in-Child-clause-cost g c =
    let level = option_map (λ v. v.now.statics) c.args.statics in
    let e = node_here c.args.all.now c.loop-word.word c.index-all-word.result c.index-all-word.is
    c.loop-word-test.true in
    let h = rw (c.word_parts.ensures, c.empty-text.ensures) at c.in_ok-text.ensures.piece in
    let p = rw (c.word_parts.ensures, c.empty-text.ensures, c.part_price-price.ensures) at
    c.in_ok-text.ensures.cost in
    let k = word_child_cost c.args.unit level c.args.vars.now _ _ _ e c.loop-word.values c.in-Child.part
    c.in-Child.text (sym h ∙ c.in-Child.is) in
    omega (arith, c.loop-word.invariant.cost, k, p)

pub loop-word-preserved : goal.loop-word-preserved
loop-word-preserved g c =
    let level = option_map (λ v. v.now.statics) c.args.statics in
    let e = node_here c.args.all.now c.loop-word.word c.index-all-word.result c.index-all-word.is
    c.loop-word-test.true in
    let h = rw (c.word_parts.ensures, c.empty-text.ensures) at c.in_ok-text.ensures.piece in
    let l = short_by _ _ c.in_ok-fits-in-Whole.ensures.fits c.if-not-fits.false in
    let a = c.in_ok-fits-in-Whole.ensures.added c.if-not-fits.false in
    let p = rw (c.word_parts.ensures, c.empty-text.ensures, c.part_price-price.ensures) at
    c.in_ok-text.ensures.cost in
    let k = word_more_cost c.args.unit level c.args.vars.now _ _ _ e c.loop-word.values c.in-Whole.text
    (sym h ∙ c.in-Whole.is) l in
    record {
      words = rw a (sym (word_more level c.args.vars.now _ _ _ c.loop-word.word e c.loop-word.values
          c.in-Whole.text (sym h ∙ c.in-Whole.is) l)) ∙ c.loop-word.invariant.words;
      cost = rw a (omega (arith, c.loop-word.invariant.cost, k, p));
    }
