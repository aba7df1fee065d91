use Rattle.std.proofs.Common.{◌+◌, refl, sym, ◌∙◌, arith}
use Rattle.tcl_words.proofs.Runs.{skip_begins, skip_turn, skip_ends}
use Rattle.tcl_expr.specs.Tokens.{digit_stands, digits_end}
use Rattle.tcl_expr.proofs.Places.{digit_within, further}
use Rattle.tcl_expr.proofs.tokens.digits_end.Goals as goal

pub loop-at-init : goal.loop-at-init
loop-at-init c = record {
  so_far = skip_begins _ _ _ _;
  within = c.requires.within;
  onward = omega arith;
}

pub loop-at-preserved : goal.loop-at-preserved
loop-at-preserved c =
    let here = sym c.digit_stands.ensures ∙ c.loop-at-test.true in
    let more = digit_within c.args.radix c.args.text.now c.loop-at.at here in
    record {
      so_far = skip_turn (digit_stands c.args.radix c.args.text.now) (λ k. k + 1) _ _ _ _ c.loop-at.invariant.within here refl
          (omega arith) c.loop-at.invariant.so_far;
      within = omega arith;
      onward = omega arith;
    }

pub loop-at-smaller : goal.loop-at-smaller
loop-at-smaller c =
    let more = digit_within c.args.radix c.args.text.now c.loop-at.at (sym c.digit_stands.ensures ∙ c.loop-at-test.true) in
    omega arith

pub returns-clause-value : goal.returns-clause-value
unfolding digits_end
returns-clause-value c =
    skip_ends (digit_stands c.args.radix c.args.text.now) (λ k. k + 1) _ _ _ (sym c.digit_stands.ensures ∙ c.loop-at-test.false)
    c.loop-at.invariant.so_far

pub returns-clause-moves : goal.returns-clause-moves
returns-clause-moves c stands =
    let ends = sym c.digit_stands.ensures ∙ c.loop-at-test.false in
    further (digit_stands c.args.radix c.args.text.now) c.args.start c.loop-at.at c.loop-at.invariant.onward stands ends
