use Rattle.std.proofs.Common.{sym, ◌∙◌, arith}
use Rattle.tcl_words.specs.Places.{after_blank}
use Rattle.tcl_words.proofs.Runs.{skip_begins, skip_turn, skip_ends}
use Rattle.tcl_expr.specs.Tokens.{white_stands, white_end}
use Rattle.tcl_expr.proofs.Places.{white_within}
use Rattle.tcl_expr.proofs.tokens.white_end.Goals as goal

pub loop-at-init : goal.loop-at-init
loop-at-init c = record {
  so_far = skip_begins _ _ _ _;
  within = c.requires;
  onward = omega arith;
}

pub after_blank-at-requires : goal.after_blank-at-requires
after_blank-at-requires c =
    white_within c.args.text.now c.loop-at.at (sym c.white_stands.ensures ∙ c.loop-at-test.true)

pub loop-at-preserved : goal.loop-at-preserved
loop-at-preserved c =
    let here = sym c.white_stands.ensures ∙ c.loop-at-test.true in
    let more = white_within c.args.text.now c.loop-at.at here in
    record {
      so_far = skip_turn (white_stands c.args.text.now) (after_blank c.args.text.now) _ _ _ _ c.loop-at.invariant.within here
          c.after_blank-at.ensures.value c.after_blank-at.ensures.onward c.loop-at.invariant.so_far;
      within = omega arith;
      onward = omega arith;
    }

pub loop-at-smaller : goal.loop-at-smaller
loop-at-smaller c =
    let more = white_within c.args.text.now c.loop-at.at (sym c.white_stands.ensures ∙ c.loop-at-test.true) in
    omega arith

pub returns-clause-value : goal.returns-clause-value
unfolding white_end
returns-clause-value c =
    skip_ends (white_stands c.args.text.now) (after_blank c.args.text.now) _ _ _ (sym c.white_stands.ensures ∙ c.loop-at-test.false)
    c.loop-at.invariant.so_far
