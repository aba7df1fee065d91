use Rattle.std.proofs.Common.{sym, ◌∙◌, arith}
use Rattle.tcl_words.specs.Places.{in_gap}
use Rattle.tcl_words.specs.Skips.{after_gap_part, gap_end}
use Rattle.tcl_words.proofs.Runs.{gap_within, skip_begins, skip_turn, skip_ends}
use Rattle.tcl_words.proofs.skips.gap_end.Goals as goal

pub loop-at-init : goal.loop-at-init
loop-at-init c = record {
  so_far = skip_begins _ _ _ _;
  within = c.requires;
  onward = omega arith;
}

pub after_gap_part-at-requires : goal.after_gap_part-at-requires
after_gap_part-at-requires c =
    gap_within c.args.text.now c.loop-at.at (sym c.in_gap.ensures ∙ c.loop-at-test.true)

pub loop-at-preserved : goal.loop-at-preserved
loop-at-preserved c =
    let here = sym c.in_gap.ensures ∙ c.loop-at-test.true in
    let more = gap_within c.args.text.now c.loop-at.at here in
    record {
      so_far = skip_turn (in_gap c.args.text.now) (after_gap_part c.args.text.now) _ _ _ _ c.loop-at.invariant.within here
          c.after_gap_part-at.ensures.value c.after_gap_part-at.ensures.onward c.loop-at.invariant.so_far;
      within = omega arith;
      onward = omega arith;
    }

pub loop-at-smaller : goal.loop-at-smaller
loop-at-smaller c =
    let more = gap_within c.args.text.now c.loop-at.at (sym c.in_gap.ensures ∙ c.loop-at-test.true) in
    omega arith

pub returns-clause-value : goal.returns-clause-value
unfolding gap_end
returns-clause-value c =
    skip_ends (in_gap c.args.text.now) (after_gap_part c.args.text.now) _ _ _ (sym c.in_gap.ensures ∙ c.loop-at-test.false)
    c.loop-at.invariant.so_far
