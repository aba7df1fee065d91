use Rattle.std.proofs.Common.{sym, ◌∙◌, arith}
use Rattle.tcl_words.specs.Places.{is_blank, after_blank}
use Rattle.tcl_words.specs.Skips.{blanks_end}
use Rattle.tcl_words.proofs.Runs.{blank_within, skip_begins, skip_turn, skip_ends}
use Rattle.tcl_words.proofs.skips.blanks_end.Goals as goal

pub loop-at-init : goal.loop-at-init
loop-at-init c = record {
  so_far = skip_begins _ _ _ _;
  within = c.requires;
  onward = omega arith;
}

pub after_blank-at-requires : goal.after_blank-at-requires
after_blank-at-requires c =
    blank_within c.args.text.now c.loop-at.at (sym c.is_blank.ensures ∙ c.loop-at-test.true)

pub loop-at-preserved : goal.loop-at-preserved
loop-at-preserved c =
    let here = sym c.is_blank.ensures ∙ c.loop-at-test.true in
    let more = blank_within c.args.text.now c.loop-at.at here in
    record {
      so_far = skip_turn (is_blank c.args.text.now) (after_blank c.args.text.now) _ _ _ _ c.loop-at.invariant.within here
          c.after_blank-at.ensures.value c.after_blank-at.ensures.onward c.loop-at.invariant.so_far;
      within = omega arith;
      onward = omega arith;
    }

pub loop-at-smaller : goal.loop-at-smaller
loop-at-smaller c =
    let more = blank_within c.args.text.now c.loop-at.at (sym c.is_blank.ensures ∙ c.loop-at-test.true) in
    omega arith

pub returns-clause-value : goal.returns-clause-value
unfolding blanks_end
returns-clause-value c =
    skip_ends (is_blank c.args.text.now) (after_blank c.args.text.now) _ _ _ (sym c.is_blank.ensures ∙ c.loop-at-test.false)
    c.loop-at.invariant.so_far
