use Rattle.std.proofs.Common.{sym, ◌∙◌, arith}
use Rattle.tcl_words.specs.Places.{in_comment, after_comment_byte}
use Rattle.tcl_words.specs.Skips.{comment_end}
use Rattle.tcl_words.proofs.Runs.{comment_within, skip_begins, skip_turn, skip_ends}
use Rattle.tcl_words.proofs.skips.comment_end.Goals as goal

pub loop-at-init : goal.loop-at-init
loop-at-init c = record {
  so_far = skip_begins _ _ _ _;
  within = c.requires;
  onward = omega arith;
}

pub after_comment_byte-at-requires : goal.after_comment_byte-at-requires
after_comment_byte-at-requires c =
    comment_within c.args.text.now c.loop-at.at (sym c.in_comment.ensures ∙ c.loop-at-test.true)

pub loop-at-preserved : goal.loop-at-preserved
loop-at-preserved c =
    let here = sym c.in_comment.ensures ∙ c.loop-at-test.true in
    let more = comment_within c.args.text.now c.loop-at.at here in
    record {
      so_far = skip_turn (in_comment c.args.text.now) (after_comment_byte c.args.text.now) _ _ _ _ c.loop-at.invariant.within here
          c.after_comment_byte-at.ensures.value c.after_comment_byte-at.ensures.onward c.loop-at.invariant.so_far;
      within = omega arith;
      onward = omega arith;
    }

pub loop-at-smaller : goal.loop-at-smaller
loop-at-smaller c =
    let more = comment_within c.args.text.now c.loop-at.at (sym c.in_comment.ensures ∙ c.loop-at-test.true) in
    omega arith

pub returns-clause-value : goal.returns-clause-value
unfolding comment_end
returns-clause-value c =
    skip_ends (in_comment c.args.text.now) (after_comment_byte c.args.text.now) _ _ _ (sym c.in_comment.ensures ∙ c.loop-at-test.false)
    c.loop-at.invariant.so_far
