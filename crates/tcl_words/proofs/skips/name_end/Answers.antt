use Rattle.std.proofs.Common.{sym, ◌∙◌, arith}
use Rattle.tcl_words.specs.Places.{names, after_name}
use Rattle.tcl_words.specs.Skips.{name_end}
use Rattle.tcl_words.proofs.Runs.{name_within, skip_begins, skip_turn, skip_ends}
use Rattle.tcl_words.proofs.skips.name_end.Goals as goal

pub loop-at-init : goal.loop-at-init
loop-at-init c = record {
  so_far = skip_begins _ _ _ _;
  within = c.requires;
  onward = omega arith;
}

pub after_name-at-requires : goal.after_name-at-requires
after_name-at-requires c = sym c.names.ensures ∙ c.loop-at-test.true

pub loop-at-preserved : goal.loop-at-preserved
loop-at-preserved c =
    let here = sym c.names.ensures ∙ c.loop-at-test.true in
    let more = name_within c.args.text.now c.loop-at.at here in
    record {
      so_far = skip_turn (names c.args.text.now) (after_name c.args.text.now) _ _ _ _ c.loop-at.invariant.within here
          c.after_name-at.ensures.value c.after_name-at.ensures.onward c.loop-at.invariant.so_far;
      within = omega arith;
      onward = omega arith;
    }

pub loop-at-smaller : goal.loop-at-smaller
loop-at-smaller c =
    let more = name_within c.args.text.now c.loop-at.at (sym c.names.ensures ∙ c.loop-at-test.true) in
    omega arith

pub returns-clause-value : goal.returns-clause-value
unfolding name_end
returns-clause-value c =
    skip_ends (names c.args.text.now) (after_name c.args.text.now) _ _ _ (sym c.names.ensures ∙ c.loop-at-test.false)
    c.loop-at.invariant.so_far
