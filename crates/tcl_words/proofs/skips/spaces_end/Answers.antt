use Rattle.std.proofs.Common.{◌+◌, refl, sym, ◌∙◌, arith}
use Rattle.tcl_words.specs.Places.{is_space}
use Rattle.tcl_words.specs.Skips.{spaces_end}
use Rattle.tcl_words.proofs.Runs.{space_within, skip_begins, skip_turn, skip_ends}
use Rattle.tcl_words.proofs.skips.spaces_end.Goals as goal

pub loop-at-init : goal.loop-at-init
loop-at-init c = record {
  so_far = skip_begins _ _ _ _;
  within = c.requires;
  onward = omega arith;
}

pub loop-at-preserved : goal.loop-at-preserved
loop-at-preserved c =
    let here = sym c.is_space.ensures ∙ c.loop-at-test.true in
    let more = space_within c.args.text.now c.loop-at.at here in
    record {
      so_far = skip_turn (is_space c.args.text.now) (λ k. k + 1) _ _ _ _ c.loop-at.invariant.within here refl
          (omega arith) c.loop-at.invariant.so_far;
      within = omega arith;
      onward = omega arith;
    }

pub loop-at-smaller : goal.loop-at-smaller
loop-at-smaller c =
    let more = space_within c.args.text.now c.loop-at.at (sym c.is_space.ensures ∙ c.loop-at-test.true) in
    omega arith

pub returns-clause-value : goal.returns-clause-value
unfolding spaces_end
returns-clause-value c =
    skip_ends (is_space c.args.text.now) (λ k. k + 1) _ _ _ (sym c.is_space.ensures ∙ c.loop-at-test.false)
    c.loop-at.invariant.so_far
