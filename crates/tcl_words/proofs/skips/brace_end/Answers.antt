use Rattle.std.proofs.Common.{◌+◌, refl, sym, ◌∙◌, arith}
use Rattle.tcl_words.specs.Places.{in_name}
use Rattle.tcl_words.specs.Skips.{brace_end}
use Rattle.tcl_words.proofs.Runs.{in_name_within, skip_begins, skip_turn, skip_ends}
use Rattle.tcl_words.proofs.skips.brace_end.Goals as goal

pub loop-at-init : goal.loop-at-init
loop-at-init c = record {
  so_far = skip_begins _ _ _ _;
  within = c.requires;
  onward = omega arith;
}

pub loop-at-preserved : goal.loop-at-preserved
loop-at-preserved c =
    let here = sym c.in_name.ensures ∙ c.loop-at-test.true in
    let more = in_name_within c.args.text.now c.loop-at.at here in
    record {
      so_far = skip_turn (in_name c.args.text.now) (λ k. k + 1) _ _ _ _ c.loop-at.invariant.within here refl
          (omega arith) c.loop-at.invariant.so_far;
      within = omega arith;
      onward = omega arith;
    }

pub loop-at-smaller : goal.loop-at-smaller
loop-at-smaller c =
    let more = in_name_within c.args.text.now c.loop-at.at (sym c.in_name.ensures ∙ c.loop-at-test.true) in
    omega arith

pub returns-clause-value : goal.returns-clause-value
unfolding brace_end
returns-clause-value c =
    skip_ends (in_name c.args.text.now) (λ k. k + 1) _ _ _ (sym c.in_name.ensures ∙ c.loop-at-test.false)
    c.loop-at.invariant.so_far
