use Rattle.std.proofs.Common.{sym, ◌∙◌}
use Rattle.config.proofs.LineEnds.{all_passed, kept_on, passed_on}
use Rattle.config.proofs.line_ends.without_returns.Goals as goal

pub loop-rest-preserved-in_ok-push : goal.loop-rest-preserved-in_ok-push
loop-rest-preserved-in_ok-push c =
    rw c.in_ok-push.ensures.items (kept_on _ c.loop-rest.rest.now _ c.in-len1-up.len_at_least (sym c.is_return.ensures ∙ c.if-not-is_return.true) c.loop-rest.invariant)

pub loop-rest-preserved : goal.loop-rest-preserved
loop-rest-preserved c = passed_on _ c.loop-rest.rest.now _ c.in-len1-up.len_at_least (sym c.is_return.ensures ∙ c.if-not-is_return.false) c.loop-rest.invariant

pub returns : goal.returns
returns c = c.from_vec.ensures ∙ all_passed _ c.loop-rest.rest.now _ c.in_default.len_below c.loop-rest.invariant
