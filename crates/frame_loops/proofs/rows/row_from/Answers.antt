use Rattle.std.proofs.Common.{◌∙◌, ap, sym, ◌+◌, ◌-◌, arith}
use Rattle.tcl_trees.specs.TreeView.{node_view}
use Rattle.frames.specs.Reads.{known_by}
use Rattle.frame_loops.specs.Rows.{most_operators}
use Rattle.frame_loops.proofs.RowSteps.{operand_here, row_ends, row_goes, row_stays}
use Rattle.frame_loops.proofs.rows.row_from.Goals as goal

pub returns-then-at-first-eq-MOST_OPERATORS-clause-did : goal.returns-then-at-first-eq-MOST_OPERATORS-clause-did
returns-then-at-first-eq-MOST_OPERATORS-clause-did g c =
    let l = c.loop-at in
    let four = c.if-at-first-eq-MOST_OPERATORS.true in
    let is = row_stays (known_by c.args.reads.now) (most_operators - (l.at - c.args.first)) l.at
    c.args.joints.now l.left c.loop-at-test.true (omega (arith, four)) in
    record {
      value_is = sym (ap (λ r. r.value) is) ∙ l.invariant.value;
      paid_is = omega (arith, l.invariant.cost, ap (λ r. r.cost) is);
      ticked_is = omega (arith, l.invariant.ticks, ap (λ r. r.ticks) is);
    }

pub returns-in-Ends-clause-did : goal.returns-in-Ends-clause-did
returns-in-Ends-clause-did g c =
    let l = c.loop-at in
    let o = c.index-joints-at.result in
    let joined = c.in_ok-value.ensures.did in
    let here = operand_here c.args.joints.now l.at o c.index-joints-at.is c.loop-at-test.true in
    let more = c.if-at-first-eq-MOST_OPERATORS.false in
    let is = row_ends (known_by c.args.reads.now) (most_operators - (l.at + 1 - c.args.first))
    (most_operators - (l.at - c.args.first)) l.at _ _ (o.0, node_view o.1) l.left c.in-Ends.rowed
    (omega (arith, more, l.invariant.few, l.auto.at)) here (sym c.in-Ends.is ∙ joined.value_is) in
    record {
      value_is = sym (ap (λ r. r.value) is) ∙ l.invariant.value;
      paid_is = omega (arith, l.invariant.cost, ap (λ r. r.cost) is, joined.paid_is);
      ticked_is = omega (arith, l.invariant.ticks, ap (λ r. r.ticks) is, joined.ticked_is);
    }

pub loop-at-preserved : goal.loop-at-preserved
loop-at-preserved g c =
    let l = c.loop-at in
    let o = c.index-joints-at.result in
    let joined = c.in_ok-value.ensures.did in
    let here = operand_here c.args.joints.now l.at o c.index-joints-at.is c.loop-at-test.true in
    let more = c.if-at-first-eq-MOST_OPERATORS.false in
    let is = row_goes (known_by c.args.reads.now) (most_operators - (l.at + 1 - c.args.first))
    (most_operators - (l.at - c.args.first)) l.at _ _ (o.0, node_view o.1) l.left c.in-Goes.value
    (omega (arith, more, l.invariant.few, l.auto.at)) here (sym c.in-Goes.is ∙ joined.value_is) in
    record {
      few = omega (arith, more, l.invariant.few, l.auto.at);
      value = sym (ap (λ r. r.value) is) ∙ l.invariant.value;
      cost = omega (arith, l.invariant.cost, ap (λ r. r.cost) is, joined.paid_is);
      ticks = omega (arith, l.invariant.ticks, ap (λ r. r.ticks) is, joined.ticked_is);
      counted = omega (arith, l.invariant.counted, l.auto.at, c.in_ok-value.ensures.few);
    }

pub returns-in-Ends-clause-few : goal.returns-in-Ends-clause-few
returns-in-Ends-clause-few g c =
    let l = c.loop-at in
    let more = c.if-at-first-eq-MOST_OPERATORS.false in
    omega (arith, more, l.invariant.few, l.invariant.counted, c.in_ok-value.ensures.few)
