use Rattle.std.proofs.Common.{ap, arith, length, length-append}
use Rattle.rule_nodes.proofs.Prefixes.{prefixed_goes, prefixed_halts}
use Rattle.rule_nodes.proofs.operators.prefixed.Goals as goal

pub returns-in_err-value-clause-value : goal.returns-in_err-value-clause-value
returns-in_err-value-clause-value g c =
    let last = rw c.in-Some.is at c.split_last.ensures.cases in
    let one = rw c.as_bytes.ensures at c.in_err-value.ensures.value in
    prefixed_halts c.args.ops.now c.loop-op.rest.now c.in-Some.front.now c.in-Some.op.now c.args.value c.loop-op.value c.from_residual.result c.in_err-value.field-0.0 last.0 c.loop-op.invariant.value one c.from_residual.ensures

pub loop-op-preserved : goal.loop-op-preserved
loop-op-preserved g c =
    let last = rw c.in-Some.is at c.split_last.ensures.cases in
    let one = rw c.as_bytes.ensures at c.in_ok-value.ensures.value in
    record {
      value = prefixed_goes c.args.ops.now c.loop-op.rest.now c.in-Some.front.now c.in-Some.op.now c.args.value c.loop-op.value c.in_ok-value.value last.0 c.loop-op.invariant.value one;
      ticks = omega (arith, simp length-append at (ap length last.0), c.in_ok-value.ensures.ticks_once);
    }
