use Rattle.std.proofs.Common.{sym, subst, ◌∙◌, arith}
use Rattle.tcl_expr.proofs.PrefixTurns.{PrefixesTo, prefixes_begin, prefixes_turn, prefixes_end, none_left}
use Rattle.tcl_expr.proofs.prefixes.prefixes.Goals as goal

pub loop-operator-init : goal.loop-operator-init
loop-operator-init c = record {
  so_far = subst (λ l. PrefixesTo c.args.row c.args.text.now c.args.start l c.args.start) (sym c.new-operators.ensures.items) (prefixes_begin _ _ _);
  within = c.requires;
  onward = omega arith;
}

pub loop-operator-preserved : goal.loop-operator-preserved
loop-operator-preserved c =
    let text = c.args.text.now in
    let turned = prefixes_turn c.args.row text c.args.start c.loop-operator.at c.loop-operator.operators.items c.in-Some.operator c.in-Some.end c.white_end-at.result
    c.loop-operator.invariant.within (sym c.in-Some.ensures.value) c.white_end-at.ensures.value (omega (arith, c.in-Some.ensures.onward, c.white_end-at.ensures.onward)) c.loop-operator.invariant.so_far in
    record {
      so_far = subst (λ l. PrefixesTo c.args.row text c.args.start l c.white_end-at.result) (sym c.in_ok-push.ensures.items) turned;
      within = c.white_end-at.ensures.within;
      onward = omega (arith, c.loop-operator.invariant.onward, c.in-Some.ensures.onward, c.white_end-at.ensures.onward);
    }

pub returns-clause-value : goal.returns-clause-value
returns-clause-value c =
    prefixes_end c.args.row c.args.text.now c.args.start c.loop-operator.at c.loop-operator.operators.items
    (sym c.prefix_at.ensures.value ∙ none_left c.prefix_at.result c.in_default.not-Some) c.loop-operator.invariant.so_far
