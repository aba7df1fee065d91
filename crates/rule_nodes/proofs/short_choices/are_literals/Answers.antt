use Rattle.std.proofs.Common.{sym, ap, ◌∙◌, ◌+◌, ◌-◌, drop, subst, arith}
use Rattle.tcl_trees.specs.TreeView.{node_view, nodes_view}
use Rattle.rule_nodes.specs.AtOnce.{AreLiterals}
use Rattle.rule_nodes.proofs.ShortChoices.{nodes_at, one_is}
use Rattle.rule_nodes.proofs.short_choices.are_literals.Goals as goal

pub loop-word-preserved : goal.loop-word-preserved
loop-word-preserved c =
    let n = c.word-item.result in
    let behind = nodes_view (drop (c.loop-word.word-index + 1) c.args.words.now) in
    record {
      are = λ cost r. c.loop-word.invariant.are cost (subst (λ ts. AreLiterals ts (262144 - c.loop-word.total) c.loop-word.work.cost cost)
          (sym (nodes_at c.args.words.now c.loop-word.word-index n c.loop-word-test.true c.word-item.is))
          (one_is (node_view n) behind c.in-Some.bytes.now 262144 c.loop-word.total c.loop-word.work.cost c.pay.new.self.cost cost
          (sym c.in-Some.ensures) (omega arith) (c.if-not-pay.ensures.paid ∙ ap (λ m. c.loop-word.work.cost + m) c.literal_price.ensures) r));
      few = omega arith;
    }
