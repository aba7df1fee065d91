use Rattle.std.proofs.Common.{◌≡◌, ap, sym, ◌∙◌, ◌-◌, suc, length, take, drop, arith}
use Rattle.tcl_trees.specs.TreeView.{node_view, nodes_view}
use Rattle.rule_nodes.proofs.Hits.{one_more}
use Rattle.rule_nodes.proofs.ShortChoices.{hits_are, no_hit}
use Rattle.rule_nodes.proofs.short_choices.first_hit.Goals as goal

pub loop-rest-preserved : goal.loop-rest-preserved
loop-rest-preserved c =
    let rest = c.loop-rest.rest.now in
    let more = take (length rest - 1) (drop 1 rest) in
    let n = c.pattern-item.result in
    let p = c.in_ok-literal.field-0.now in
    let split = one_more rest n c.in-len1-up.len_at_least c.pattern-item.is in
    let few : length rest ≡ suc (length more) = ap length split in
    record {
      left = λ texts e. no_hit c.args.by_glob c.args.text.now p (node_view n) (nodes_view more) c.loop-rest.at _ (sym c.in_ok-literal.ensures)
          (λ us k. sym (hits_are c.args.by_glob c.args.text.now p c.is_empty.result more us c.is_empty.ensures k) ∙ sym c.hits.ensures ∙ c.if-hits.false)
          (rw split at (c.loop-rest.invariant.left texts e));
      count = omega (arith, few, c.loop-rest.invariant.count);
    }
