use Rattle.std.proofs.Common.{◌≡◌, ℕ, ◌+◌, drop, option_map}
use Rattle.tcl_trees.specs.Tree.{values_of}
use Rattle.tcl_trees.specs.TreeView.{node_view, values_view}
use Rattle.rule_nodes.specs.Short.{purse, short, short_branches}
use Rattle.rule_nodes.proofs.short_choices.if_body.Given as goal

abbrev pub invariant-loop-condition : goal.invariant-loop-condition
invariant-loop-condition l =
    let level = option_map (λ v. v.now.statics) l.statics in
    (budget : ℕ) → short_branches level (values_of (values_view l.values)) (short level (node_view l.last)) (purse l.vars budget (l.fn.work.cost + 1))
    ≡ short_branches level (values_of (values_view (drop l.condition-index l.values))) (short level (node_view l.last)) (purse l.vars budget l.work.cost)
