use Rattle.std.proofs.Common.{◌≡◌, refl, option_map}
use Rattle.tcl_trees.specs.Tree as tree
use Rattle.tcl_trees.specs.Tree.{trees_of, values_of}
use Rattle.tcl_trees.specs.TreeView.{node_view, values_view}
use Rattle.tcl_trees.specs.declared.node.Node.{fold-roll-Node}
use Rattle.tcl_trees.specs.declared.node.Node.TheVariants.{rolls-If}
use Rattle.rule_nodes.specs.Short.{purse}
use Rattle.rule_nodes.proofs.ShortChosen.{choice_on}
use Rattle.rule_nodes.proofs.short_commands.+done.Goals as goal

pub done-returns-in-If-clause-done : goal.done-returns-in-If-clause-done
done-returns-in-If-clause-done t c =
    let level = option_map (λ v. v.now.statics) c.args.statics in
    let shown = tree.branches (values_of (values_view c.deref-in-If.result.now)) (node_view c.deref-in-If-2.result.now) in
    let is : node_view c.args.command.now ≡ shown = rw (c.in-If.is, c.deref-in-If.ensures.value, c.deref-in-If-2.ensures, ← rolls-If, fold-roll-Node) refl in
    let call = c.chosen_done in
    choice_on call.result c.if_body-chosen.result level c.args.vars.now shown (node_view c.args.command.now) c.args.budget.now c.args.work.now.cost
    c.if_body-chosen.new.work.cost (purse call.new.vars call.new.budget call.new.work.cost) is c.if_body-chosen.ensures.chosen call.ensures.done
