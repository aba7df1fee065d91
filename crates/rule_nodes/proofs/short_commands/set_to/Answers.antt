use Rattle.std.proofs.Common.{◌≡◌, ◌<◌, refl, option_map, rules, arith, w64, FitsSigned, length, ◌+◌, ◌-◌}
use Rattle.std.proofs.lemmas.Int.{to_z-of_z}
use Rattle.tcl_trees.specs.Tree as tree
use Rattle.tcl_trees.specs.Tree.{trees_of}
use Rattle.tcl_trees.specs.TreeView.{node_view}
use Rattle.tcl_trees.specs.declared.node.Node.{fold-roll-Node}
use Rattle.tcl_trees.specs.declared.node.Node.TheVariants.{rolls-Expr}
use Rattle.rule_nodes.proofs.ShortParts.{bracket_set, one_command, only_item}
use Rattle.rule_nodes.proofs.ShortVerbs.{InPlace}
use Rattle.rule_nodes.specs.AtOnce.{ReadsWhole}
use Rattle.rule_nodes.specs.Short.{purse}
use Rattle.tcl_vars.specs.Changed.{to_number}
use Rattle.rule_model.specs.Children.{alone}
use Rattle.rule_nodes.proofs.short_commands.set_to.Goals as goal

pub returns-clause-done : goal.returns-clause-done
returns-clause-done c =
    let level = option_map (λ v. v.now.statics) c.args.statics in
    let below = c.in-len1.len_below in
    let least = c.in-len1.len_at_least in
    let one : length c.args.commands.now ≡ 1 = omega arith in
    let n = c.in-Some.number in
    let t = node_view c.deref.result.now in
    let is : node_view c.command-item.result ≡ tree.expr t = rw (c.in-Expr.is, c.deref.ensures, ← rolls-Expr, fold-roll-Node) refl in
    let fits : FitsSigned w64 n = search rules in
    let changed = rw (to_z-of_z w64 n fits) at c.if-not-refill_whole.ensures.changed in
    let i : InPlace (to_number n) c.args.name.now c.args.vars.now c.refill_whole.new.self =
    record { changed = changed; own = c.if-not-refill_whole.ensures.own; room = c.refill_whole.ensures.room } in
    let some : 0 < c.args.budget.now = omega (arith, c.if-budget-eq0.false) in
    let reads : ReadsWhole level c.args.vars.now t (c.pay.new.self.cost + alone t) c.whole_at_once.new.work.cost n = c.in-Some.ensures.reads in
    one_command level c.args.name.now c.args.commands.now c.command-item.result t (purse c.args.vars.now c.args.budget.now c.args.work.now.cost)
    (purse c.refill_whole.new.self (c.args.budget.now - 1) c.whole_at_once.new.work.cost)
    (only_item c.args.commands.now c.command-item.result one c.command-item.is) is
    (bracket_set level c.args.name.now c.args.vars.now c.refill_whole.new.self t n c.args.budget.now c.args.work.now.cost c.pay.new.self.cost
    c.whole_at_once.new.work.cost reads c.if-not-pay.ensures.paid some fits.sfits i)
