use Rattle.std.proofs.Common.{◌≡◌, ℕ, drop, option_map}
use Rattle.tcl_trees.specs.Tree.{trees_of}
use Rattle.tcl_trees.specs.TreeView.{nodes_view}
use Rattle.rule_nodes.specs.Short.{purse, short_pieces}
use Rattle.rule_nodes.proofs.short_choices.joined_parts.Given as goal

abbrev pub invariant-loop-part : goal.invariant-loop-part
invariant-loop-part l =
    let level = option_map (λ v. v.now.statics) l.statics in
    (budget : ℕ) → short_pieces level (trees_of (nodes_view l.parts)) l.fn.text (purse l.vars budget l.fn.work.cost)
    ≡ short_pieces level (trees_of (nodes_view (drop l.part-index l.parts))) l.text (purse l.vars budget l.work.cost)
