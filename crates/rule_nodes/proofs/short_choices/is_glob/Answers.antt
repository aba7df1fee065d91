use Rattle.std.proofs.Common.{sym, ◌+◌, drop, subst}
use Rattle.tcl_trees.specs.TreeView.{node_view, nodes_view}
use Rattle.rule_nodes.proofs.ShortChoices.{GlobIs, nodes_at, option_is, no_options}
use Rattle.rule_nodes.proofs.short_choices.is_glob.Goals as goal

pub loop-option-preserved : goal.loop-option-preserved
loop-option-preserved c =
    let n = c.option-item.result in
    let behind = nodes_view (drop (c.loop-option.option-index + 1) c.args.options.now) in
    λ out h. c.loop-option.invariant out (subst (λ ts. GlobIs c.loop-option.glob ts out)
    (sym (nodes_at c.args.options.now c.loop-option.option-index n c.loop-option-test.true c.option-item.is))
    (option_is c.loop-option.glob c.in_ok-glob.glob out (node_view n) behind c.in_ok-literal.field-0.now (sym c.in_ok-literal.ensures) c.in_ok-glob.ensures h))

pub returns : goal.returns
returns c = record {
  compares = c.loop-option.invariant c.loop-option.glob (no_options c.loop-option.glob c.args.options.now c.loop-option.option-index c.loop-option-test.false);
}
