use Rattle.std.proofs.Common.{sym, ◌∙◌}
use Rattle.tcl_trees.specs.TreeView.{node_view}
use Rattle.proxy.proofs.HostNames.{built_if}
use Rattle.proxy.proofs.interim_rules.is_built.Goals as goal

pub returns-clause-named : goal.returns-clause-named
returns-clause-named c =
    let named = built_if c.args.http (node_view c.args.node.now) in
    (λ h. named.0 (sym c.node_is_built.ensures ∙ h), λ each. c.node_is_built.ensures ∙ named.1 each)
