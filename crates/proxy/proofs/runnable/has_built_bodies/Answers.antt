use Rattle.std.proofs.Common.{ap, sym, ◌∙◌}
use Rattle.std.specs.List.{list_all}
use Rattle.proxy.specs.HostCommands.{is_built}
use Rattle.rule_loader.specs.Handlers.{handler_view, handlers_at}
use Rattle.tcl_trees.specs.TreeView.{node_view}
use Rattle.proxy.proofs.ListTests.{all_map}
use Rattle.proxy.proofs.runnable.has_built_bodies.Goals as goal

pub returns : goal.returns
returns c =
    c.are_bodies_built.ensures ∙ ap (λ hs. list_all (λ h. is_built c.args.http (node_view h.body)) hs) (c.as_slice.ensures ∙ c.handlers.ensures)
    ∙ sym (all_map (λ h. is_built c.args.http h.body) handler_view (handlers_at c.args.event c.args.rule.now.bodies))
