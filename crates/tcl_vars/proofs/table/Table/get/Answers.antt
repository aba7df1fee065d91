use Rattle.std.proofs.Common.{ap, subst, ◌∙◌}
use Rattle.tcl_vars.specs.Scopes.{find_in}
use Rattle.tcl_vars.specs.Tables.{IsInOrder}
use Rattle.tcl_vars.proofs.Named.{find_in-named, in_order-named}
use Rattle.tcl_vars.proofs.table.Table.get.Goals as goal

pub returns-clause-value : goal.returns-clause-value
returns-clause-value g c =
    c.get.ensures.value ∙ find_in-named (λ k. k.items) c.args.name.now c.self.inside.tree.entries ∙ ap (λ t. find_in c.args.name.now t) c.self.view_is

pub returns-clause-in_order : goal.returns-clause-in_order
returns-clause-in_order g c = subst (λ t. IsInOrder t) c.self.view_is (in_order-named (λ k. k.items) c.self.inside.tree.entries c.self.invariant)
