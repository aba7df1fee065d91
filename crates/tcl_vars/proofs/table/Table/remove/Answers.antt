use Rattle.std.proofs.Common.{ap, ◌∙◌}
use Rattle.tcl_vars.specs.Scopes.{find_in, take_out}
use Rattle.tcl_vars.proofs.Named.{named, find_in-named}
use Rattle.tcl_vars.proofs.TakenOut.{take_out-named}
use Rattle.tcl_vars.proofs.table.Table.remove.Goals as goal

pub returns-clause-value : goal.returns-clause-value
returns-clause-value g c =
    c.remove.ensures.value ∙ find_in-named (λ k. k.items) c.args.name.now c.self.inside.tree.entries ∙ ap (λ t. find_in c.args.name.now t) c.self.view_is

pub returns-clause-left : goal.returns-clause-left
returns-clause-left g c =
    ap (named (λ k. k.items)) c.remove.ensures.entries
    ∙ take_out-named (λ k. k.items) c.args.name.now c.self.inside.tree.entries
    ∙ ap (λ t. take_out c.args.name.now t) c.self.view_is
