use Rattle.std.proofs.Common.{◌∙◌}
use Rattle.rule_loader.proofs.Names.{tcl_named}
use Rattle.rule_loader.proofs.judge.is_tcl.Goals as goal

pub returns : goal.returns
returns c =
    c.kind_is_tcl.ensures ∙ tcl_named c.args.name.now c.kind_of.result c.kind_of.ensures c.requires
