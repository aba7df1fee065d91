use Rattle.std.proofs.Common.{arith}
use Rattle.rule_loader.specs.CommandNames.{name_faults}
use Rattle.rule_loader.proofs.Loading.{told_more}
use Rattle.rule_loader.proofs.told.Told.names.Goals as goal

pub loop-named-preserved : goal.loop-named-preserved
loop-named-preserved c =
    told_more (name_faults c.args.event) c.args.names.now c.loop-named.named-index c.named-item.result (omega arith) c.named-item.is
    c.args.self.now c.loop-named.self c.name.new.self c.loop-named.invariant c.name.ensures
