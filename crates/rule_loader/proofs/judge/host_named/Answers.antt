use Rattle.std.proofs.Common.{◌≡◌}
use Rattle.event_order.proofs.ByName.{command_by_name}
use Rattle.event_order.specs.Command.{command_row}
use Rattle.rule_loader.specs.CommandNames.{host_named}
use Rattle.rule_loader.proofs.Names.{both_named}
use Rattle.rule_loader.proofs.judge.host_named.Goals as goal

pub returns : goal.returns
returns c =
    both_named c.read_command.result (host_named c.args.name.now) (λ d. c.args.name.now ≡ (command_row d).name) c.read_command.ensures (command_by_name c.args.name.now)
