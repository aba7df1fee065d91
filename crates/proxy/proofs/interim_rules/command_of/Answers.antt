use Rattle.event_order.proofs.ByName.{command_by_name}
use Rattle.irule_net.proofs.Found.{same_options}
use Rattle.proxy.proofs.interim_rules.command_of.Goals as goal

pub returns : goal.returns
returns c =
    let name = c.args.name.now in
    same_options _ _ (λ d h. (command_by_name name d).1 ((c.read_command.ensures d).0 h))
    (λ d h. (c.read_command.ensures d).1 ((command_by_name name d).0 h))
