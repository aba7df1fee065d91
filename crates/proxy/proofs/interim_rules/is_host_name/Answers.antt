use Rattle.proxy.proofs.HostNames.{host_test}
use Rattle.proxy.proofs.interim_rules.is_host_name.Goals as goal

pub returns : goal.returns
returns c = host_test c.args.name.now c.is_host_command.result c.is_host_command.ensures
