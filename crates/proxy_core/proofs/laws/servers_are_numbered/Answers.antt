use Rattle.proxy_core.proofs.Numbered.{servers_are_numbered}
use Rattle.proxy_core.proofs.laws.servers_are_numbered.Goals as goal

pub returns : goal.returns
returns c = servers_are_numbered
