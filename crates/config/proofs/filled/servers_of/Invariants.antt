use Rattle.std.proofs.Common.{◌≡◌, map, take}
use Rattle.config.specs.Filled.{server_of}
use Rattle.config.proofs.filled.servers_of.Given as goal

abbrev pub invariant-loop-server : goal.invariant-loop-server
invariant-loop-server l = l.made ≡ map (server_of l.rules) (take l.server-index l.servers)
