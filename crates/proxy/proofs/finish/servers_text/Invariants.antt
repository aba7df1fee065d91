use Rattle.std.proofs.Common.{◌≡◌, ◌++◌, ◌+◌, drop}
use Rattle.proxy.specs.Replay.{servers_text}
use Rattle.proxy.proofs.finish.servers_text.Given as goal

abbrev pub invariant-loop-at : goal.invariant-loop-at
invariant-loop-at l = l.text ++ servers_text l.conn (l.at + 1) (drop l.at l.servers) ≡ servers_text l.conn 1 l.servers
