use Rattle.std.proofs.Common.{◌≡◌, ◌++◌, drop}
use Rattle.tmsh_text.specs.Printed.{servers_text}
use Rattle.tmsh_text.proofs.servers.servers.Given as goal

abbrev pub invariant-loop-one : goal.invariant-loop-one
invariant-loop-one l = l.text ++ servers_text (drop l.one-index l.servers) ≡ servers_text l.servers
