use Rattle.std.proofs.Common.{◌≡◌, ◌++◌, drop}
use Rattle.proxy.specs.Explain.{addresses}
use Rattle.proxy.proofs.explain.addresses.Given as goal

abbrev pub invariant-loop-server : goal.invariant-loop-server
invariant-loop-server l = l.text ++ addresses (drop l.server-index l.servers) ≡ addresses l.servers
