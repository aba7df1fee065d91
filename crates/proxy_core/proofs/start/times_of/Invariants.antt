use Rattle.std.proofs.Common.{◌≡◌, map, take}
use Rattle.record_model.specs.History.{time_of}
use Rattle.proxy_core.proofs.start.times_of.Given as goal

abbrev pub invariant-loop-server : goal.invariant-loop-server
invariant-loop-server l = l.times ≡ map time_of (take l.server-index l.servers)
