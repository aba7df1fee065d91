use Rattle.std.proofs.Common.{◌≡◌, drop, map}
use Rattle.pool_monitor.specs.Documents.{is_known}
use Rattle.pool_monitor.proofs.document.is_known.Given as goal

abbrev pub invariant-loop-known : goal.invariant-loop-known
invariant-loop-known l = is_known (map (λ n. n.now) l.names) l.name ≡ is_known (map (λ n. n.now) (drop l.known-index l.names)) l.name
