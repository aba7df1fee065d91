use Rattle.std.proofs.Common.{◌≡◌, ◌++◌, drop, map}
use Rattle.rule_nodes.proofs.calls.names_of.Given as goal

abbrev pub invariant-loop-parameter : goal.invariant-loop-parameter
invariant-loop-parameter l =
    l.names ++ map (λ q. q.name) (drop l.parameter-index l.parameters) ≡ map (λ q. q.name) l.parameters
