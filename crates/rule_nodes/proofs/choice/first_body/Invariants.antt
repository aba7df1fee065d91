use Rattle.std.proofs.Common.{◌≡◌, drop}
use Rattle.rule_nodes.specs.Choice.{first_body_of}
use Rattle.rule_nodes.proofs.choice.first_body.Given as goal

abbrev pub invariant-loop-at : goal.invariant-loop-at
invariant-loop-at l = first_body_of (drop l.at l.bodies) ≡ first_body_of (drop l.from l.bodies)
