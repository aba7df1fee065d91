use Rattle.std.proofs.Common.{◌≡◌, ◌+◌, length}
use Rattle.std.specs.Prelude.{option_map}
use Rattle.rule_model.specs.Control.{first_hit}
use Rattle.rule_nodes.proofs.choice.first_hit.Given as goal

abbrev pub invariant-loop-rest : goal.invariant-loop-rest
invariant-loop-rest l = record {
  hit : option_map (λ k. l.at + k) (first_hit l.by_glob l.text l.rest) ≡ first_hit l.by_glob l.text l.patterns;
  count : l.at + length l.rest ≡ length l.patterns;
}

abbrev pub decreases-loop-rest : goal.decreases-loop-rest
decreases-loop-rest l = length l.rest
