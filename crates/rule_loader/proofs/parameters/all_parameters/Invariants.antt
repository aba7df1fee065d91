use Rattle.std.proofs.Common.{◌≡◌, ◌++◌, drop, option_map}
use Rattle.rule_loader.specs.Parameters.{all_parameters}
use Rattle.rule_loader.proofs.parameters.all_parameters.Given as goal

abbrev pub invariant-loop-text : goal.invariant-loop-text
invariant-loop-text l =
    all_parameters l.texts ≡ option_map (λ ps. l.parameters.items ++ ps) (all_parameters (drop l.text-index l.texts))
