use Rattle.std.proofs.Common.{◌≡◌, drop, false}
use Rattle.rule_model.specs.Control.{is_glob}
use Rattle.rule_nodes.proofs.choice.is_glob.Given as goal

abbrev pub invariant-loop-option : goal.invariant-loop-option
invariant-loop-option l = is_glob l.glob (drop l.option-index l.options) ≡ is_glob false l.options
