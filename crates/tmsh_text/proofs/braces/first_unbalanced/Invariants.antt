use Rattle.std.proofs.Common.{◌≡◌, drop}
use Rattle.tmsh_text.specs.Braces.{first_rule, is_unbalanced}
use Rattle.tmsh_text.proofs.braces.first_unbalanced.Given as goal

abbrev pub invariant-loop-rule : goal.invariant-loop-rule
invariant-loop-rule l = (first_rule is_unbalanced l.at (drop l.rule-index l.rules) ≡ first_rule is_unbalanced 0 l.rules) × (l.at ≡ l.rule-index)
