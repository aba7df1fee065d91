use Rattle.std.proofs.Common.{◌≡◌, drop}
use Rattle.tmsh_text.specs.Braces.{first_rule, is_not_utf8}
use Rattle.tmsh_text.proofs.braces.first_not_utf8.Given as goal

abbrev pub invariant-loop-rule : goal.invariant-loop-rule
invariant-loop-rule l = (first_rule is_not_utf8 l.at (drop l.rule-index l.rules) ≡ first_rule is_not_utf8 0 l.rules) × (l.at ≡ l.rule-index)
