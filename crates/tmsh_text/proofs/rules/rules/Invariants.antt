use Rattle.std.proofs.Common.{◌≡◌, ◌++◌, drop}
use Rattle.tmsh_text.specs.Printed.{rules_text}
use Rattle.tmsh_text.proofs.rules.rules.Given as goal

abbrev pub invariant-loop-one : goal.invariant-loop-one
invariant-loop-one l = l.text ++ rules_text (drop l.one-index l.rules) ≡ rules_text l.rules
