use Rattle.std.proofs.Common.{◌≡◌, ◌++◌, drop}
use Rattle.tmsh_text.specs.Printed.{named_rules}
use Rattle.tmsh_text.proofs.servers.named_rules.Given as goal

abbrev pub invariant-loop-name : goal.invariant-loop-name
invariant-loop-name l = l.text ++ named_rules (drop l.name-index l.names) ≡ named_rules l.names
