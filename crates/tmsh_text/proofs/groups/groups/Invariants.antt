use Rattle.std.proofs.Common.{◌≡◌, ◌++◌, drop}
use Rattle.tmsh_text.specs.Printed.{groups_text}
use Rattle.tmsh_text.proofs.groups.groups.Given as goal

abbrev pub invariant-loop-one : goal.invariant-loop-one
invariant-loop-one l = l.text ++ groups_text (drop l.one-index l.groups) ≡ groups_text l.groups
