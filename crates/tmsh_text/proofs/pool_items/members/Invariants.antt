use Rattle.std.proofs.Common.{◌≡◌, ◌++◌, drop}
use Rattle.tmsh_text.specs.Printed.{member_lines}
use Rattle.tmsh_text.proofs.pool_items.members.Given as goal

abbrev pub invariant-loop-one : goal.invariant-loop-one
invariant-loop-one l = l.text ++ member_lines (drop l.one-index l.members) ≡ member_lines l.members
