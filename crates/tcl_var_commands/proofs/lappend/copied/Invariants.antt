use Rattle.std.proofs.Common.{◌≡◌, take}
use Rattle.tcl_var_commands.proofs.lappend.copied.Given as goal

abbrev pub invariant-loop-text : goal.invariant-loop-text
invariant-loop-text l = l.copies ≡ take l.text-index l.texts
