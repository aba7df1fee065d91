use Rattle.std.proofs.Common.{◌≡◌, drop}
use Rattle.tcl_var_commands.specs.Array.{without_indexes}
use Rattle.tcl_var_commands.proofs.array_setting.unset_indexes.Given as goal

abbrev pub invariant-loop-index : goal.invariant-loop-index
invariant-loop-index l = without_indexes l.name (drop l.index-index l.indexes) l.vars ≡ without_indexes l.name l.indexes l.fn.vars
