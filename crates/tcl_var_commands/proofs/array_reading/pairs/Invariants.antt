use Rattle.std.proofs.Common.{◌≡◌, ◌++◌, drop}
use Rattle.std.specs.Prelude.{None}
use Rattle.tcl_vars.specs.Scopes.{elements}
use Rattle.tcl_var_commands.specs.Array.{pairs_of}
use Rattle.tcl_var_commands.specs.Reading.{level_read}
use Rattle.tcl_var_commands.proofs.array_reading.pairs.Given as goal

abbrev pub invariant-loop-index : goal.invariant-loop-index
invariant-loop-index l =
    let table = elements l.name (level_read None l.vars l.name) in
    l.pairs ++ pairs_of (drop l.index-index table) ≡ pairs_of table
