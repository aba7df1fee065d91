use Rattle.std.proofs.Common.{◌≡◌, option_map, drop}
use Rattle.tcl_var_commands.specs.Assigning.{row_assigned}
use Rattle.tcl_var_commands.proofs.assigning.assign_row.Given as goal

abbrev pub invariant-loop-name : goal.invariant-loop-name
invariant-loop-name l =
    let level = option_map (λ v. v.now.statics) l.statics in
    row_assigned level (drop l.name-index l.names) l.rest l.vars ≡ row_assigned level l.names l.values l.fn.vars
