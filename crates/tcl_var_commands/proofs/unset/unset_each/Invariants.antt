use Rattle.std.proofs.Common.{◌≡◌, option_map, drop}
use Rattle.tcl_var_commands.specs.Unset.{unset_each}
use Rattle.tcl_var_commands.proofs.unset.unset_each.Given as goal

abbrev pub invariant-loop-name : goal.invariant-loop-name
invariant-loop-name l =
    let level = option_map (λ v. v.now.statics) l.statics in
    unset_each level l.lenient (drop l.name-index l.names) l.vars ≡ unset_each level l.lenient l.names l.fn.vars
