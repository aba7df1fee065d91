use Rattle.std.proofs.Common.{◌≡◌, option_map, length}
use Rattle.tcl_var_commands.specs.Array.{pairs_assigned}
use Rattle.tcl_var_commands.proofs.array_setting.set_pairs.Given as goal

abbrev pub invariant-loop-rest : goal.invariant-loop-rest
invariant-loop-rest l =
    let level = option_map (λ v. v.now.statics) l.statics in
    pairs_assigned level l.name l.rest l.vars ≡ pairs_assigned level l.name l.fn.pairs l.fn.vars

abbrev pub decreases-loop-rest : goal.decreases-loop-rest
decreases-loop-rest l = length l.rest
