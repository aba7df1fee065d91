use Rattle.std.proofs.Common.{◌≡◌, ◌++◌, drop}
use Rattle.std.specs.List.{flat_map}
use Rattle.tcl_var_commands.proofs.append.run_together.Given as goal

abbrev pub invariant-loop-value : goal.invariant-loop-value
invariant-loop-value l = l.text ++ flat_map (λ v. v) (drop l.value-index l.values) ≡ flat_map (λ v. v) l.values
