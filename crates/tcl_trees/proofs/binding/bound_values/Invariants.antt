use Rattle.std.proofs.Common.{◌≡◌, ◌++◌, length}
use Rattle.std.specs.Prelude.{option_map}
use Rattle.tcl_trees.specs.Procedures.{values_bound}
use Rattle.tcl_trees.proofs.binding.bound_values.Given as goal

abbrev pub invariant-loop-due : goal.invariant-loop-due
invariant-loop-due l =
    values_bound l.fn.parameters l.fn.words
    ≡ option_map (λ values. l.values ++ values) (values_bound l.due l.left)

abbrev pub decreases-loop-due : goal.decreases-loop-due
decreases-loop-due l = length l.due
