-- The conditions of `if` and `?:`, as the code has them.
use Rattle.std.specs.Prelude.{option_map}
use Rattle.tcl_trees.specs.TreeView.{node_view, values_view}
use Rattle.frame_loops.specs.Branches.{Choices}
use Rattle.frame_loops.specs.declared.branches.Choices as code

abbrev pub choices_view : code.Choices → Choices
choices_view c = record {
  values = values_view c.values.now;
  last = option_map (λ n. node_view n.now) c.last;
  is_choice = c.is_choice;
  wanted = c.wanted;
}
