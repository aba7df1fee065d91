-- What a node of the code has, where its kind has it.
use Rattle.std.specs.Prelude.{List, [], Bool, true, false, Some, None}
use Rattle.tcl_expr.specs.declared.expr.Joint.{Joint}
use Rattle.tcl_expr.specs.declared.operator.Op1.{Op1}
use Rattle.tcl_trees.specs.Tree.{Tree}
use Rattle.tcl_trees.specs.TreeView.{node_view, values_view}
use Rattle.tcl_trees.specs.declared.node.Node.{Node}
use Rattle.tcl_trees.specs.declared.node.Node.TheOpen.{Node-F}
use Rattle.frame_loops.specs.Branches.{Choices, choices}
use Rattle.frames.specs.Children.{child_at}
use Rattle.frame_loops.specs.Loops.{Parts}

abbrev pub operators_in : Node-F Node → List Op1
operators_in (Node-F.Prefixed ops e) = ops.items
operators_in node = []

abbrev pub joints_in : Node-F Node → List (Joint × Node)
joints_in (Node-F.Row first rest) = rest.items
joints_in node = []

abbrev pub choices_in : Bool → Node-F Node → Choices
choices_in wanted (Node-F.If vs last) =
    choices (values_view vs.items) (Some (node_view last.value)) false wanted
choices_in wanted (Node-F.Choice vs last) =
    choices (values_view vs.items) (Some (node_view last.value)) true wanted
choices_in wanted node = choices [] None false wanted

-- the parts of a loop, as its children
abbrev pub parts_of : Tree → Parts
parts_of t = record {
  start = child_at t 0;
  test = child_at t 1;
  next = child_at t 2;
  body = child_at t 3;
}
