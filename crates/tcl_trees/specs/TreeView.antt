-- The tree that a value of the code stands for.
use Rattle.std.specs.Prelude.{List, [], ◌∷◌, Option, Some, None, map}
use Rattle.tcl_expr.specs.declared.expr.Joint.{Joint}
use Rattle.tcl_trees.specs.Tree.{Tree, plain, variable, element, word, script, command, expr}
use Rattle.tcl_trees.specs.Tree.{branches, choice, loop, each, switch, catch, catch_in, next_body}
use Rattle.tcl_trees.specs.Tree.{prefixed, row, trees_of, operands_of, values_of}
use Rattle.tcl_trees.specs.declared.node.Node.{Node, fold-Node}
use Rattle.tcl_trees.specs.declared.node.Node.TheOpen.{Node-F}

-- one level, with all that is inside already seen
abbrev pub node_step : Node-F Tree → Tree
node_step (Node-F.Plain text) = plain text
node_step (Node-F.Variable name) = variable name
node_step (Node-F.Element name index) = element name (trees_of index.items)
node_step (Node-F.Word parts) = word (trees_of parts.items)
node_step (Node-F.Script commands) = script (trees_of commands.items)
node_step (Node-F.Command verb nodes) = command verb (trees_of nodes.items)
node_step (Node-F.Expr e) = expr e.value
node_step (Node-F.If vs last) = branches (values_of vs.items) last.value
node_step (Node-F.Loop start test next body) = loop start.value test.value next.value body.value
node_step (Node-F.Foreach words body) = each (trees_of words.items) body.value
node_step (Node-F.Switch front words bodies) =
    switch front (trees_of words.items) (trees_of bodies.items)
node_step (Node-F.Catch body) = catch body.value
node_step (Node-F.CatchIn body name) = catch_in body.value name.value
node_step Node-F.NextBody = next_body
node_step (Node-F.Prefixed ops e) = prefixed ops.items e.value
node_step (Node-F.Row first rest) = row first.value (operands_of rest.items)
node_step (Node-F.Choice vs last) = choice (values_of vs.items) last.value

abbrev pub node_view : Node → Tree
node_view = fold-Node Tree node_step

abbrev pub nodes_view : List Node → List Tree
nodes_view ns = map node_view ns

abbrev pub operands_view : List (Joint × Node) → List (Joint × Tree)
operands_view ns = map (λ r. (r.0, node_view r.1)) ns

abbrev pub values_view : List (Node × Node) → List (Tree × Tree)
values_view ns = map (λ c. (node_view c.0, node_view c.1)) ns

-- a node that may be missing
abbrev pub node_list : Option Node → List Tree
node_list None = []
node_list (Some n) = node_view n ∷ []
