-- The children of a node of the code.
use Rattle.std.specs.Prelude.{List, [], ◌∷◌, ◌++◌, map, Bool, true, false}
use Rattle.tcl_trees.specs.declared.node.Node.{Node}
use Rattle.tcl_trees.specs.declared.node.Node.TheOpen.{Node-F}

abbrev pub both_nodes : List (Node × Node) → List Node
both_nodes [] = []
both_nodes (v ∷ vs) = v.0 ∷ v.1 ∷ both_nodes vs

abbrev pub children_in : Node-F Node → List Node
children_in (Node-F.Plain text) = []
children_in (Node-F.Variable name) = []
children_in (Node-F.Element name nodes) = nodes.items
children_in (Node-F.Word nodes) = nodes.items
children_in (Node-F.Script nodes) = nodes.items
children_in (Node-F.Command verb nodes) = nodes.items
children_in (Node-F.Expr e) = e.value ∷ []
children_in (Node-F.If vs last) = both_nodes vs.items ++ last.value ∷ []
children_in (Node-F.Loop start test next body) =
    start.value ∷ test.value ∷ next.value ∷ body.value ∷ []
children_in (Node-F.Foreach words body) = words.items ++ body.value ∷ []
children_in (Node-F.Switch front words bodies) = words.items ++ bodies.items
children_in (Node-F.Catch body) = body.value ∷ []
children_in (Node-F.CatchIn body name) = body.value ∷ name.value ∷ []
children_in Node-F.NextBody = []
children_in (Node-F.Prefixed ops e) = e.value ∷ []
children_in (Node-F.Row first rest) = first.value ∷ map (λ o. o.1) rest.items
children_in (Node-F.Choice vs last) = both_nodes vs.items ++ last.value ∷ []

abbrev pub commands_in : Node-F Node → List Node
commands_in (Node-F.Script nodes) = nodes.items
commands_in other = []

abbrev pub pieces_in : Node-F Node → List Node
pieces_in (Node-F.Word nodes) = nodes.items
pieces_in (Node-F.Element name nodes) = nodes.items
pieces_in other = []

abbrev pub words_in : Node-F Node → List Node
words_in (Node-F.Command verb nodes) = nodes.items
words_in (Node-F.Foreach words body) = words.items
words_in (Node-F.Switch front words bodies) = words.items
words_in other = []

abbrev pub is_script_in : Node-F Node → Bool
is_script_in (Node-F.Script ts) = true
is_script_in node = false
