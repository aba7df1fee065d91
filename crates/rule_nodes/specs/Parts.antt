-- The parts of a word (Tcl 8.4, Tcl(n)).
use Rattle.std.specs.Prelude.{List, [], ◌∷◌}
use Rattle.tcl_trees.specs.declared.node.Node.{Node}
use Rattle.tcl_trees.specs.declared.node.Node.TheOpen.{Node-F}

abbrev pub or_alone : List Node → Node → List Node
or_alone [] node = node ∷ []
or_alone (part ∷ parts) node = part ∷ parts

-- those of a word that has any; else the tree is its own only part
abbrev pub parts_in : Node-F Node → Node → List Node
parts_in (Node-F.Word parts) node = or_alone parts.items node
parts_in other node = node ∷ []
