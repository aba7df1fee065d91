-- What a whole expression costs by itself, as the code has it.
use Rattle.std.specs.Prelude.{ℕ}
use Rattle.tcl_trees.specs.declared.node.Node.{Node}
use Rattle.tcl_trees.specs.declared.node.Node.TheOpen.{Node-F}

abbrev pub alone_in : Node-F Node → ℕ
alone_in (Node-F.Prefixed ops e) = 0
alone_in (Node-F.Row first rest) = 0
alone_in (Node-F.Choice vs last) = 0
alone_in node = 1
