-- The body that a `switch` chooses (switch(n)): `-` means the next one.
use Rattle.std.specs.Prelude.{List, [], ◌∷◌, Bool, true, false, Option, Some, None, if◌then◌else◌}
use Rattle.tcl_trees.specs.declared.node.Node.{Node, out-Node}
use Rattle.tcl_trees.specs.declared.node.Node.TheOpen.{Node-F}

abbrev pub is_next_in : Node-F Node → Bool
is_next_in Node-F.NextBody = true
is_next_in node = false

-- the first body from here on
abbrev pub first_body_of : List Node → Option Node
first_body_of [] = None
first_body_of (b ∷ bs) = if is_next_in (out-Node b) then first_body_of bs else Some b
