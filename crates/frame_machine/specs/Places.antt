-- What the frames say of the node above them.
use Rattle.std.specs.Prelude.{List, [], ◌∷◌, Bool}
use Rattle.tcl_trees.specs.Tree.{Tree}
use Rattle.frames.specs.Children.{node_at, part_at}
use Rattle.frames.specs.Frames.{places, wants}
use Rattle.frames.specs.declared.frame.Frame.{Frame}
use Rattle.frames.specs.declared.frame.Frame.TheVariants as frame

-- whether its value is heard
abbrev pub wants_above : Bool → List Frame → Bool
wants_above w [] = w
wants_above w (f ∷ fs) = wants_above (wants f) fs

-- the child that a frame tells by its place; where it tells another, the tree itself
abbrev pub inner_tree : Tree → Frame → Tree
inner_tree t (frame.Words word part done text) = part_at (node_at t (word ∷ [])) part
inner_tree t f = node_at t (places f)
