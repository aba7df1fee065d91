-- The nodes on which a body stands, from its root on.
use Rattle.std.specs.Prelude.{◌≡◌, ◌-◌, ◌≤◌, List, [], ◌∷◌, ◌++◌}
use Rattle.std.specs.Prelude.{length, take, drop, Bool, true, false, Option}
use Rattle.tcl_trees.specs.Procedures.{Procedure}
use Rattle.tcl_trees.specs.Tree.{Tree}
use Rattle.tcl_trees.specs.TreeView.{node_view}
use Rattle.frames.specs.Frames.{full_room, inside, room_in, wants}
use Rattle.frames.specs.Moves.{list_of}
use Rattle.frames.specs.declared.frame.Frame.{Frame}
use Rattle.frames.specs.declared.frame.Mode.{Mode}
use Rattle.frames.specs.declared.frame.Mode.TheVariants as mode
use Rattle.frames.specs.declared.frame.Room.{Room}
use Rattle.frame_machine.specs.declared.place.Place.{Place}
use Rattle.frame_machine.specs.declared.place.Waypoint.{Waypoint}
use Rattle.frame_machine.specs.declared.walk.Walk.{Walk}

-- a node with what its frames say of it
pub record Spot : Type 0 where
  pub tree : Tree
  pub room : Room
  pub wanted : Bool

abbrev pub spot_of : Place → Spot
spot_of p = record { tree = node_view p.node.now; room = p.room; wanted = p.wanted }

abbrev pub root_spot : Tree → Spot
root_spot t = record { tree = t; room = full_room; wanted = true }

-- the child that a frame tells
abbrev pub spot_in : List Procedure → Spot → Frame → Spot
spot_in procedures s f =
    record { tree = inside procedures s.tree f; room = room_in s.room f; wanted = wants f }

-- the one above all frames
abbrev pub spot_above : List Procedure → Spot → List Frame → Spot
spot_above procedures s [] = s
spot_above procedures s (f ∷ fs) = spot_above procedures (spot_in procedures s f) fs

-- These places, and behind them this one, are the first on the way along the frames.
abbrev pub Leads : List Procedure → Spot → List Frame → List Place → Place → Type 0
Leads procedures s fs [] top = spot_of top ≡ s
Leads procedures s [] (p ∷ ps) top = ⊥
Leads procedures s (f ∷ fs) (p ∷ ps) top =
    (spot_of p ≡ s) × Leads procedures (spot_in procedures s f) fs ps top

-- a walk has the first of a body's nodes, the root at least
abbrev pub Follows : List Procedure → Tree → List Frame → Walk → Type 0
Follows procedures t fs w = Leads procedures (root_spot t) fs w.below.items w.top

-- the frames that stay in a move: a code that comes takes the last away
abbrev pub staying : Mode → List Frame → List Frame
staying (mode.Back code) fs = take (length fs - 1) fs
staying m fs = fs

-- a move adds one at most
abbrev pub Grown : List Frame → List Frame → Type 0
Grown fs fs' = (o : Option Frame) × (fs' ≡ fs ++ list_of o)

-- the child that a frame tells is on the walk too, or nothing changed
abbrev pub Enters : List Procedure → Frame → Walk → Bool → Walk → Type 0
Enters procedures f old true new =
    (new.below.items ≡ old.below.items ++ old.top ∷ [])
    × (spot_of new.top ≡ spot_in procedures (spot_of old.top) f)
Enters procedures f old false new = new ≡ old

-- from a waypoint on the rest of the frames leads to the node above all of them
pub record OnTheWay (procedures : List Procedure) (t : Tree) (fs : List Frame) (from : Waypoint)
    : Type 0 where
  pub short : from.passed ≤ length fs
  pub same : spot_above procedures (spot_of from.place) (drop from.passed fs)
      ≡ spot_above procedures (root_spot t) fs
