use Rattle.std.proofs.Common.{◌≡◌, ◌+◌, drop, length}
use Rattle.tcl_trees.specs.TreeView.{nodes_view}
use Rattle.frames.specs.Reads.{known_by}
use Rattle.frame_loops.specs.Switches.{first_within}
use Rattle.frame_loops.proofs.switches.first_body.Given as goal

abbrev pub invariant-loop-at : goal.invariant-loop-at
invariant-loop-at l =
    first_within (known_by l.reads) (length l.before + l.at) (drop l.at (nodes_view l.bodies)) l.wanted
    ≡ first_within (known_by l.reads) (length l.before + l.from) (drop l.from (nodes_view l.bodies)) l.wanted
