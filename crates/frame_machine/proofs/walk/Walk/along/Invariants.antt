use Rattle.tcl_trees.specs.Procedures.{procs_view}
use Rattle.tcl_trees.specs.TreeView.{node_view}
use Rattle.frame_machine.proofs.InWalks.{Along}
use Rattle.frame_machine.proofs.walk.Walk.along.Given as goal

abbrev pub invariant-loop-frame : goal.invariant-loop-frame
invariant-loop-frame l = Along (procs_view l.procs) (node_view l.tree) l.frames l.frame-index l.walk
