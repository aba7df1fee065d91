use Rattle.std.proofs.Common.{◌≡◌, drop}
use Rattle.tcl_trees.specs.Procedures.{procs_view}
use Rattle.frame_machine.specs.Walks.{spot_above, spot_of}
use Rattle.frame_machine.proofs.place.climb.Given as goal

abbrev pub invariant-loop-frame : goal.invariant-loop-frame
invariant-loop-frame l = spot_above (procs_view l.procs) (spot_of l.place) (drop l.frame-index l.frames)
    ≡ spot_above (procs_view l.procs) (spot_of l.from) l.frames
