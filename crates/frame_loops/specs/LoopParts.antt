-- The trees of a loop, as the code has them.
use Rattle.tcl_trees.specs.TreeView.{node_view}
use Rattle.frame_loops.specs.Loops.{Parts}
use Rattle.frame_loops.specs.declared.loops.Loop.{Loop}

abbrev pub parts_view : Loop → Parts
parts_view l = record {
  start = node_view l.start.now;
  test = node_view l.test.now;
  next = node_view l.next.now;
  body = node_view l.body.now;
}
