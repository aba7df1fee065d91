use Rattle.std.proofs.Common.{◌≡◌, ◌+◌, ◌*◌, ◌≤◌, drop, length}
use Rattle.frames.specs.Frames.{path_of}
use Rattle.frames.proofs.stops.depth.Given as goal

abbrev pub invariant-loop-frame : goal.invariant-loop-frame
invariant-loop-frame l = record {
  count : l.depth + length (path_of (drop l.frame-index l.frames)) ≡ length (path_of l.frames);
  few : l.depth ≤ 2 * l.frame-index;
}
