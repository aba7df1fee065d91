use Rattle.std.proofs.Common.{◌≡◌, ◌+◌, ◌++◌, drop, length, take}
use Rattle.frames.specs.Frames.{path_of}
use Rattle.frames.proofs.stops.fill.Given as goal

abbrev pub invariant-loop-frame : goal.invariant-loop-frame
invariant-loop-frame l = record {
  filled : take l.filled l.out ++ path_of (drop l.frame-index l.frames) ≡ path_of l.frames;
  count : l.filled + length (path_of (drop l.frame-index l.frames)) ≡ length l.out;
}
