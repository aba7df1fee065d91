use Rattle.std.proofs.Common.{◌≡◌, ◌++◌, length}
use Rattle.std.specs.List.{slice_split}
use Rattle.px_bytes.specs.ByteSet.{has_byte}
use Rattle.tcl_list_commands.proofs.splitting.pieces.Given as goal

abbrev pub invariant-loop-pieces : goal.invariant-loop-pieces
invariant-loop-pieces l = l.pieces ++ slice_split (has_byte l.cuts) l.rest ≡ slice_split (has_byte l.cuts) l.fn.text

abbrev pub decreases-loop-pieces : goal.decreases-loop-pieces
decreases-loop-pieces l = length l.rest
