use Rattle.std.proofs.Common.{◌≡◌, ◌++◌, drop}
use Rattle.std.specs.List.{flat_map}
use Rattle.tcl_list_commands.specs.Joining.{run_together}
use Rattle.tcl_list_commands.proofs.joining.run_together.Given as goal

abbrev pub invariant-loop-piece : goal.invariant-loop-piece
invariant-loop-piece l = l.text ++ flat_map (λ y. l.between ++ y) (drop l.piece-index l.rest) ≡ run_together l.between l.fn.pieces
