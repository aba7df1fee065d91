use Rattle.std.proofs.Common.{◌≡◌, ◌+◌, drop, length, nat_le}
use Rattle.px_bytes.specs.Limit.{text_limit}
use Rattle.tcl_list_commands.proofs.Widths.{gapped, widths}
use Rattle.tcl_list_commands.proofs.joining.fits.Given as goal

abbrev pub invariant-loop-piece : goal.invariant-loop-piece
invariant-loop-piece l =
    nat_le (widths (gapped l.between) (drop l.piece-index l.pieces)) l.room ≡ nat_le (widths (gapped l.between) l.pieces) (text_limit + length l.between)
