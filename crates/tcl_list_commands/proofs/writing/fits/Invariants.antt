use Rattle.std.proofs.Common.{◌≡◌, ◌+◌, drop, nat_le}
use Rattle.px_bytes.specs.Limit.{text_limit}
use Rattle.tcl_list_commands.proofs.Widths.{width, widths}
use Rattle.tcl_list_commands.proofs.writing.fits.Given as goal

abbrev pub invariant-loop-element : goal.invariant-loop-element
invariant-loop-element l = nat_le (widths width (drop l.element-index l.elements)) l.room ≡ nat_le (widths width l.elements) (text_limit + 1)
