use Rattle.std.proofs.Common.{◌≡◌, ◌≤◌, drop}
use Rattle.tcl_lists.specs.Write.{fits_braces}
use Rattle.tcl_list_commands.proofs.form.fits_braces.Given as goal

abbrev pub invariant-loop-byte : goal.invariant-loop-byte
invariant-loop-byte l = record {
  same : fits_braces l.depth (drop l.byte-index l.element) ≡ fits_braces 0 l.element;
  small : l.depth ≤ l.byte-index;
}
