use Rattle.std.proofs.Common.{◌≡◌, drop}
use Rattle.std.specs.List.{list_any}
use Rattle.tcl_lists.specs.Write.{is_special}
use Rattle.tcl_lists.proofs.form.has_special.Given as goal

abbrev pub invariant-loop-byte : goal.invariant-loop-byte
invariant-loop-byte l = list_any is_special (drop l.byte-index l.element) ≡ list_any is_special l.element
