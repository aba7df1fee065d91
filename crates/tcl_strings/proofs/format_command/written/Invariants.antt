use Rattle.std.proofs.Common.{◌≡◌, ◌++◌, length}
use Rattle.std.specs.List.{flat_map}
use Rattle.tcl_strings.specs.Field.{fields_left}
use Rattle.tcl_strings.specs.FieldText.{field_text}
use Rattle.tcl_strings.proofs.format_command.written.Given as goal

abbrev pub invariant-loop-next : goal.invariant-loop-next
invariant-loop-next l =
    l.out ++ flat_map field_text (fields_left l.left) ≡ flat_map field_text (fields_left l.fn.rest)

abbrev pub decreases-loop-next : goal.decreases-loop-next
decreases-loop-next l = length l.left.format.now
