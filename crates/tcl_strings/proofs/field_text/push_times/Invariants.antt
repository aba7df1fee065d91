use Rattle.std.proofs.Common.{◌≡◌, ◌++◌, replicate}
use Rattle.tcl_strings.proofs.field_text.push_times.Given as goal

abbrev pub invariant-loop : goal.invariant-loop
invariant-loop l = l.out ≡ l.fn.out ++ replicate l.counter l.byte
