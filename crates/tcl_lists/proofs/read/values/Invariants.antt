use Rattle.std.proofs.Common.{◌≡◌, ◌<◌, ◌+◌, ◌^◌, length}
use Rattle.tcl_lists.specs.Element.{value_of}
use Rattle.tcl_lists.specs.Read.{each, elements_from, list_values}
use Rattle.tcl_lists.specs.Seen.{behind}
use Rattle.tcl_lists.proofs.read.values.Given as goal

abbrev pub invariant-loop-texts : goal.invariant-loop-texts
invariant-loop-texts l = record {
  same : behind l.texts (each value_of (elements_from 0 l.rest.at l.rest.text.now)) ≡ list_values l.fn.text;
  fits : l.rest.at + length l.rest.text.now < 2 ^ 64;
}

abbrev pub decreases-loop-texts : goal.decreases-loop-texts
decreases-loop-texts l = length l.rest.text.now
