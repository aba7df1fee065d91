use Rattle.std.proofs.Common.{◌≡◌, ◌<◌, ◌+◌, ◌^◌, length}
use Rattle.tcl_lists.specs.Element.{place_of}
use Rattle.tcl_lists.specs.Read.{each, elements_from, list_places}
use Rattle.tcl_lists.specs.Seen.{behind}
use Rattle.tcl_lists.proofs.read.places.Given as goal

abbrev pub invariant-loop-places : goal.invariant-loop-places
invariant-loop-places l = record {
  same : behind l.places (each place_of (elements_from 0 l.rest.at l.rest.text.now)) ≡ list_places l.fn.text;
  fits : l.rest.at + length l.rest.text.now < 2 ^ 64;
}

abbrev pub decreases-loop-places : goal.decreases-loop-places
decreases-loop-places l = length l.rest.text.now
