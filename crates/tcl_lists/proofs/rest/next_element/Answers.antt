use Rattle.std.proofs.Common.{◌<◌, ◌+◌, ◌∙◌, sym, length, arith, length-drop}
use Rattle.std.proofs.lemmas.Bool.Decides.{nat_tests}
use Rattle.std.proofs.lemmas.List.{take_rest}
use Rattle.tcl_lists.proofs.Steps.{next_is}
use Rattle.tcl_lists.specs.Seen.{seen_found}
use Rattle.tcl_lists.proofs.rest.next_element.Goals as goal

pub returns : goal.returns
returns c =
    let text = c.without_white-at.result.text.now in
    let some : 0 < length text = grind (arith, nat_tests) in
    let gives = c.in_ok-found.ensures in
    record {
      first = sym c.without_white-at.ensures.same ∙ next_is text c.without_white-at.result.at (seen_found c.in_ok-found.found) some (c.without_white-at.ensures.begins some) gives.0;
      size = rw (take_rest text _) (omega (arith, length-drop (c.in_ok-found.found.more + 1) text, c.without_white-at.ensures.size, gives.1.more));
      shorter = rw (take_rest text _) (omega (arith, length-drop (c.in_ok-found.found.more + 1) text, c.without_white-at.ensures.within, gives.1.more));
      end = omega (arith, c.without_white-at.ensures.size, gives.1.end);
    }
