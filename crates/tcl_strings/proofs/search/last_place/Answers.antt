use Rattle.std.proofs.Common.{arith}
use Rattle.std.proofs.lemmas.Bool.Decides.{nat_tests}
use Rattle.tcl_strings.proofs.Searches.{finds_last, empty_last}
use Rattle.tcl_strings.proofs.search.last_place.Goals as goal

pub returns-then-is_empty : goal.returns-then-is_empty
returns-then-is_empty c = empty_last c.args.piece.now c.args.text.now (grind (arith, nat_tests))

pub returns : goal.returns
returns c = finds_last c.args.text.now c.args.piece.now (grind (arith, nat_tests)) _ c.rfind.ensures
