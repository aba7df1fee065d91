use Rattle.std.proofs.Common.{arith}
use Rattle.std.proofs.lemmas.Bool.Decides.{nat_tests}
use Rattle.tcl_strings.proofs.Searches.{finds_first, empty_first, place_fits}
use Rattle.tcl_strings.proofs.search.first_place.Goals as goal

pub returns-then-is_empty : goal.returns-then-is_empty
returns-then-is_empty c = record {
  value = empty_first c.args.piece.now c.args.text.now (grind (arith, nat_tests));
  within = tt;
}

pub returns : goal.returns
returns c = record {
  value = finds_first c.args.text.now c.args.piece.now (grind (arith, nat_tests)) _ c.find.ensures;
  within = place_fits c.args.text.now c.args.piece.now c.find.result c.find.ensures;
}
