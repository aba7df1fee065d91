use Rattle.std.proofs.Common.{map, refl, ap}
use Rattle.tcl_words.specs.View.{word_view}
use Rattle.test_text.proofs.Lines.{line_is}
use Rattle.test_text.proofs.line.Line.of.Goals as goal

pub returns : goal.returns
returns c = line_is c.args.command.now (map word_view c.as_slice.result.now) (ap (map word_view) c.as_slice.ensures.value) _ refl refl
