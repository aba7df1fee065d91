use Rattle.tcl_expr.proofs.ReadingIsGrammar.{reading_is_grammar}
use Rattle.tcl_expr.proofs.laws.reading_is_grammar.Goals as goal

pub returns : goal.returns
returns c = reading_is_grammar
