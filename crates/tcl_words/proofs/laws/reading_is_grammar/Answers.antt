use Rattle.tcl_words.proofs.Joined.{read_is_spelled, spelled_is_read}
use Rattle.tcl_words.proofs.laws.reading_is_grammar.Goals as goal

pub returns : goal.returns
returns c = λ text tree. (read_is_spelled text tree, spelled_is_read text tree)
