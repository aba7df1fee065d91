use Rattle.journal_value.proofs.Leaves.{number_exact}
use Rattle.journal_value.proofs.words.number_word.Goals as goal

pub returns : goal.returns
returns c = number_exact c.args.word.now c.read_decimal.result c.read_decimal.ensures.found c.read_decimal.ensures.none
