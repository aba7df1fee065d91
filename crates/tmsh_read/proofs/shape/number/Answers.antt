use Rattle.tmsh_read.proofs.Numbers.{number_is}
use Rattle.tmsh_read.proofs.shape.number.Goals as goal

pub returns-clause-number : goal.returns-clause-number
returns-clause-number c = number_is c.args.word.now c.read_decimal.result c.read_decimal.ensures.found c.read_decimal.ensures.none
