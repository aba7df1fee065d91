use Rattle.std.proofs.Common.{rules}
use Rattle.test_text.proofs.Numbers.{number_is}
use Rattle.test_text.proofs.line.number_of.Goals as goal

pub returns : goal.returns
returns c = number_is c.args.most c.args.text.now c.read_decimal.result (search rules) c.read_decimal.ensures.found c.read_decimal.ensures.none
