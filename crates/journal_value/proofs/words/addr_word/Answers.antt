use Rattle.std.proofs.Common.{arith}
use Rattle.journal_value.proofs.Leaves.{addr_exact}
use Rattle.journal_value.proofs.words.addr_word.Goals as goal

pub returns-in-Some : goal.returns-in-Some
returns-in-Some c = addr_exact c.args.word.now c.in-Some.addr c.in-Some.ensures.found.0 (omega arith) (omega arith)
