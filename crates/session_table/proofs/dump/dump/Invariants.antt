use Rattle.session_table.proofs.Dumps.{Dumped}
use Rattle.session_table.proofs.dump.dump.Given as goal

abbrev pub invariant-loop-key : goal.invariant-loop-key
invariant-loop-key l = Dumped l.rows l.text l.key-iterator
