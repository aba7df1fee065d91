use Rattle.std.proofs.Common.{◌≡◌, ◌+◌, filter, length}
use Rattle.std.specs.Map.{keys_of}
use Rattle.session_table.proofs.Subtables.{under}
use Rattle.session_table.proofs.keys.count_in.Given as goal

abbrev pub invariant-loop-key : goal.invariant-loop-key
invariant-loop-key l = l.count + length (filter (under l.subtable) l.key-iterator) ≡ length (filter (under l.subtable) (keys_of l.rows))
