use Rattle.std.proofs.Common.{◌≡◌, ◌++◌, map}
use Rattle.std.specs.Map.{keys_of}
use Rattle.session_table.specs.Stored.{names_of, names_under}
use Rattle.session_table.proofs.keys.keys_under.Given as goal

abbrev pub invariant-loop-key : goal.invariant-loop-key
invariant-loop-key l = map names_of l.keys.items ++ names_under l.subtable l.key-iterator ≡ names_under l.subtable (keys_of l.rows)
