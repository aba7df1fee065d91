use Rattle.std.proofs.Common.{◌≡◌, drop, map}
use Rattle.session_table.specs.Stored.{names_of, removed}
use Rattle.session_table.proofs.keys.remove_all.Given as goal

abbrev pub invariant-loop-key : goal.invariant-loop-key
invariant-loop-key l = removed (map names_of (drop l.key-index l.keys)) l.rows ≡ removed (map names_of l.keys) l.fn.rows
