use Rattle.std.proofs.Common.{◌≡◌, drop, map}
use Rattle.config.specs.Keys.{key_view}
use Rattle.config.specs.Tables.{is_known}
use Rattle.config.proofs.table.is_known.Given as goal

abbrev pub invariant-loop-key : goal.invariant-loop-key
invariant-loop-key l = is_known (map key_view l.keys) l.name ≡ is_known (map key_view (drop l.key-index l.keys)) l.name
