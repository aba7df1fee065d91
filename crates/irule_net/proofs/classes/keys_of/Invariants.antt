use Rattle.std.proofs.Common.{◌≡◌, map, take}
use Rattle.irule_net.proofs.classes.keys_of.Given as goal

abbrev pub invariant-loop-row : goal.invariant-loop-row
invariant-loop-row l = l.keys ≡ map (λ row. row.0) (take l.row-index l.rows)
