use Rattle.std.proofs.Common.{◌≡◌, ◌+◌, drop, map, slice_get}
use Rattle.table_mirror.specs.Told.{number_told, numbers_told}
use Rattle.table_mirror.proofs.told.number_told.Given as goal

abbrev pub invariant-loop-index : goal.invariant-loop-index
invariant-loop-index l =
    slice_get (numbers_told (l.index + 1) (map (λ line. line.now) (drop l.index l.lines))) l.left
    ≡ number_told (map (λ line. line.now) l.lines) l.place
