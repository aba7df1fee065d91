use Rattle.std.proofs.Common.{[], ◌∷◌, take}
use Rattle.std.specs.List.{All}
use Rattle.tcl_strings.specs.Levels.{IsAtDepth, IsOnItsWay}
use Rattle.tcl_strings.proofs.levels.first_level.Given as goal

abbrev pub invariant-loop-key : goal.invariant-loop-key
invariant-loop-key l =
    All (IsAtDepth ([] ∷ []) 0) l.level.items
    × All (λ key. IsOnItsWay ([] ∷ []) l.level.items key.now) (take l.key-index l.keys)
