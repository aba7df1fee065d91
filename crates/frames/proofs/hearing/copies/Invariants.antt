use Rattle.std.proofs.Common.{◌≡◌, ◌++◌, drop, map}
use Rattle.frames.proofs.hearing.copies.Given as goal

abbrev pub invariant-loop-text : goal.invariant-loop-text
invariant-loop-text l = l.all ++ map (λ t. t) (drop l.text-index l.texts) ≡ map (λ t. t) l.texts
