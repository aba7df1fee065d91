use Rattle.std.proofs.Common.{◌≡◌, List, ℕ, Bor, drop, map}
use Rattle.std.specs.Prelude.{max}
use Rattle.tcl_strings.specs.Levels.{longest_length}
use Rattle.tcl_strings.proofs.levels.longest.Given as goal

abbrev pub invariant-loop-key : goal.invariant-loop-key
invariant-loop-key l =
    max l.most (longest_length (map (λ (k : Bor (List ℕ)). k.now) (drop l.key-index l.keys))) ≡ longest_length (map (λ (k : Bor (List ℕ)). k.now) l.keys)
