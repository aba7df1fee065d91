use Rattle.std.proofs.Common.{◌≤◌, ◌-◌, ◌∷◌, length}
use Rattle.std.specs.Prelude.{reverse}
use Rattle.tcl_words.proofs.Depths.{DeepTo}
use Rattle.tcl_words.proofs.deep.deep_end.Given as goal

abbrev pub invariant-loop-at : goal.invariant-loop-at
invariant-loop-at l = record {
  so_far : DeepTo l.text l.fn.first l.start (l.inside ∷ reverse l.outer.items) l.at;
  within : l.at ≤ length l.text;
  onward : l.start ≤ l.at;
}

abbrev pub decreases-loop-at : goal.decreases-loop-at
decreases-loop-at l = length l.text - l.at
