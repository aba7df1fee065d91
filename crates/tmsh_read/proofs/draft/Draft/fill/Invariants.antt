use Rattle.std.proofs.Common.{◌≡◌, ℕ, ◌-◌, ◌≤◌, length, drop, Result}
use Rattle.tmsh_read.specs.Reading.{Reads}
use Rattle.tmsh_read.specs.Sketch.{Sketch, sketch}
use Rattle.tmsh_read.specs.declared.gap.Gap.TheVariants.{LineStart}
use Rattle.tmsh_read.proofs.draft.Draft.fill.Given as goal

abbrev pub invariant-tokens : goal.invariant-tokens
invariant-tokens l = record {
  within : l.at ≤ length l.text;
  joins : (r : Result Sketch ℕ) → Reads l.gap (sketch l.self) l.at (drop l.at l.text) r → Reads LineStart (sketch l.initial.self) 0 l.text r;
}

abbrev pub decreases-tokens : goal.decreases-tokens
decreases-tokens l = length l.text - l.at
