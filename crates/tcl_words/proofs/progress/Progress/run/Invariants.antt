use Rattle.std.proofs.Common.{◌≡◌, ◌≤◌, ◌-◌, length}
use Rattle.tcl_words.proofs.Runs.{RunTo}
use Rattle.tcl_words.proofs.progress.Progress.run.Given as goal

abbrev pub invariant-loop-closer : goal.invariant-loop-closer
invariant-loop-closer l = record {
  so_far : RunTo l.closer l.text l.fn.self l.bytes.items l.self;
  within : l.self.at ≤ length l.text;
  onward : l.fn.self.at ≤ l.self.at;
  moves : l.self.at ≡ l.fn.self.at → l.self ≡ l.fn.self;
}

abbrev pub decreases-loop-closer : goal.decreases-loop-closer
decreases-loop-closer l = length l.text - l.self.at
