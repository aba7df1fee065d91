use Rattle.std.proofs.Common.{◌≤◌, ◌-◌, length}
use Rattle.tcl_words.proofs.Runs.{BracesTo}
use Rattle.tcl_words.proofs.progress.Progress.braces.Given as goal

abbrev pub invariant-loop-next : goal.invariant-loop-next
invariant-loop-next l = record {
  so_far : BracesTo l.room l.text l.fn.self l.bytes.items l.inner l.self;
  within : l.self.at ≤ length l.text;
  few : l.inner ≤ l.self.at;
  onward : l.fn.self.at ≤ l.self.at;
}

abbrev pub decreases-loop-next : goal.decreases-loop-next
decreases-loop-next l = length l.text - l.self.at
