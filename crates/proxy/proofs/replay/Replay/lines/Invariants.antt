use Rattle.std.proofs.Common.{◌≤◌, ◌-◌, ℕ, List, [], Option, length, take}
use Rattle.run_config.specs.declared.config.Config.{Config}
use Rattle.proxy.specs.Written.{Stands}
use Rattle.proxy.proofs.replay.Replay.lines.Given as goal

abbrev pub invariant-loop-at : goal.invariant-loop-at
invariant-loop-at g l = record {
  stands : (C : Config) (told : Option (List ℕ)) →
      Stands C [] 0 l.fn.self.core l.fn.self.taken.items l.fn.self.events told (g.K.Sink.written l.fn.out) →
      Stands C (take l.at l.schedule) l.line l.self.core l.self.taken.items l.self.events told (g.K.Sink.written l.out);
  events : l.self.events ≤ l.at;
  line : l.line ≤ l.at;
  within : l.at ≤ length l.schedule;
  faults : g.K.Sink.faults l.fn.out ≤ g.K.Sink.faults l.out;
}

abbrev pub decreases-loop-at : goal.decreases-loop-at
decreases-loop-at g l = length l.schedule - l.at
