use Rattle.std.proofs.Common.{◌≡◌, ◌≤◌, ℕ, List, ◌++◌, Option, drop}
use Rattle.px_outside.specs.Outside.{told_more}
use Rattle.proxy.specs.Replay.{conns_text}
use Rattle.proxy.specs.Written.{WritesFrontOf}
use Rattle.proxy.proofs.replay.Replay.finish.Given as goal

abbrev pub invariant-loop-taken : goal.invariant-loop-taken
invariant-loop-taken g l = record {
  whole : told_more (g.K.Sink.written l.fn.out) (conns_text l.self.core l.self.taken.items ++ l.last)
      ≡ told_more (g.K.Sink.written l.out) (conns_text l.self.core (drop l.taken-index l.self.taken.items) ++ l.last);
  front : (new : Option (List ℕ)) →
      WritesFrontOf (conns_text l.self.core (drop l.taken-index l.self.taken.items) ++ l.last) (g.K.Sink.written l.out) new →
      WritesFrontOf (conns_text l.self.core l.self.taken.items ++ l.last) (g.K.Sink.written l.fn.out) new;
  faults : g.K.Sink.faults l.fn.out ≤ g.K.Sink.faults l.out;
}
