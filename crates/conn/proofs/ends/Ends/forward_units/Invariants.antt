use Rattle.std.proofs.Common.{◌≡◌}
use Rattle.conn.specs.Forwarding.{Forwards, passage}
use Rattle.conn.proofs.ends.Ends.forward_units.Given as goal

abbrev pub invariant-loop-unit : goal.invariant-loop-unit
invariant-loop-unit l = Forwards l.side (passage l.fn.from l.initial.self) (passage l.place l.self) × (l.self.edges ≡ l.initial.self.edges)
