use Rattle.std.proofs.Common.{◌≡◌}
use Rattle.conn.specs.Forwarding.{Interims}
use Rattle.conn.proofs.ends.Ends.pass_interims.Given as goal

abbrev pub invariant-loop-head : goal.invariant-loop-head
invariant-loop-head l = Interims l.came l.initial.self l.self × (l.self.edges ≡ l.initial.self.edges)
