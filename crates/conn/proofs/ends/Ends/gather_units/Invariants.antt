use Rattle.std.proofs.Common.{◌≡◌}
use Rattle.conn.specs.Gathering.{Gathers, gathered}
use Rattle.conn.proofs.ends.Ends.gather_units.Given as goal

abbrev pub invariant-loop-unit : goal.invariant-loop-unit
invariant-loop-unit l = Gathers l.side (gathered l.fn.from l.initial.http l.initial.self) (gathered l.place l.http l.self) × (l.self.edges ≡ l.initial.self.edges)
