use Rattle.conn.specs.Dropping.{DropsSome}
use Rattle.conn.proofs.unread.Unread.drop_units.Given as goal

abbrev pub invariant-loop-unit : goal.invariant-loop-unit
invariant-loop-unit l = DropsSome l.fn.from l.initial.self l.ended l.reader l.self
