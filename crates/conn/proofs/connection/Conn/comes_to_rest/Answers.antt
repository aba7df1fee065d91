use Rattle.std.proofs.Common.{sym, ◌∙◌}
use Rattle.conn.specs.declared.turn.ConnTurn.TheVariants.{Over}
use Rattle.conn.proofs.Running.{rest_dropped}
use Rattle.conn.proofs.connection.Conn.comes_to_rest.Goals as goal

pub returns-then-rest-clause-dropped : goal.returns-then-rest-clause-dropped
returns-then-rest-clause-dropped c =
    rest_dropped c.args.number c.args.self.now c.rest.new.self c.args.notes.now.items c.rest.new.notes.items Over
    (record { over_is = sym c.if-rest.true ∙ c.rest.ensures.over; noted = c.rest.ensures.noted; told = c.rest.ensures.ends })
