use Rattle.conn.proofs.Settling.{rest_noted}
use Rattle.conn.proofs.connection.Conn.rest.Goals as goal

pub returns-clause-ends : goal.returns-clause-ends
returns-clause-ends c = rest_noted c.args.number c.args.self.now c.half_close.new.self c.half_close-2.new.self c.settle_now.new.self c.half_close.ensures.ends c.half_close-2.ensures.ends c.settle_now.ensures.ends
