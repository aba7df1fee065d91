use Rattle.conn.proofs.Wanting.{wants}
use Rattle.conn.proofs.connection.Conn.wants.Goals as goal

pub returns-clause-wanted : goal.returns-clause-wanted
returns-clause-wanted c = wants c.args.side c.args.self.now c.left.result c.left.ensures
