use Rattle.conn.proofs.Outside.{not_running}
use Rattle.conn.proofs.connection.Conn.advance.Goals as goal

pub act-requires-clause-outside : goal.act-requires-clause-outside
act-requires-clause-outside g c = not_running c.args.self.now.stage c.in_default.not-Running
