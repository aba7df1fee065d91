use Rattle.conn.proofs.Settling.{settles, settles_notes}
use Rattle.conn.proofs.connection.Conn.settle.Goals as goal

pub returns-clause-settles : goal.returns-clause-settles
returns-clause-settles c = settles c.args.self.now c.settle_now.result c.settle_now.ensures.over

pub returns-clause-told : goal.returns-clause-told
returns-clause-told c = settles_notes c.args.number c.args.self.now
