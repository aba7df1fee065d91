use Rattle.std.proofs.Common.{◌∙◌}
use Rattle.conn.proofs.Settling.{drops_reset}
use Rattle.conn.proofs.connection.Conn.dropped.Goals as goal

pub returns-clause-reset : goal.returns-clause-reset
returns-clause-reset c = λ g a l h. c.lost.ensures ∙ drops_reset c.args.self.now g a l h
