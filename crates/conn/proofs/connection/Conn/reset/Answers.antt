use Rattle.std.proofs.Common.{sym, subst}
use Rattle.conn.specs.Calls.{Resets}
use Rattle.conn.specs.declared.ends.Ends.{Ends}
use Rattle.conn.proofs.Arriving.{resets, with_ends}
use Rattle.conn.proofs.connection.Conn.reset.Goals as goal

pub returns-clause-resets : goal.returns-clause-resets
returns-clause-resets c =
    let old = c.args.self.now in
    let P : Ends → Type 0 = λ e. Resets c.args.side old (with_ends e old) in
    subst P (sym c.reset.ensures) (resets c.args.side old)
