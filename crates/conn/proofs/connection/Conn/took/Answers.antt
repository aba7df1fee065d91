use Rattle.std.proofs.Common.{sym, subst}
use Rattle.conn.specs.Calls.{Takes}
use Rattle.conn.specs.declared.ends.Ends.{Ends}
use Rattle.conn.proofs.Arriving.{with_ends}
use Rattle.conn.proofs.Taking.{takes}
use Rattle.conn.proofs.connection.Conn.took.Goals as goal

pub returns-clause-takes : goal.returns-clause-takes
returns-clause-takes c =
    let old = c.args.self.now in
    let P : Ends → Type 0 = λ e. Takes c.args.side c.args.n old (with_ends e old) in
    subst P (sym c.took.ensures) (takes c.args.side c.args.n old c.requires)
