use Rattle.std.proofs.Common.{Bool, sym, ap, ◌∙◌, subst}
use Rattle.conn.specs.Calls.{Connects, connected_ends}
use Rattle.conn.specs.declared.ends.Ends.{Ends}
use Rattle.conn.proofs.Arriving.{with_ends}
use Rattle.conn.proofs.Connecting.{connects}
use Rattle.conn.proofs.connection.Conn.connected.Goals as goal

pub returns-clause-connects : goal.returns-clause-connects
returns-clause-connects c =
    let old = c.args.self.now in
    let P : Ends → Type 0 = λ e. Connects c.args.made old (with_ends e old) in
    let E : Bool → Ends = λ b. connected_ends b c.args.made old.ends in
    subst P (sym (c.connected.ensures ∙ ap E c.has_finished-finished.ensures)) (connects c.args.made old c.requires)
