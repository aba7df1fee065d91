use Rattle.std.proofs.Common.{Bool, [], true, sym, ap, ◌∙◌, subst}
use Rattle.conn.specs.Calls.{Hears, ended_ends}
use Rattle.conn.specs.declared.ends.Ends.{Ends}
use Rattle.conn.proofs.Arriving.{hears_end, with_ends}
use Rattle.conn.proofs.connection.Conn.end.Goals as goal

pub returns-clause-hears : goal.returns-clause-hears
returns-clause-hears c =
    let old = c.args.self.now in
    let P : Ends → Type 0 = λ e. Hears c.args.side (record { bytes = []; ended = true }) old (with_ends e old) in
    let E : Bool → Ends = λ b. ended_ends b c.args.side old.ends in
    subst P (sym (c.end.ensures ∙ ap E c.has_finished-finished.ensures)) (hears_end c.args.side old)
