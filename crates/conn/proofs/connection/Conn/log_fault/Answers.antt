use Rattle.std.proofs.Common.{subst}
use Rattle.conn.specs.Acted.{LogsAt}
use Rattle.conn.specs.declared.stage.Stage.{Stage}
use Rattle.conn.proofs.Changing.{behind_fault}
use Rattle.conn.proofs.connection.Conn.log_fault.Goals as goal

pub returns-in-Failing-clause-logs : goal.returns-in-Failing-clause-logs
returns-in-Failing-clause-logs c =
    let old = c.args.self.now in
    let s = c.args.setup.now in
    let P : Stage → Type 0 = λ st. LogsAt st s c.args.number old c.behind_fault.new.self c.args.notes.now.items c.push_reserved.new.self.items in
    subst P c.in-Failing.ensures.value (behind_fault s c.replace.new.dest old c.behind_fault.new.self c.in-Failing.at c.in-Failing.next c.in-Failing.kind c.behind_fault.ensures, c.push_reserved.ensures.items)
