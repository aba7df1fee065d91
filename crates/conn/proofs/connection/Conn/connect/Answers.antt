use Rattle.std.proofs.Common.{◌≤◌, length, arith}
use Rattle.std.proofs.lemmas.Bool.Decides.{nat_tests}
use Rattle.px_bytes.specs.declared.addr.Side.TheVariants.{Server}
use Rattle.conn.specs.Queues.{queue_in}
use Rattle.conn.proofs.Gating.{connect_rests, some_waits}
use Rattle.conn.proofs.connection.Conn.connect.Goals as goal

pub returns-then-pending-gt0-clause-ok : goal.returns-then-pending-gt0-clause-ok
returns-then-pending-gt0-clause-ok c =
    let old = c.args.self.now in
    let n = c.pending.ensures in
    let some : 1 ≤ length (queue_in Server old) = grind (arith, nat_tests, n, c.if-pending-gt0.true) in
    connect_rests c.args.setup.now c.args.number c.args.to old c.rest_or_cut.new.self c.args.notes.now.items c.rest_or_cut.new.notes.items c.rest_or_cut.result (some_waits (queue_in Server old) some) c.rest_or_cut.ensures.rests
