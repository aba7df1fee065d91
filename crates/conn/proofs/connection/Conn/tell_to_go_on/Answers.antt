use Rattle.std.proofs.Common.{◌≡◌, false, nat_lt, length, ap, is_some, arith}
use Rattle.std.proofs.lemmas.Bool.Decides.{nat_tests}
use Rattle.px_bytes.specs.declared.addr.Side.TheVariants.{Client}
use Rattle.conn_trace.specs.Gates.{room_limit}
use Rattle.conn.specs.Queues.{queue_in}
use Rattle.conn.proofs.Answering.{tell_rests}
use Rattle.conn.proofs.connection.Conn.tell_to_go_on.Goals as goal

pub returns-then-pending-ge-ROOM-clause-ok : goal.returns-then-pending-ge-ROOM-clause-ok
returns-then-pending-ge-ROOM-clause-ok c =
    let old = c.args.self.now in
    let n = c.pending.ensures in
    let full : nat_lt (length (queue_in Client old)) room_limit ≡ false = grind (arith, nat_tests, n, c.if-pending-ge-ROOM.true) in (
      ap is_some c.in-Some.is,
      tell_rests c.args.setup.now c.args.number old c.rest_or_cut.new.self c.args.notes.now.items c.rest_or_cut.new.notes.items c.rest_or_cut.result full c.rest_or_cut.ensures.rests,
    )
