use Rattle.std.proofs.Common.{◌≡◌, ap, false, is_some}
use Rattle.conn.specs.Forwarding.{ends_room}
use Rattle.conn.proofs.Sending.{heading_rests}
use Rattle.conn.proofs.connection.Conn.send_head.Goals as goal

pub returns-then-not-has_room-clause-ok : goal.returns-then-not-has_room-clause-ok
returns-then-not-has_room-clause-ok c =
    let old = c.args.self.now in
    let full : ends_room c.args.side old.ends ≡ false = cc (c.has_room.ensures, c.if-not-has_room.true) in (
      ap is_some c.in-Some.is,
      heading_rests c.args.setup.now c.args.number c.args.side old c.rest_or_cut.new.self c.args.notes.now.items c.rest_or_cut.new.notes.items c.rest_or_cut.result full c.rest_or_cut.ensures.rests,
    )
