use Rattle.std.proofs.Common.{◌≡◌, false}
use Rattle.conn_trace.specs.Messages.{is_counted}
use Rattle.conn.specs.Forwarding.{ends_room}
use Rattle.conn.proofs.Sending.{end_rests}
use Rattle.conn.proofs.connection.Conn.end_body.Goals as goal

pub returns-then-not-has_room-clause-ok : goal.returns-then-not-has_room-clause-ok
returns-then-not-has_room-clause-ok c =
    let old = c.args.self.now in
    let is : is_counted c.args.place.reader ≡ false = cc (c.is_counted.ensures, c.if-is_counted.false) in
    let full : ends_room c.args.side old.ends ≡ false = cc (c.has_room.ensures, c.if-not-has_room.true) in
    end_rests c.args.setup.now c.args.number c.args.side c.args.place.standing c.args.size old c.rest_or_cut.new.self c.args.notes.now.items c.rest_or_cut.new.notes.items c.rest_or_cut.result (is_counted c.args.place.reader) is full c.rest_or_cut.ensures.rests
