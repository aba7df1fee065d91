use Rattle.std.proofs.Common.{◌≡◌, ap, false, ◌&&◌, nat_lt, length, arith}
use Rattle.std.proofs.lemmas.Bool.{and_right}
use Rattle.std.proofs.lemmas.Bool.Decides.{nat_tests}
use Rattle.px_bytes.specs.declared.addr.Side.TheVariants.{Client, Server}
use Rattle.conn_trace.specs.Gates.{room_limit}
use Rattle.conn.specs.Acts.{has_room}
use Rattle.conn.specs.Queues.{queue_in}
use Rattle.conn.proofs.Gating.{gate_rests}
use Rattle.conn.proofs.connection.Conn.pass_gate.Goals as goal
use Rattle.conn.proofs.connection.Conn.pass_gate.Goals.{then-pending-lt-ROOM+else-pending-lt-ROOM-2, else-pending-lt-ROOM}

pub returns-clause-passes : goal.returns-clause-passes
returns-clause-passes c =
    let old = c.args.self.now in
    let shut : has_room old ≡ false = elim c.if-pending-lt-ROOM.branch [
      | then-pending-lt-ROOM+else-pending-lt-ROOM-2 w ↦
          let n = w.pending-then-pending-lt-ROOM.ensures in
          let full : nat_lt (length (queue_in Server old)) room_limit ≡ false = grind (arith, nat_tests, n, w.if-pending-lt-ROOM-2.false) in
          and_right (nat_lt (length (queue_in Client old)) room_limit) (nat_lt (length (queue_in Server old)) room_limit) full
      | else-pending-lt-ROOM w ↦
          let n = c.pending.ensures in
          let full : nat_lt (length (queue_in Client old)) room_limit ≡ false = grind (arith, nat_tests, n, w.if-pending-lt-ROOM.false) in
          ap (λ b. b && nat_lt (length (queue_in Server old)) room_limit) full
    ] in
    gate_rests c.args.setup.now c.args.number c.args.at old c.rest_or_cut.new.self c.args.notes.now.items c.rest_or_cut.new.notes.items c.rest_or_cut.result shut c.rest_or_cut.ensures.rests
