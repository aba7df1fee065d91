use Rattle.std.proofs.Common.{◌≡◌, true, ap, subst, refl, ◌∙◌, arith}
use Rattle.std.proofs.lemmas.Bool.Decides.{nat_tests}
use Rattle.http_frames.specs.declared.unit.Unit.TheVariants.{ChunkLine, Piece}
use Rattle.conn_trace.specs.SentBodies.{chunk_line}
use Rattle.conn.specs.Forwarding.{LooksAt, ends_room}
use Rattle.conn.specs.Relaying.{moved_as, sent_ends}
use Rattle.conn.proofs.UnitsGo.{line_there, piece_there, there_inside}
use Rattle.conn.proofs.ends.Ends.forward_unit.Goals as goal

pub read-requires : goal.read-requires
read-requires c =
    let at = c.args.place.now in
    let e = c.args.self.now in
    (there_inside c.args.side at e (ChunkLine c.in-ChunkLine.line c.in-ChunkLine.size) (subst (LooksAt c.args.side at.reader e) c.in-ChunkLine.is c.requires)).within

pub returns-in_ok-pass-in-Piece-clause-ok : goal.returns-in_ok-pass-in-Piece-clause-ok
returns-in_ok-pass-in-Piece-clause-ok c =
    let at = c.args.place.now in
    let e = c.args.self.now in
    let size = c.in-Piece.size in
    let n = c.min-n.result in
    let looks = subst (LooksAt c.args.side at.reader e) c.in-Piece.is c.requires in
    let some = (there_inside c.args.side at e (Piece size) looks).some in
    let least = c.min-n.ensures in
    let left = c.room_for-room.ensures in
    let not_none = c.if-room-eq0.false in
    piece_there c.args.side at e size n looks (grind (arith, nat_tests, some, least, not_none)) (grind (arith, nat_tests, least)) (grind (arith, nat_tests, least, left, not_none)) _ c.pass.new.self (ap (λ r. record at { reader = r }) c.go_on-place.ensures) c.in_ok-pass-in-Piece.ensures.moved

pub returns-in_ok-send-in-ChunkLine-clause-ok : goal.returns-in_ok-send-in-ChunkLine-clause-ok
returns-in_ok-send-in-ChunkLine-clause-ok c =
    let at = c.args.place.now in
    let e = c.args.self.now in
    let line = c.in-ChunkLine.line in
    let size = c.in-ChunkLine.size in
    let text = chunk_line at.standing size in
    let looks = subst (LooksAt c.args.side at.reader e) c.in-ChunkLine.is c.requires in
    let left = c.room_for-room.ensures in
    let not_none = c.if-room-eq0.false in
    let room : ends_room c.args.side e ≡ true = grind (arith, nat_tests, left, not_none) in
    let moves : c.send.new.self ≡ moved_as c.args.side line text e =
    c.in_ok-send-in-ChunkLine.ensures.ok ∙ ap (λ b. sent_ends c.args.side b c.read.new.self) (c.as_bytes.ensures ∙ c.in_ok-text-in-ChunkLine.ensures) ∙ ap (sent_ends c.args.side text) c.read.ensures in
    line_there c.args.side at e line size looks room _ c.send.new.self refl moves
