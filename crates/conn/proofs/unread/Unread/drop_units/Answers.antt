use Rattle.std.proofs.Common.{◌≡◌, ◌≤◌, length, drop, sym, subst}
use Rattle.http_frames.specs.NextUnit.{unit_of}
use Rattle.http_frames.specs.States.{after_unit}
use Rattle.http_frames.specs.declared.state.BodyState.TheVariants.{Chunk}
use Rattle.http_frames.specs.declared.unit.Unit.TheVariants.{Piece, ChunkLine}
use Rattle.conn.specs.Dropping.{DropsSome}
use Rattle.conn.proofs.Dropping.{some_line, some_piece, unit_inside}
use Rattle.conn.proofs.unread.Unread.drop_units.Goals as goal
use Rattle.conn.proofs.unread.Unread.drop_units.Goals.{in-Piece, in-ChunkLine}

pub drop_front-requires-in-ChunkLine : goal.drop_front-requires-in-ChunkLine
drop_front-requires-in-ChunkLine c =
    let line = c.in-ChunkLine.line in
    let rest = c.loop-unit.self in
    let is : ChunkLine line c.in-ChunkLine.size ≡ unit_of c.loop-unit.reader rest c.args.ended = cc (c.in-ChunkLine.is, c.unit-unit.ensures.value) in
    let inside = unit_inside c.args.from c.loop-unit.reader c.args.self.now c.args.ended rest c.loop-unit.invariant (ChunkLine line c.in-ChunkLine.size) is in
    subst (λ u. line ≤ length u) (sym c.unit-unit.ensures.same) inside.within

pub loop-unit-preserved : goal.loop-unit-preserved
loop-unit-preserved c =
    let d = c.loop-unit.invariant in
    let rest = c.loop-unit.self in
    let old = c.args.self.now in
    elim c.match-unit.branch [
      | in-Piece w ↦
          let n = w.in-Piece.size in
          let reader : c.match-unit.reader ≡ after_unit c.loop-unit.reader (Piece n) = cc (w.reader-is, w.go_on-reader.ensures) in
          let left : c.match-unit.self ≡ drop n rest = cc (w.self-is, w.drop_front.ensures, c.unit-unit.ensures.same) in
          let is : Piece n ≡ unit_of c.loop-unit.reader rest c.args.ended = cc (w.in-Piece.is, c.unit-unit.ensures.value) in
          subst (λ r. DropsSome c.args.from old c.args.ended r c.match-unit.self) (sym reader)
          (subst (λ t. DropsSome c.args.from old c.args.ended (after_unit c.loop-unit.reader (Piece n)) t) (sym left)
          (some_piece c.args.from c.loop-unit.reader old c.args.ended rest d n is))
      | in-ChunkLine w ↦
          let line = w.in-ChunkLine.line in
          let size = w.in-ChunkLine.size in
          let left : c.match-unit.self ≡ drop line rest = cc (w.self-is, w.drop_front-in-ChunkLine.ensures, c.unit-unit.ensures.same) in
          let is : ChunkLine line size ≡ unit_of c.loop-unit.reader rest c.args.ended = cc (w.in-ChunkLine.is, c.unit-unit.ensures.value) in
          subst (λ r. DropsSome c.args.from old c.args.ended r c.match-unit.self) (sym w.reader-is)
          (subst (λ t. DropsSome c.args.from old c.args.ended (Chunk size) t) (sym left)
          (some_line c.args.from c.loop-unit.reader old c.args.ended rest d line size is))
    ]
