use Rattle.std.proofs.Common.{◌≡◌, IfOk, refl, sym, subst, arith}
use Rattle.std.proofs.lemmas.Bool.Decides.{nat_tests}
use Rattle.http_frames.specs.declared.unit.Unit.TheVariants.{ChunkLine, Piece}
use Rattle.conn.specs.Forwarding.{LooksAt}
use Rattle.conn.specs.Gathering.{TakesPiece, UnitGathered, gathered, goes_on}
use Rattle.conn.proofs.Dropped.{if_ok}
use Rattle.conn.proofs.GatherUnits.{line_goes, piece_goes, stops_there, there_inside}
use Rattle.conn.proofs.ends.Ends.gather_unit.Goals as goal

pub gather_piece-requires-clause-there : goal.gather_piece-requires-clause-there
gather_piece-requires-clause-there c =
    let at = c.args.place.now in
    let e = c.args.self.now in
    let size = c.in-Piece.size in
    let looks = subst (LooksAt c.args.side at.reader e) c.in-Piece.is c.requires in
    let within = (there_inside c.args.side at c.args.http.now e (Piece size) looks).within in
    let least = c.min-n.ensures in
    grind (arith, nat_tests, within, least)

pub read-requires : goal.read-requires
read-requires c =
    let at = c.args.place.now in
    let e = c.args.self.now in
    (there_inside c.args.side at c.args.http.now e (ChunkLine c.in-ChunkLine.line c.in-ChunkLine.size) (subst (LooksAt c.args.side at.reader e) c.in-ChunkLine.is c.requires)).within

pub returns-else-n-eq0-clause-ok : goal.returns-else-n-eq0-clause-ok
returns-else-n-eq0-clause-ok c =
    let side = c.args.side in
    let at = c.args.place.now in
    let http = c.args.http.now in
    let e = c.args.self.now in
    let size = c.in-Piece.size in
    let n = c.min-n.result in
    let looks = subst (LooksAt side at.reader e) c.in-Piece.is c.requires in
    let least = c.min-n.ensures in
    let not_none = c.if-n-eq0.false in
    let to = c.gather_piece.new.place in
    let known = c.gather_piece.new.http in
    let f = c.gather_piece.new.self in
    let p = gathered at http e in
    let q = gathered to known f in
    subst (λ u. IfOk c.gather_piece.result (λ goes. UnitGathered goes side u p q)) (sym c.in-Piece.is)
    (if_ok c.gather_piece.result (λ goes. (goes ≡ goes_on to) × TakesPiece side n at http e to known f) (λ goes. UnitGathered goes side (Piece size) p q)
    (λ goes k. piece_goes side at http e size n looks (grind (arith, nat_tests, not_none)) (grind (arith, nat_tests, least)) (grind (arith, nat_tests, least)) to known f k.1 goes k.0) c.gather_piece.ensures.ok)

pub returns-in-ChunkLine-clause-ok : goal.returns-in-ChunkLine-clause-ok
returns-in-ChunkLine-clause-ok c =
    let at = c.args.place.now in
    let e = c.args.self.now in
    let line = c.in-ChunkLine.line in
    let size = c.in-ChunkLine.size in
    let looks = subst (LooksAt c.args.side at.reader e) c.in-ChunkLine.is c.requires in
    line_goes c.args.side at c.args.http.now e line size looks _ c.read.new.self refl c.read.ensures

pub returns-in_default : goal.returns-in_default
returns-in_default c = record {
  ok = stops_there c.args.side c.args.place.now c.args.http.now c.args.self.now c.args.unit c.in_default.not-Piece c.in_default.not-ChunkLine c.requires;
  edges = refl;
}
