-- Units of a body that go on, by what the code finds in front.
use Rattle.std.proofs.Common.{◌≡◌, refl, sym, ap, subst, ◌∙◌, ℕ, ◌+◌, ◌<◌, ◌≤◌, List, take, Bool, true, false, arith}
use Rattle.px_bytes.specs.declared.addr.Side.{Side}
use Rattle.px_bytes.specs.declared.addr.Side.TheVariants.{Client, Server}
use Rattle.px_bytes.specs.declared.fault.HttpFault.{HttpFault}
use Rattle.core_events.specs.declared.note.Note.{Note}
use Rattle.http_frames.specs.Parts.{part_by}
use Rattle.http_frames.specs.States.{after_unit}
use Rattle.http_frames.specs.Units.{IsUnit}
use Rattle.http_frames.specs.declared.state.BodyState.{BodyState}
use Rattle.http_frames.specs.declared.state.BodyState.TheVariants as body
use Rattle.http_frames.specs.declared.unit.Unit.{Unit as BodyUnit}
use Rattle.http_frames.specs.declared.unit.Unit.TheVariants as unit
use Rattle.http_frames.proofs.NextUnits.{unit_is}
use Rattle.http_frames.proofs.Taken.{Inside, inside}
use Rattle.conn_trace.specs.Gates.{room_limit}
use Rattle.conn_trace.specs.SentBodies.{chunk_line}
use Rattle.conn_trace.specs.Units.{Holds}
use Rattle.conn.specs.Acts.{Rests}
use Rattle.conn.specs.Ends.{end_of}
use Rattle.conn.specs.Forwarding.{Forwards, ForwardsUnits, Line, LooksAt, PassesLine, PassesPiece, PassesUnit, Piece, StopsThere, UnitGoes, ends_room, passage, waiting}
use Rattle.conn.specs.Messages.{ForwardsBody, FrontBy, passed_to}
use Rattle.conn.specs.Relaying.{moved, moved_as}
use Rattle.conn.specs.declared.connection.Conn.{Conn}
use Rattle.conn.specs.declared.ends.Ends.{Ends}
use Rattle.conn.specs.declared.forward.Standing.{Standing}
use Rattle.conn.specs.declared.setup.Setup as code_setup
use Rattle.conn.specs.declared.turn.Act as step_act
use Rattle.conn.proofs.Dropping.{piece_after, piece_holds}

-- a part of a piece is of the body too
holds_less : (s : BodyState) (m n : ℕ) → n ≤ m → Holds m s → Holds n s
holds_less (body.Left k) m n less h = omega (arith, less, h)
holds_less body.FirstLine m n less h = omega (arith, less, h)
holds_less (body.Chunk k) m n less h = omega (arith, less, h)
holds_less body.NextLine m n less h = omega (arith, less, h)
holds_less body.ToEnd m n less h = tt

moved_is : (side : Side) (n : ℕ) (e : Ends) → moved side n e ≡ moved_as side n (take n (end_of side e).unread) e
moved_is Client n e = refl
moved_is Server n e = refl

module _ (side : Side) (at : Standing) (e : Ends) where
  unit_there : (u : BodyUnit) → LooksAt side at.reader e u → IsUnit at.reader (end_of side e).unread (end_of side e).ended u
  unit_there u looks = subst (IsUnit at.reader (end_of side e).unread (end_of side e).ended) (sym looks) (unit_is (end_of side e).unread (end_of side e).ended at.reader)

  pub there_inside : (u : BodyUnit) → LooksAt side at.reader e u → Inside (end_of side e).unread u
  there_inside u looks = inside at.reader (end_of side e).unread (end_of side e).ended u (unit_there u looks)

  -- so many bytes of a piece
  pub piece_there : (size n : ℕ) → LooksAt side at.reader e (unit.Piece size) → 0 < n → n ≤ size → waiting side e + n ≤ room_limit → (at' : Standing) (e' : Ends) → at' ≡ record at { reader = after_unit at.reader (unit.Piece n) } → e' ≡ moved side n e → PassesUnit side (passage at e) (passage at' e')
  piece_there size n looks some less room at' e' is moves =
      let holds = holds_less at.reader size n less (piece_holds at.reader (end_of side e).unread (end_of side e).ended size (unit_there (unit.Piece size) looks)) in
      let within = (there_inside (unit.Piece size) looks).within in
      let k : PassesPiece side n (passage at e) = record { holds = holds; there = omega (arith, less, within); room = room } in
      let to = ap (λ r. passage (record at { reader = r }) (moved_as side n (take n (end_of side e).unread) e)) (piece_after n at.reader some holds) in
      let back = ap (λ x. passage (record at { reader = after_unit at.reader (unit.Piece n) }) x) (sym (moved_is side n e) ∙ sym moves) ∙ ap (λ x. passage x e') (sym is) in
      subst (PassesUnit side (passage at e)) (to ∙ back) (Piece n k)

  pub line_there : (line size : ℕ) → LooksAt side at.reader e (unit.ChunkLine line size) → ends_room side e ≡ true → (at' : Standing) (e' : Ends) → at' ≡ record { reader = body.Chunk size; standing = true } → e' ≡ moved_as side line (chunk_line at.standing size) e → PassesUnit side (passage at e) (passage at' e')
  line_there line size looks room at' e' is moves =
      let k : PassesLine side line size (passage at e) = record { part = ap part_by (sym looks); room = room } in
      let back = ap (λ x. passage (record { reader = body.Chunk size; standing = true }) x) (sym moves) ∙ ap (λ x. passage x e') (sym is) in
      subst (PassesUnit side (passage at e)) back (Line line size k)

-- by the unit that stands in front of what is left
pub forwards_by : (s : code_setup.Setup) (c : ℕ) (side : Side) (from to : Standing) (old new : Conn) (e : Ends) (before after : List Note) (did : step_act.Act) (u : BodyUnit) → ForwardsUnits side from old.ends to e u → FrontBy (part_by u) side to.reader to.standing s c (passed_to side (passage to e) old) new before after did
    → ForwardsBody side from.reader from.standing s c old new before after did
forwards_by s c side from to old new e before after did u k front = record {
  to = passage to e;
  passes = k.0;
  goes = subst (λ x. FrontBy (part_by x) side to.reader to.standing s c (passed_to side (passage to e) old) new before after did) k.1.0 front;
}

-- no more of them goes on
pub units_stop : (side : Side) (from at to : Standing) (old e f : Ends) (u : BodyUnit) → Forwards side (passage from old) (passage at e) → LooksAt side at.reader e u → UnitGoes false side u at e to f → ForwardsUnits side from old to f u
units_stop side from at to old e f u before looks (stops, (stays, same)) =
    subst (λ x. ForwardsUnits side from old x f u) (sym stays) (subst (λ x. ForwardsUnits side from old at x u) (sym same) (before, (looks, stops)))

-- what is no end, no fault and there waits for room
pub waits_for_room : (u : BodyUnit) → ((size : ℕ) → u ≡ unit.Finished size → ⊥) → ((f : HttpFault) → u ≡ unit.Fault f → ⊥) → (u ≡ unit.NotYet → ⊥) → (s : code_setup.Setup) (c : ℕ) (side : Side) (reader : BodyState) (standing : Bool) (old new : Conn) (before after : List Note) (did : step_act.Act) → StopsThere side u old.ends → Rests s c old new before after did
    → FrontBy (part_by u) side reader standing s c old new before after did
waits_for_room (unit.Piece n) ends bad none s c side reader standing old new before after did full k = (full, k)
waits_for_room (unit.ChunkLine line size) ends bad none s c side reader standing old new before after did full k = (full, k)
waits_for_room (unit.Finished size) ends bad none s c side reader standing old new before after did full k = absurd (ends size refl)
waits_for_room unit.NotYet ends bad none s c side reader standing old new before after did full k = absurd (none refl)
waits_for_room (unit.Fault f) ends bad none s c side reader standing old new before after did full k = absurd (bad f refl)
