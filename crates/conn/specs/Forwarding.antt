-- Units of a body go from one side to the other: its bytes as they are, and a chunk line without extensions. And
-- responses before the final one do.
use Rattle.std.specs.Prelude.{◌≡◌, ◌+◌, ◌≤◌, ℕ, List, take, length, nat_eq, nat_lt}
use Rattle.std.specs.Prelude.{Bool, true, false, Option, Result, Ok, Err}
use Rattle.px_bytes.specs.declared.addr.Side.{Side}
use Rattle.px_bytes.specs.declared.addr.Side.TheVariants.{Server}
use Rattle.px_bytes.specs.declared.fault.HttpFault.{HttpFault}
use Rattle.http_frames.specs.NextUnit.{unit_of}
use Rattle.http_frames.specs.Parts.{Part, Chunk, part_of}
use Rattle.http_frames.specs.declared.state.BodyState.{BodyState}
use Rattle.http_frames.specs.declared.state.BodyState.TheVariants as body
use Rattle.http_frames.specs.declared.unit.Unit.{Unit as BodyUnit}
use Rattle.http_frames.specs.declared.unit.Unit.TheVariants as unit
use Rattle.http_heads.specs.Fronts.{head_part}
use Rattle.http_heads.specs.declared.front.HeadPart.{HeadPart}
use Rattle.http_heads.specs.declared.front.HeadPart.TheVariants.{HeadOf, StreamEnds, Faulty, NoHead}
use Rattle.http_heads.specs.declared.line.Version.{Version}
use Rattle.http_heads.specs.declared.line.Version.TheVariants.{Http10, Http11}
use Rattle.http_heads.specs.declared.response.ResponseHead.{ResponseHead}
use Rattle.http_messages.specs.Messages.{response_of}
use Rattle.irule_http.specs.Sent.{interim_head}
use Rattle.irule_http.specs.declared.state.Request.{Request}
use Rattle.irule_http.specs.declared.state.Response.{Response}
use Rattle.conn_trace.specs.Gates.{other, room_limit}
use Rattle.conn_trace.specs.Messages.{asked_version, is_interim}
use Rattle.conn_trace.specs.SentBodies.{chunk_line}
use Rattle.conn_trace.specs.Units.{Holds, after_bytes}
use Rattle.conn.specs.declared.ends.ConnectionEnd.{ConnectionEnd}
use Rattle.conn.specs.declared.ends.Ends.{Ends}
use Rattle.conn.specs.declared.forward.Standing.{Standing}
use Rattle.conn.specs.declared.response.Answer.{Answer}
use Rattle.conn.specs.declared.response.Answer.TheVariants as answer
use Rattle.conn.specs.Ends.{end_of, queue_of}
use Rattle.conn.specs.Relaying.{moved_as, read_ends}

-- so many bytes wait for the other side than this one, and whether there is room there
abbrev pub waiting : Side → Ends → ℕ
waiting side e = length (queue_of (end_of (other side) e))

abbrev pub ends_room : Side → Ends → Bool
ends_room side e = nat_lt (waiting side e) room_limit

-- where the reader of a body stands, whether a chunk stands open, and the ends there
pub record Passage : Type 0 where
  pub at : Standing
  pub ends : Ends

abbrev pub passage : Standing → Ends → Passage
passage at e = record { at = at; ends = e }

-- so many bytes of the body, or of a chunk of it, go over
abbrev pub piece_passed : Side → ℕ → Passage → Passage
piece_passed side n p = record {
  at = record p.at { reader = after_bytes n p.at.reader };
  ends = moved_as side n (take n (end_of side p.ends).unread) p.ends;
}

-- a chunk line does
abbrev pub line_passed : Side → (line size : ℕ) → Passage → Passage
line_passed side line size p = record {
  at = record { reader = body.Chunk size; standing = true };
  ends = moved_as side line (chunk_line p.at.standing size) p.ends;
}

pub record PassesPiece (side : Side) (n : ℕ) (p : Passage) : Type 0 where
  pub holds : Holds n p.at.reader
  pub there : n ≤ length (end_of side p.ends).unread
  pub room : waiting side p.ends + n ≤ room_limit

abbrev pub part_at : Side → Passage → Part
part_at side p = part_of p.at.reader (end_of side p.ends).unread (end_of side p.ends).ended

pub record PassesLine (side : Side) (line size : ℕ) (p : Passage) : Type 0 where
  pub part : part_at side p ≡ Chunk line size
  pub room : ends_room side p.ends ≡ true

pub data PassesUnit (side : Side) (p : Passage) : Passage → Type 0 where
  Piece : (n : ℕ) → PassesPiece side n p → PassesUnit side p (piece_passed side n p)
  Line : (line size : ℕ) → PassesLine side line size p
      → PassesUnit side p (line_passed side line size p)

-- one unit after another, where there is room for each
pub data Forwards (side : Side) (from : Passage) : Passage → Type 0 where
  NotYet : Forwards side from from
  Then : (p q : Passage) → Forwards side from p → PassesUnit side p q → Forwards side from q

-- what stands in front of a side
abbrev pub LooksAt : Side → BodyState → Ends → BodyUnit → Type 0
LooksAt side reader e u = u ≡ unit_of reader (end_of side e).unread (end_of side e).ended

-- it is no unit that goes on, or there is no room
abbrev pub StopsThere : Side → BodyUnit → Ends → Type 0
StopsThere side (unit.Piece taken) e = ends_room side e ≡ false
StopsThere side (unit.ChunkLine line size) e = ends_room side e ≡ false
StopsThere side (unit.Finished size) e = Unit {0}
StopsThere side unit.NotYet e = Unit {0}
StopsThere side (unit.Fault f) e = Unit {0}

abbrev pub UnitGoes : Bool → Side → BodyUnit → Standing → Ends → Standing → Ends → Type 0
UnitGoes true side u at e at' e' = PassesUnit side (passage at e) (passage at' e')
UnitGoes false side u at e at' e' = StopsThere side u e × ((at' ≡ at) × (e' ≡ e))

-- all that came and has room, and this stands in front of what is left
abbrev pub ForwardsUnits : Side → Standing → Ends → Standing → Ends → BodyUnit → Type 0
ForwardsUnits side from e to e' u =
    Forwards side (passage from e) (passage to e')
    × (LooksAt side to.reader e' u × StopsThere side u e')

-- ---- responses

abbrev pub answer_with : ℕ → Result Response HttpFault → Answer
answer_with n (Ok r) = answer.Head n r
answer_with n (Err f) = answer.Fault f

abbrev pub answer_by : HeadPart → Option Request → List ℕ → Answer
answer_by (HeadOf n) came unread = answer_with n (response_of came (take n unread))
answer_by StreamEnds came unread = answer.Ends
answer_by (Faulty f) came unread = answer.Fault f
answer_by NoHead came unread = answer.NoHead

-- what stands where a response is due
abbrev pub answer_of : Option Request → ConnectionEnd → Answer
answer_of came e = answer_by (head_part e.unread e.ended) came e.unread

-- the head of the response that these bytes are
abbrev pub GivesHead : Option Request → List ℕ → ResponseHead → Type 0
GivesHead came bytes head =
    (r : Response) → response_of came bytes ≡ Ok r → head ≡ r.head

-- A client of 1.0 is told nothing of a response before the final one.
abbrev pub interim_ends : Version → ℕ → Response → Ends → Ends
interim_ends Http10 n r e = read_ends Server n e
interim_ends Http11 n r e = moved_as Server n (interim_head r) e

abbrev pub HasRoom : Version → Ends → Type 0
HasRoom Http10 e = Unit {0}
HasRoom Http11 e = ends_room Server e ≡ true

abbrev pub LacksRoom : Version → Ends → Type 0
LacksRoom Http10 e = ⊥
LacksRoom Http11 e = ends_room Server e ≡ false

abbrev pub switches : Response → Bool
switches r = nat_eq r.head.status 101

pub record PassesInterim (came : Option Request) (n : ℕ) (r : Response) (e : Ends) : Type 0 where
  pub head : answer_of came e.server ≡ answer.Head n r
  pub stays : switches r ≡ false
  pub interim : is_interim r.head ≡ true
  pub room : HasRoom (asked_version came) e

pub data Interims (came : Option Request) (from : Ends) : Ends → Type 0 where
  NoneYet : Interims came from from
  Interim : (n : ℕ) (r : Response) (e : Ends) → Interims came from e → PassesInterim came n r e
      → Interims came from (interim_ends (asked_version came) n r e)

-- it is none before the final one, or there is no room
abbrev pub StatusStops : (switches interim : Bool) → Version → Ends → Type 0
StatusStops true interim v e = Unit {0}
StatusStops false true v e = LacksRoom v e
StatusStops false false v e = Unit {0}

abbrev pub AnswerStops : Answer → Version → Ends → Type 0
AnswerStops (answer.Head n r) v e = StatusStops (switches r) (is_interim r.head) v e
AnswerStops other v e = Unit {0}

-- it goes on, or that stands there
abbrev pub InterimGoes : Bool → Option Request → ℕ → Response → Ends → Ends → Type 0
InterimGoes true came n r e e' =
    ((switches r ≡ false) × ((is_interim r.head ≡ true) × HasRoom (asked_version came) e))
    × (e' ≡ interim_ends (asked_version came) n r e)
InterimGoes false came n r e e' =
    StatusStops (switches r) (is_interim r.head) (asked_version came) e × (e' ≡ e)

abbrev pub AnswerGoes : Bool → Option Request → Answer → Ends → Ends → Type 0
AnswerGoes true came (answer.Head n r) e e' = InterimGoes true came n r e e'
AnswerGoes true came other e e' = ⊥
AnswerGoes false came a e e' = AnswerStops a (asked_version came) e × (e' ≡ e)

-- all of those that came and have room go on, and this stands behind them
abbrev pub InterimsPass : Option Request → Ends → Ends → Answer → Type 0
InterimsPass came from to a =
    Interims came from to × ((a ≡ answer_of came to.server) × AnswerStops a (asked_version came) to)
