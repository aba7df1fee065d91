-- Bytes of a message's body are gathered that a rule collects.
use Rattle.std.specs.Prelude.{◌≡◌, ◌-◌, ◌≤◌, ◌<◌, ℕ, List, length, take, nat_eq, nat_lt}
use Rattle.std.specs.Prelude.{Bool, true, false, ◌||◌, ◌&&◌, not, Some}
use Rattle.px_bytes.specs.declared.addr.Side.{Side}
use Rattle.http_frames.specs.Parts.{Part, Byte, Chunk, End, Pending, Bad, part_of}
use Rattle.http_frames.specs.States.{after_unit}
use Rattle.http_frames.specs.declared.state.BodyState.{BodyState}
use Rattle.http_frames.specs.declared.state.BodyState.TheVariants as body
use Rattle.http_frames.specs.declared.unit.Unit.{Unit as BodyUnit}
use Rattle.http_frames.specs.declared.unit.Unit.TheVariants as unit
use Rattle.irule_http.specs.declared.state.Http.{Http}
use Rattle.conn_trace.specs.Fronts.{after_byte, is_at_end}
use Rattle.conn_trace.specs.Http.{with_gathered, with_whole}
use Rattle.conn_trace.specs.Units.{GoesOn, after_bytes}
use Rattle.core_events.specs.declared.note.Note.{Note}
use Rattle.conn.specs.declared.connection.Conn.{Conn}
use Rattle.conn.specs.declared.ends.Ends.{Ends}
use Rattle.conn.specs.declared.gather.Portion.{Portion}
use Rattle.conn.specs.declared.host.RuleHost.{RuleHost}
use Rattle.conn.specs.declared.setup.Setup.{Setup}
use Rattle.conn.specs.declared.stage.Stage.TheVariants as stage
use Rattle.conn.specs.declared.turn.Act.{Act}
use Rattle.conn.specs.declared.turn.Act.TheVariants as act
use Rattle.conn.specs.Acts.{WaitsFor}
use Rattle.conn.specs.Changes.{Enters}
use Rattle.conn.specs.Ends.{end_of}
use Rattle.conn.specs.Forwarding.{LooksAt}
use Rattle.conn.specs.Events.{gathered_at}
use Rattle.conn.specs.Messages.{RefusesOf}
use Rattle.conn.specs.Relaying.{read_ends}
use Rattle.conn.specs.Stages.{http_in}

-- how far a body is gathered, what is known of it there, and the ends
pub record Gathered : Type 0 where
  pub at : Portion
  pub http : Http
  pub ends : Ends

abbrev pub gathered : Portion → Http → Ends → Gathered
gathered at http e = record { at = at; http = http; ends = e }

-- so many bytes of the body, or of a chunk of it, are gathered
abbrev pub piece_gathered : Side → ℕ → Gathered → Gathered
piece_gathered side n p = record {
  at = record { wanted = p.at.wanted - n; reader = after_bytes n p.at.reader };
  http = with_gathered (take n (end_of side p.ends).unread) (after_bytes n p.at.reader) p.http;
  ends = read_ends side n p.ends;
}

-- a chunk line is read
abbrev pub line_gathered : Side → (line size : ℕ) → Gathered → Gathered
line_gathered side line size p = record {
  at = record p.at { reader = body.Chunk size };
  http = p.http;
  ends = read_ends side line p.ends;
}

-- some are there, more are wanted behind them, and the body isn't at its end there
pub record GathersPiece (side : Side) (n : ℕ) (p : Gathered) : Type 0 where
  pub some : 1 ≤ n
  pub there : n ≤ length (end_of side p.ends).unread
  pub more : n < p.at.wanted
  pub goes_on : GoesOn n p.at.reader

abbrev pub part_there : Side → Gathered → Part
part_there side p = part_of p.at.reader (end_of side p.ends).unread (end_of side p.ends).ended

pub data GathersUnit (side : Side) (p : Gathered) : Gathered → Type 0 where
  Piece : (n : ℕ) → GathersPiece side n p → GathersUnit side p (piece_gathered side n p)
  Line : (line size : ℕ) → part_there side p ≡ Chunk line size
      → GathersUnit side p (line_gathered side line size p)

-- one unit after another
pub data Gathers (side : Side) (from : Gathered) : Gathered → Type 0 where
  NoneYet : Gathers side from from
  Then : (p q : Gathered) → Gathers side from p → GathersUnit side p q → Gathers side from q

-- the byte in front is the last one that is wanted, or the last of the body
abbrev pub is_last : Portion → Bool
is_last p = nat_eq p.wanted 1 || is_at_end (after_byte p.reader)

abbrev pub http_of_host : Http → RuleHost → RuleHost
http_of_host http h = record h { http = Some http }

-- it is gathered so far
abbrev pub gathered_to : Side → Gathered → Conn → Conn
gathered_to side p c = record c {
  stage = stage.Gathering side p.at.wanted p.at.reader;
  host = http_of_host p.http c.host;
  ends = p.ends;
}

-- the event of what was gathered is entered, behind so many bytes more
abbrev pub EntersGathered : Side → ℕ → Http → Setup → Conn → Conn → Type 0
EntersGathered side n http s old new =
    Enters s (gathered_at side) (http_of_host http old.host) (read_ends side n old.ends) old new

-- what stands in front of what is left of it
abbrev pub GathersBy : Part → Side → Portion → Setup → ℕ → Conn → Conn → List Note → List Note
    → Act → Type 0
GathersBy Byte side p s c old new before after a =
    (a ≡ act.Goes) × (is_last p ≡ true)
    × EntersGathered side 1
    (with_gathered (take 1 (end_of side old.ends).unread) (after_byte p.reader) (http_in old.host))
    s old new × (after ≡ before)
GathersBy (Chunk line size) side p s c old new before after a = ⊥
GathersBy (End n) side p s c old new before after a =
    (a ≡ act.Goes) × EntersGathered side n (with_whole (http_in old.host)) s old new
    × (after ≡ before)
GathersBy Pending side p s c old new before after a = WaitsFor side s c old new before after a
GathersBy (Bad f) side p s c old new before after a = RefusesOf side f s c old new before after a

-- all units of a body that came and are wanted are gathered
pub record GathersBody (side : Side) (wanted : ℕ) (reader : BodyState) (s : Setup) (c : ℕ)
    (old new : Conn) (before after : List Note) (a : Act) : Type 0 where
  pub to : Gathered
  pub passes : Gathers side
      (gathered (record { wanted = wanted; reader = reader }) (http_in old.host) old.ends) to
  pub goes : GathersBy (part_there side to) side to.at s c (gathered_to side to old) new
      before after a

-- ---- what the code finds in front

-- so many bytes of a piece were gathered
pub record TakesPiece (side : Side) (n : ℕ) (at : Portion) (http : Http) (e : Ends) (at' : Portion)
    (http' : Http) (e' : Ends) : Type 0 where
  pub place : at' ≡ record { wanted = at.wanted - n; reader = after_unit at.reader (unit.Piece n) }
  pub known : http' ≡ with_gathered (take n (end_of side e).unread) at'.reader http
  pub ends : e' ≡ read_ends side n e

-- the byte in front was gathered, and it was the last
pub record LastGathered (side : Side) (p q : Gathered) : Type 0 where
  pub part : part_there side p ≡ Byte
  pub last : is_last p.at ≡ true
  pub ends : q.ends ≡ read_ends side 1 p.ends
  pub http : q.http
      ≡ with_gathered (take 1 (end_of side p.ends).unread) (after_byte p.at.reader) p.http

-- it stopped there: at the last piece, or before what isn't gathered
abbrev pub StopsGathering : Side → BodyUnit → Gathered → Gathered → Type 0
StopsGathering side (unit.Piece taken) p q = LastGathered side p q
StopsGathering side (unit.ChunkLine line size) p q = ⊥
StopsGathering side (unit.Finished size) p q =
    (q ≡ p) × LooksAt side p.at.reader p.ends (unit.Finished size)
StopsGathering side unit.NotYet p q = (q ≡ p) × LooksAt side p.at.reader p.ends unit.NotYet
StopsGathering side (unit.Fault f) p q = (q ≡ p) × LooksAt side p.at.reader p.ends (unit.Fault f)

-- all that came and is wanted, and this stands in front of what is left, or was the last of it
pub record GathersUnits (side : Side) (from to : Gathered) (u : BodyUnit) : Type 0 where
  pub mid : Gathered
  pub units : Gathers side from mid
  pub stops : StopsGathering side u mid to

-- more may be gathered behind a unit, or not
abbrev pub UnitGathered : (goes : Bool) → Side → BodyUnit → Gathered → Gathered → Type 0
UnitGathered true side u p q = GathersUnit side p q
UnitGathered false side u p q = GathersUnits side p q u

-- more is wanted, and the body isn't at its end
abbrev pub goes_on : Portion → Bool
goes_on p = nat_lt 0 p.wanted && not (is_at_end p.reader)
