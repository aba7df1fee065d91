-- What an action with messages does: a request goes to its server and the response to the client, and the server
-- connection is used again or given up.
use Rattle.std.specs.Prelude.{◌≡◌, ℕ, List, ◌++◌, ◌∷◌, [], Bool, true, false, ◌||◌, not}
use Rattle.std.specs.Bool.{MatchBool}
use Rattle.px_bytes.specs.declared.addr.Side.{Side}
use Rattle.px_bytes.specs.declared.addr.Side.TheVariants.{Client, Server}
use Rattle.px_bytes.specs.declared.fault.HttpFault.{HttpFault}
use Rattle.px_bytes.specs.declared.fault.HttpFault.TheVariants as fault
use Rattle.http_frames.specs.Parts.{Part, Byte, Chunk, End, Pending, Bad}
use Rattle.http_frames.specs.declared.state.BodyState.{BodyState}
use Rattle.irule_http.specs.Sent.{sent_head}
use Rattle.irule_http.specs.declared.state.Http.{Http}
use Rattle.irule_http.specs.declared.state.Response.{Response}
use Rattle.seg_buffer.specs.Bytes.{is_empty}
use Rattle.conn_trace.specs.Messages.{asked_version, is_counted, is_interim}
use Rattle.conn_trace.specs.SentBodies.{is_answered, last_line, payload_part}
use Rattle.core_events.specs.Edges.{edges_noted}
use Rattle.core_events.specs.declared.note.Note.{Note}
use Rattle.core_events.specs.declared.note.Note.TheVariants as note
use Rattle.conn.specs.declared.connection.Conn.{Conn}
use Rattle.conn.specs.declared.ends.Behind.{Behind}
use Rattle.conn.specs.declared.ends.Behind.TheVariants as behind
use Rattle.conn.specs.declared.ends.ConnectionEnd as ends
use Rattle.conn.specs.declared.ends.Ends.{Ends}
use Rattle.conn.specs.declared.ends.Link.TheVariants as link
use Rattle.conn.specs.declared.events.At.TheVariants.{Response as HttpResponse}
use Rattle.conn.specs.declared.setup.Setup.{Setup}
use Rattle.conn.specs.declared.stage.Finish.TheVariants as finish
use Rattle.conn.specs.declared.stage.Stage.{Stage}
use Rattle.conn.specs.declared.stage.Stage.TheVariants as stage
use Rattle.conn.specs.declared.turn.Act.{Act}
use Rattle.conn.specs.declared.turn.Act.TheVariants as act
use Rattle.conn.specs.Acts.{Finishes, RefusesBy, Rests, WaitsFor}
use Rattle.conn.specs.Changes.{Enters, LeavesServer}
use Rattle.conn.specs.declared.response.Answer.{Answer}
use Rattle.conn.specs.declared.response.Answer.TheVariants as answer
use Rattle.conn.specs.Forwarding.{Forwards, Interims, Passage, answer_of, ends_room, part_at}
use Rattle.conn.specs.Forwarding.{LacksRoom, passage, switches}
use Rattle.conn.specs.Hosts.{responded_host}
use Rattle.conn.specs.Queues.{queue_in}
use Rattle.conn.specs.Relaying.{moved_as, read_ends}
use Rattle.conn.specs.Servers.{closed_notes}
use Rattle.conn.specs.Stages.{headed_stage, http_in, message_stage, retired_stage}

-- only the stage and the ends change
pub record Becomes (st : Stage) (e : Ends) (old new : Conn) : Type 0 where
  pub there : new.stage ≡ st
  pub vars : new.vars ≡ old.vars
  pub host : new.host ≡ old.host
  pub ends : new.ends ≡ e

-- ---- the server connection

-- the server connection is used again, where it is whole
abbrev pub is_whole : ends.ConnectionEnd → Bool
is_whole e = not (e.ended || e.reset)

abbrev pub reuse_stage : (kept : Bool) → Stage
reuse_stage true = stage.Heading Client
reuse_stage false = stage.GivingUp behind.BeforeSelect

pub record Reuses (c : ℕ) (old new : Conn) (before after : List Note) : Type 0 where
  pub becomes : let kept = is_whole old.ends.server in Becomes (reuse_stage kept) old.ends old new
  pub noted : after ≡ before ++ note.Reuse c (is_whole old.ends.server) ∷ []

-- it is given up
abbrev pub GivesUp : Setup → Behind → Conn → Conn → Type 0
GivesUp s b old new = LeavesServer s b old new

-- behind its closing event nothing more is sent to it, and it is closed where it took all
abbrev pub retired_ends : List Note → Ends → Ends
retired_ends notes e = record e { link = link.GivenUp; edges = edges_noted notes e.edges }

pub record Retires (c : ℕ) (b : Behind) (old new : Conn) (before after : List Note) : Type 0 where
  pub becomes : let notes = closed_notes c (is_empty (queue_in Server old)) in
      Becomes (retired_stage b (http_in old.host)) (retired_ends notes old.ends) old new
  pub noted : after ≡ before ++ closed_notes c (is_empty (queue_in Server old))

-- ---- messages

-- a message's head goes to the other side, with what was gathered of its body, where there is room
abbrev pub head_bytes : Side → Http → List ℕ
head_bytes side http = sent_head side http ++ payload_part http

abbrev pub SendsHead : Side → Setup → ℕ → Conn → Conn → List Note → List Note → Act → Type 0
SendsHead side s c old new before after a = MatchBool (ends_room side old.ends)
    ((a ≡ act.Goes) × Becomes (headed_stage side old.host (http_in old.host).whole)
    (moved_as side 0 (head_bytes side (http_in old.host)) old.ends) old new × (after ≡ before))
    (Rests s c old new before after a)

-- what can't be read of a side's message is answered where it is the client's
abbrev pub RefusesOf : Side → HttpFault → Setup → ℕ → Conn → Conn → List Note → List Note → Act
    → Type 0
RefusesOf side f s c old new before after a =
    RefusesBy (is_answered side f) f s c old new before after a

-- the end of a chunked body is sent, where there is room
abbrev pub EndsBy : (counted : Bool) → Side → (standing : Bool) → ℕ → Setup → ℕ → Conn → Conn
    → List Note → List Note → Act → Type 0
EndsBy true side standing n s c old new before after a =
    (a ≡ act.Goes) × Becomes (message_stage side old.host) (read_ends side n old.ends) old new
    × (after ≡ before)
EndsBy false side standing n s c old new before after a = MatchBool (ends_room side old.ends)
    ((a ≡ act.Goes)
    × Becomes (message_stage side old.host) (moved_as side n (last_line standing) old.ends) old new
    × (after ≡ before))
    (Rests s c old new before after a)

-- what stands in front of what is left of a body; what may go on waits only for room
abbrev pub FrontBy : Part → Side → (reader : BodyState) → (standing : Bool) → Setup → ℕ → Conn
    → Conn → List Note → List Note → Act → Type 0
FrontBy Byte side reader standing s c old new before after a =
    (ends_room side old.ends ≡ false) × Rests s c old new before after a
FrontBy (Chunk line size) side reader standing s c old new before after a =
    (ends_room side old.ends ≡ false) × Rests s c old new before after a
FrontBy (End n) side reader standing s c old new before after a =
    EndsBy (is_counted reader) side standing n s c old new before after a
FrontBy Pending side reader standing s c old new before after a =
    WaitsFor side s c old new before after a
FrontBy (Bad f) side reader standing s c old new before after a =
    RefusesOf side f s c old new before after a

abbrev pub passed_to : Side → Passage → Conn → Conn
passed_to side p c =
    record c { stage = stage.Forwarding side p.at.reader p.at.standing; ends = p.ends }

-- all units of a body that came and have room go on
pub record ForwardsBody (side : Side) (reader : BodyState) (standing : Bool) (s : Setup) (c : ℕ)
    (old new : Conn) (before after : List Note) (a : Act) : Type 0 where
  pub to : Passage
  pub passes : Forwards side
      (passage (record { reader = reader; standing = standing }) old.ends) to
  pub goes : FrontBy (part_at side to) side to.at.reader to.at.standing s c
      (passed_to side to old) new before after a

-- ---- responses

-- A final response is read, and its event is entered. One before it goes on without an event, but for want of room.
abbrev pub StatusBy : (switches interim : Bool) → ℕ → Response → Setup → ℕ → Conn → Conn
    → List Note → List Note → Act → Type 0
StatusBy true interim n r s c old new before after a =
    (a ≡ act.Goes) × Finishes s c (finish.Http fault.Switching) old new before after
StatusBy false true n r s c old new before after a =
    LacksRoom (asked_version (http_in old.host).came) old.ends × Rests s c old new before after a
StatusBy false false n r s c old new before after a =
    (a ≡ act.Goes)
    × Enters s HttpResponse (responded_host r old.host) (read_ends Server n old.ends) old new
    × (after ≡ before)

abbrev pub AnswerBy : Answer → Setup → ℕ → Conn → Conn → List Note → List Note → Act → Type 0
AnswerBy (answer.Head n r) s c old new before after a =
    StatusBy (switches r) (is_interim r.head) n r s c old new before after a
AnswerBy answer.Ends s c old new before after a =
    (a ≡ act.Goes) × Finishes s c (finish.Http fault.ShortBody) old new before after
AnswerBy (answer.Fault f) s c old new before after a =
    (a ≡ act.Goes) × Finishes s c (finish.Http f) old new before after
AnswerBy answer.NoHead s c old new before after a = WaitsFor Server s c old new before after a

-- behind those before the final one
abbrev pub with_ends : Ends → Conn → Conn
with_ends e c = record c { ends = e }

pub record ReadsResponse (s : Setup) (c : ℕ) (old new : Conn) (before after : List Note) (a : Act)
    : Type 0 where
  pub to : Ends
  pub passes : Interims (http_in old.host).came old.ends to
  pub goes : AnswerBy (answer_of (http_in old.host).came to.server) s c (with_ends to old) new
      before after a
