-- What an action with a client's request comes to: it goes on, or it rests or is cut.
use Rattle.std.proofs.Common.{◌≡◌, ◌⊎◌, inl, inr, ℕ, take, List, Bool, true, false, Result, Ok, Err}
use Rattle.std.specs.Bool.{MatchBool}
use Rattle.core_events.specs.declared.note.Note.{Note}
use Rattle.px_bytes.specs.declared.addr.Side.TheVariants.{Client}
use Rattle.px_bytes.specs.declared.fault.HttpFault.{HttpFault}
use Rattle.http_answers.specs.Refusals.{continue_text}
use Rattle.http_frames.specs.Parts.{Part, Byte, Chunk, End, Pending, Bad}
use Rattle.http_frames.specs.declared.state.BodyState.{BodyState}
use Rattle.http_messages.specs.Messages.{request_of}
use Rattle.irule_http.specs.declared.state.Request.{Request}
use Rattle.http_heads.specs.declared.front.HeadPart.{HeadPart}
use Rattle.http_heads.specs.declared.front.HeadPart.TheVariants.{HeadOf, StreamEnds, Faulty, NoHead}
use Rattle.conn_trace.specs.SentBodies.{is_answered}
use Rattle.conn.specs.Acts.{DropsBody, DropsBy, HeadBy, RefusesBy, RequestBy, Rests, RestsBy, SendsClient, TellsToGoOn, client_room, cut_by, dropped, is_server}
use Rattle.px_bytes.specs.declared.addr.Side.{Side}
use Rattle.irule_http.specs.declared.state.Response.{Response}
use Rattle.conn_trace.specs.Messages.{is_counted, is_interim}
use Rattle.conn_trace.specs.SentBodies.{last_line}
use Rattle.conn.specs.Forwarding.{answer_of, ends_room, part_at, switches}
use Rattle.conn.specs.Messages.{AnswerBy, Becomes, EndsBy, ForwardsBody, FrontBy, ReadsResponse, SendsHead, StatusBy, head_bytes, passed_to, with_ends}
use Rattle.conn.specs.Relaying.{moved_as}
use Rattle.conn.specs.Stages.{headed_stage, message_stage}
use Rattle.conn.specs.declared.response.Answer.{Answer}
use Rattle.conn.specs.declared.response.Answer.TheVariants as answer
use Rattle.conn.specs.Stages.{asked_stage, http_in}
use Rattle.conn.specs.declared.connection.Conn.{Conn}
use Rattle.conn.specs.declared.setup.Setup as code_setup
use Rattle.conn.specs.declared.turn.Act as step_act
use Rattle.conn.specs.declared.turn.Act.TheVariants as done
use Rattle.conn.proofs.Dropped.{left_front}

-- it goes on, or it rests or is cut where it waits for bytes of its server or for something else
abbrev pub RestsAs : Bool → code_setup.Setup → ℕ → Conn → Conn → List Note → List Note → step_act.Act → Type 0
RestsAs waits s c base new before after did = RestsBy (cut_by waits base) s c base new before after did

abbrev pub GoesOrRests : code_setup.Setup → ℕ → Conn → Conn → List Note → List Note → step_act.Act → Type 0
GoesOrRests s c base new before after did = (did ≡ done.Goes) ⊎ ((waits : Bool) × RestsAs waits s c base new before after did)

module _ (s : code_setup.Setup) (c : ℕ) (base new : Conn) (before after : List Note) (did : step_act.Act) where
  pub refuses_or : (x : Bool) (f : HttpFault) → RefusesBy x f s c base new before after did → GoesOrRests s c base new before after did
  refuses_or true f k = inl k.0
  refuses_or false f k = inl k.0

  request_or : (n : ℕ) (r : Result Request HttpFault) → RequestBy r n s c base new before after did → GoesOrRests s c base new before after did
  request_or n (Ok r) k = inl k.0
  request_or n (Err f) k = refuses_or (is_answered Client f) f k

  pub tells_or : TellsToGoOn s c base new before after did → GoesOrRests s c base new before after did
  tells_or k = by_test (client_room base) k
    where
      by_test : (x : Bool) → MatchBool x ((did ≡ done.Goes) × SendsClient continue_text (asked_stage base.ends.link base.host) base new × (after ≡ before)) (Rests s c base new before after did) → GoesOrRests s c base new before after did
      by_test true k = inl k.0
      by_test false k = inr (false, k)

  pub front_or : (p : Part) → DropsBy p s c base new before after did → GoesOrRests s c base new before after did
  front_or Byte k = absurd k
  front_or (Chunk line size) k = absurd k
  front_or (End n) k = inl k.0
  front_or Pending k = inr (false, k)
  front_or (Bad f) k = refuses_or (is_answered Client f) f k

  pub head_or : (p : HeadPart) → HeadBy p s c base new before after did → GoesOrRests s c base new before after did
  head_or (HeadOf n) k = request_or n (request_of (take n base.ends.client.unread)) k
  head_or StreamEnds k = inl k.0
  head_or (Faulty f) k = refuses_or (is_answered Client f) f k
  head_or NoHead k = inr (false, k)

  -- messages
  ends_or : (side : Side) (standing : Bool) (n : ℕ) (x : Bool) → EndsBy x side standing n s c base new before after did → GoesOrRests s c base new before after did
  ends_or side standing n true k = inl k.0
  ends_or side standing n false k = by_room (ends_room side base.ends) k
    where
      by_room : (r : Bool) → MatchBool r ((did ≡ done.Goes) × Becomes (message_stage side base.host) (moved_as side n (last_line standing) base.ends) base new × (after ≡ before)) (Rests s c base new before after did) → GoesOrRests s c base new before after did
      by_room true k = inl k.0
      by_room false k = inr (false, k)

  part_or : (side : Side) (reader : BodyState) (standing : Bool) (p : Part) → FrontBy p side reader standing s c base new before after did → GoesOrRests s c base new before after did
  part_or side reader standing Byte k = inr (false, k.1)
  part_or side reader standing (Chunk line size) k = inr (false, k.1)
  part_or side reader standing (End n) k = ends_or side standing n (is_counted reader) k
  part_or side reader standing Pending k = inr (is_server side, k)
  part_or side reader standing (Bad f) k = refuses_or (is_answered side f) f k

  pub heading_or : (side : Side) → SendsHead side s c base new before after did → GoesOrRests s c base new before after did
  heading_or side k = by_room (ends_room side base.ends) k
    where
      by_room : (r : Bool) → MatchBool r ((did ≡ done.Goes) × Becomes (headed_stage side base.host (http_in base.host).whole) (moved_as side 0 (head_bytes side (http_in base.host)) base.ends) base new × (after ≡ before)) (Rests s c base new before after did) → GoesOrRests s c base new before after did
      by_room true k = inl k.0
      by_room false k = inr (false, k)

  status_or : (n : ℕ) (r : Response) (x y : Bool) → StatusBy x y n r s c base new before after did → GoesOrRests s c base new before after did
  status_or n r true y k = inl k.0
  status_or n r false true k = inr (false, k.1)
  status_or n r false false k = inl k.0

  answer_or : (x : Answer) → AnswerBy x s c base new before after did → GoesOrRests s c base new before after did
  answer_or (answer.Head n r) k = status_or n r (switches r) (is_interim r.head) k
  answer_or answer.Ends k = inl k.0
  answer_or (answer.Fault f) k = inl k.0
  answer_or answer.NoHead k = inr (true, k)

pub forwards_or : (s : code_setup.Setup) (c : ℕ) (old new : Conn) (before after : List Note) (did : step_act.Act) (side : Side) (reader : BodyState) (standing : Bool) (k : ForwardsBody side reader standing s c old new before after did) → GoesOrRests s c (passed_to side k.to old) new before after did
forwards_or s c old new before after did side reader standing k = part_or s c (passed_to side k.to old) new before after did side k.to.at.reader k.to.at.standing (part_at side k.to) k.goes

pub answers_or : (s : code_setup.Setup) (c : ℕ) (old new : Conn) (before after : List Note) (did : step_act.Act) (k : ReadsResponse s c old new before after did) → GoesOrRests s c (with_ends k.to old) new before after did
answers_or s c old new before after did k = answer_or s c (with_ends k.to old) new before after did (answer_of (http_in old.host).came k.to.server) k.goes

pub drops_or : (s : code_setup.Setup) (c : ℕ) (reader : BodyState) (old new : Conn) (before after : List Note) (did : step_act.Act) (k : DropsBody reader s c old new before after did) → GoesOrRests s c (dropped k.left k.size old) new before after did
drops_or s c reader old new before after did k = front_or s c (dropped k.left k.size old) new before after did (left_front reader s c old new before after did k) k.goes
