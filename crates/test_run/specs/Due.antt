-- What goes on by itself: the core until it is settled, then servers' answers, then what sides take.
use Rattle.std.specs.Prelude.{◌≡◌, ℕ, ◌+◌, ◌<◌, ◌==◌, ◌&&◌, ◌-◌, Bool, true, false, List, [], ◌∷◌, length, min, Option, Some, None}
use Rattle.std.specs.Prelude.{if◌then◌else◌}
use Rattle.std.specs.List.{All}
use Rattle.core_events.specs.declared.event.Event.TheVariants as event
use Rattle.core_events.specs.Face.{Face}
use Rattle.px_bytes.specs.declared.addr.Addr.{Addr}
use Rattle.px_bytes.specs.declared.addr.Side.{Side}
use Rattle.px_bytes.specs.declared.addr.Side.TheVariants.{Client, Server}
use Rattle.test_past.specs.Got.{same_side}
use Rattle.test_past.specs.Standing.{asked_from}
use Rattle.test_past.specs.declared.entry.ClientConn.{ClientConn}
use Rattle.test_past.specs.declared.entry.RunEntry.{RunEntry}
use Rattle.test_past.specs.declared.entry.RunEntry.TheVariants.{Took, Rests}
use Rattle.test_run.specs.Known.{amount_from, answer_of, meeting_from}
use Rattle.test_run.specs.Stand.{Gives, Refuses, RefusesTake, Stand, Takes}
use Rattle.test_run.specs.declared.due.Due.{Due}
use Rattle.test_run.specs.declared.due.Due.TheVariants as due
use Rattle.test_run.specs.declared.known.Meets.{Meets}
use Rattle.test_run.specs.declared.rest.MoveEnd.{MoveEnd}
use Rattle.test_run.specs.declared.rest.MoveEnd.TheVariants.{Made, Refused, Restless}
use Rattle.test_text.specs.declared.deed.Meeting.TheVariants.{Connects}

-- ---- answers

-- how a server that was asked answers, by the last line of its address
abbrev pub answer_by : Option Addr → List Meets → Option Bool
answer_by None meets = None
answer_by (Some addr) meets = answer_of (meeting_from addr Connects meets)

abbrev pub answer_if : (waits : Bool) → ℕ → {S : Type 0} → Stand S → Option Bool
answer_if waits conn s = if waits then answer_by (asked_from conn None s.entries) s.known.meets else None

-- the answer to a connection's connect that is due
pub record Answers {S : Type 0} (face : Face S) (s : Stand S) (conn : ℕ) (o : Option Bool) : Type 0 where
  pub waits : Bool
  pub connecting : face.connecting s.core conn waits
  pub answer_is : o ≡ answer_if waits conn s

abbrev pub AnswersNone : {S : Type 0} → Face S → Stand S → ClientConn → Type 0
AnswersNone face s one = Answers face s one.conn None

-- ---- what a side takes

-- how many bytes a side may take yet behind this step, of at most so many
abbrev pub left_behind : Side → ℕ → (most : ℕ) → RunEntry → ℕ → ℕ
left_behind side conn most Rests left = most
left_behind side conn most (Took c of bytes) left = if (c == conn) && same_side of side then left - length bytes else left
left_behind side conn most other left = left

abbrev pub left_from : Side → ℕ → (most left : ℕ) → List RunEntry → ℕ
left_from side conn most left [] = left
left_from side conn most left (x ∷ xs) = left_from side conn most (left_behind side conn most x left) xs

-- how many of so many bytes
abbrev pub take_count : Option ℕ → Side → ℕ → List RunEntry → ℕ → ℕ
take_count None side conn entries pending = pending
take_count (Some most) side conn entries pending = min pending (left_from side conn most most entries)

-- so many bytes are what a side is to take
pub record Pending {S : Type 0} (face : Face S) (s : Stand S) (side : Side) (one : ClientConn) (n : ℕ) : Type 0 where
  pub bytes : List ℕ
  pub queue : face.queue s.core one.conn side bytes
  pub count : n ≡ take_count (amount_from side one.client None s.known.amounts) side one.conn s.entries (length bytes)

-- neither side is to take any
pub record TakesNone {S : Type 0} (face : Face S) (s : Stand S) (one : ClientConn) : Type 0 where
  pub client : Pending face s Client one 0
  pub server : Pending face s Server one 0

-- ---- what is due

-- the connection that is ready for the longest time goes on; where none is, a shared call is answered
abbrev pub InsideDue : {S : Type 0} → Face S → Stand S → Due → Type 0
InsideDue face s due.Runs = (conn : ℕ) × face.ready s.core (Some conn)
InsideDue face s due.Turns = face.ready s.core None
InsideDue face s other = ⊥

-- so many bytes are to be taken, and some are
pub record IsTake {S : Type 0} (face : Face S) (s : Stand S) (side : Side) (conn n : ℕ) : Type 0 where
  pub one : ClientConn
  pub of_one : conn ≡ one.conn
  pub pending : Pending face s side one n
  pub some : 0 < n

abbrev pub IsDue : {S : Type 0} → Face S → Stand S → Due → Type 0
IsDue face s due.Runs = face.settled s.core false × InsideDue face s due.Runs
IsDue face s due.Turns = face.settled s.core false × InsideDue face s due.Turns
IsDue face s (due.Answers conn made) = Answers face s conn (Some made)
IsDue face s (due.Takes side conn n) = IsTake face s side conn n

-- Nothing is due: the core is settled, no connect is to be answered, and no side is to take a byte.
pub record IsAtRest {S : Type 0} (face : Face S) (s : Stand S) : Type 0 where
  pub settled : face.settled s.core true
  pub answered : All (AnswersNone face s) s.known.came
  pub taken : All (TakesNone face s) s.known.came

-- ---- what it does

abbrev pub Answering : {S : Type 0} → Face S → ℕ → (made : Bool) → Stand S → Stand S → Type 0
Answering face conn true a b = Gives face (event.Connected conn) a b
Answering face conn false a b = Gives face (event.Refused conn) a b

abbrev pub DoesDue : {S : Type 0} → Face S → Due → Stand S → Stand S → Type 0
DoesDue face due.Runs a b = Gives face event.Run a b
DoesDue face due.Turns a b = Gives face event.Turn a b
DoesDue face (due.Answers conn made) a b = Answering face conn made a b
DoesDue face (due.Takes side conn n) a b = Takes face side conn n a b

-- what is due is done, one behind the other
pub data Goes {S : Type 0} (face : Face S) : Stand S → Stand S → Type 0 where
  Stays : {a : Stand S} → Goes face a a
  Then : {a c : Stand S} → (b : Stand S) (d : Due) → Goes face a b → IsDue face b d → DoesDue face d b c → Goes face a c

-- how many events were due and done
abbrev pub event_count : {S : Type 0} {face : Face S} {a b : Stand S} → Goes face a b → ℕ
event_count Stays = 0
event_count (Then b d before is does) = event_count before + 1

-- ---- how a rest ends

abbrev pub made_if : (taken : Bool) → MoveEnd
made_if true = Made
made_if false = Refused

-- the most events of one rest
abbrev pub most_events : ℕ
most_events = 1048576

-- what is due is done until nothing is, which fewer events than the most come to
pub record ComesToRest {S : Type 0} (face : Face S) (a b : Stand S) : Type 0 where
  pub goes : Goes face a b
  pub few : event_count goes < most_events
  pub at_rest : IsAtRest face b

abbrev pub RefusesAnswer : {S : Type 0} → Face S → ℕ → (made : Bool) → Stand S → Stand S → Type 0
RefusesAnswer face conn true a b = Refuses face (event.Connected conn) a b
RefusesAnswer face conn false a b = Refuses face (event.Refused conn) a b

abbrev pub RefusesDue : {S : Type 0} → Face S → Due → Stand S → Stand S → Type 0
RefusesDue face due.Runs a b = Refuses face event.Run a b
RefusesDue face due.Turns a b = Refuses face event.Turn a b
RefusesDue face (due.Answers conn made) a b = RefusesAnswer face conn made a b
RefusesDue face (due.Takes side conn n) a b = RefusesTake face side conn n a b

-- or until what is due is refused
pub record RestRefused {S : Type 0} (face : Face S) (a b : Stand S) : Type 0 where
  pub between : Stand S
  pub goes : Goes face a between
  pub few : event_count goes < most_events
  pub it : Due
  pub is_due : IsDue face between it
  pub refuses : RefusesDue face it between b

-- or the most events are given
pub record IsRestless {S : Type 0} (face : Face S) (a b : Stand S) : Type 0 where
  pub goes : Goes face a b
  pub most : event_count goes ≡ most_events

abbrev pub RestEnds : {S : Type 0} → Face S → MoveEnd → Stand S → Stand S → Type 0
RestEnds face Made a b = ComesToRest face a b
RestEnds face Refused a b = RestRefused face a b
RestEnds face Restless a b = IsRestless face a b
