-- What one connection does, one thing after another, and the one table of what each of them shows.
use Rattle.std.specs.Prelude.{ℕ, ◌+◌, List, [], ◌∷◌, length, Bool, false, Option, Some, None}
use Rattle.std.specs.Prelude.{nat_eq, if◌then◌else◌}
use Rattle.std.specs.List.{flat_map}
use Rattle.px_bytes.specs.declared.addr.Addr.{Addr}
use Rattle.px_bytes.specs.declared.addr.Side.{Side}
use Rattle.px_bytes.specs.declared.fault.FaultKind.{FaultKind}
use Rattle.event_order.specs.declared.event.EventName.{EventName}
use Rattle.core_events.specs.declared.note.Cause.{Cause}
use Rattle.core_events.specs.declared.note.Cause.TheVariants as cause
use Rattle.core_events.specs.declared.note.CutReason.{CutReason}
use Rattle.px_bytes.specs.declared.fault.HttpFault.{HttpFault}
use Rattle.core_events.specs.declared.note.Note.{Note}
use Rattle.core_events.specs.declared.note.Note.TheVariants as note

-- A place where a connection goes on only if the other ends took enough: before the bodies of an
-- event, before bytes that came from a side are passed on, before a new server connection.
pub data Gate : Type 0 where
  BeforeBodies : Gate
  BeforePassing : Side → Gate
  BeforeConnect : Gate

-- where bytes go to: the client, or the server connection of a number, the first being 1
pub data Peer : Type 0 where
  ToClient : Peer
  ToServer : ℕ → Peer

-- why a trace finishes: never for want of memory
pub data Reason : Type 0 where
  -- both ends closed, or a rule closed it
  Closed : Reason
  -- a fault that no body caught
  Tcl : FaultKind → Reason
  -- a message that could not be read
  Http : HttpFault → Reason
  -- no server could be selected
  Unselected : Reason
  -- a rule rejected it
  Rejected : Reason
  -- it was cut from outside
  CutBy : CutReason → Reason

abbrev pub cause_of : Reason → Cause
cause_of Closed = cause.Closed
cause_of (Tcl kind) = cause.Tcl kind
cause_of (Http fault) = cause.Http fault
cause_of Unselected = cause.Unselected
cause_of Rejected = cause.Rejected
cause_of (CutBy reason) = cause.Cut reason

-- what was recorded of choices that the streams leave open
pub data Choice : Type 0 where
  -- so many bytes of a side are passed on
  PassesOn : Side → ℕ → Choice
  -- a collect of a side is met
  Fires : Side → Choice
  -- whether the server connection is used again
  Reuses : Bool → Choice

pub data Item : Type 0 where
  -- it came through a gate
  Opened : Gate → Item
  -- it took a reply, or made a choice of its own
  Resumed : Item
  -- it took the answer whether a server connection was made
  Answered : Bool → Item
  -- it read bytes of a side's stream
  Read : Side → ℕ → Item
  -- it moved bytes on, of which it read so many from a side; the others were released
  Moved : Side → ℕ → Peer → List ℕ → Item
  -- it took the recorded choice to pass bytes of a side on
  Passed : Side → Peer → List ℕ → Item
  -- it took the recorded choice that a collect of a side is met, and read its bytes
  Fired : Side → ℕ → Item
  -- it took the recorded answer whether the server connection is used again
  Reused : Bool → Item
  -- it gave its server connection up
  Retires : Item
  -- a body made a shared call
  Called : List (List ℕ) → Item
  -- it asked for a server connection
  Connected : Addr → Item
  Logged : List ℕ → Item
  -- it sent bytes
  Sent : Peer → List ℕ → Item
  -- a body of the event ended, at this cost
  Ran : EventName → (cost : ℕ) → Item
  -- it finishes
  Finished : Reason → Item

-- so many bytes of a side's stream
pub record Taking : Type 0 where
  pub side : Side
  pub amount : ℕ

pub record Sending : Type 0 where
  pub peer : Peer
  pub bytes : List ℕ

-- What an item shows: the gate that it stands behind; what it reads and sends; whether it begins a
-- server connection; its note, by the connection's number; the shared call, the recorded choice and
-- the reason to finish that it holds; what it cost.
pub record Shown : Type 0 where
  pub guard : Option Gate
  pub reads : Option Taking
  pub sends : Option Sending
  pub renews : Bool
  pub note : Option (ℕ → Note)
  pub call : Option (List (List ℕ))
  pub choice : Option Choice
  pub reason : Option Reason
  pub cost : ℕ

abbrev pub quiet : Shown
quiet = record {
  guard = None;
  reads = None;
  sends = None;
  renews = false;
  note = None;
  call = None;
  choice = None;
  reason = None;
  cost = 0;
}

abbrev taking : Side → ℕ → Option Taking
taking side n = Some (record { side = side; amount = n })

abbrev sending : Peer → List ℕ → Option Sending
sending peer bytes = Some (record { peer = peer; bytes = bytes })

abbrev pub shown : Item → Shown
shown (Opened gate) = record quiet { guard = Some gate }
shown Resumed = quiet
shown (Answered made) = record quiet { renews = made }
shown (Read side n) = record quiet { reads = taking side n }
shown (Moved from n to bytes) = record quiet {
  guard = Some (BeforePassing from);
  reads = taking from n;
  sends = sending to bytes;
}
shown (Passed from to bytes) = record quiet {
  guard = Some (BeforePassing from);
  reads = taking from (length bytes);
  sends = sending to bytes;
  note = Some (λ c. note.Pass c from (length bytes));
  choice = Some (PassesOn from (length bytes));
}
shown (Fired side n) = record quiet {
  reads = taking side n;
  note = Some (λ c. note.Fired c side);
  choice = Some (Fires side);
}
shown (Reused kept) = record quiet {
  note = Some (λ c. note.Reuse c kept);
  choice = Some (Reuses kept);
}
shown Retires = quiet
shown (Called call) = record quiet { call = Some call }
shown (Connected to) = record quiet {
  guard = Some BeforeConnect;
  note = Some (λ c. note.Connect c to);
}
shown (Logged text) = record quiet { note = Some (λ c. note.Log c text) }
shown (Sent to bytes) = record quiet { sends = sending to bytes }
shown (Ran event cost) = record quiet { cost = cost }
shown (Finished reason) = record quiet {
  note = Some (λ c. note.Finish c (cause_of reason));
  reason = Some reason;
}

-- one thing or none
abbrev pub listed : {A : Type 0} → Option A → List A
listed None = []
listed (Some a) = a ∷ []

abbrev pub bytes_to_client : Peer → List ℕ → List ℕ
bytes_to_client ToClient bytes = bytes
bytes_to_client (ToServer k) bytes = []

abbrev pub bytes_to_server : ℕ → Peer → List ℕ → List ℕ
bytes_to_server k ToClient bytes = []
bytes_to_server k (ToServer j) bytes = if nat_eq j k then bytes else []

abbrev pub client_part : Option Sending → List ℕ
client_part None = []
client_part (Some s) = bytes_to_client s.peer s.bytes

abbrev pub server_part : ℕ → Option Sending → List ℕ
server_part k None = []
server_part k (Some s) = bytes_to_server k s.peer s.bytes

-- the bytes that an item sends to the client, and to the server connection of this number
abbrev pub to_client : Item → List ℕ
to_client i = client_part (shown i).sends

abbrev pub to_server : ℕ → Item → List ℕ
to_server k i = server_part k (shown i).sends

-- all that items send to the client, and to the server connection of this number
abbrev pub client_output : List Item → List ℕ
client_output items = flat_map to_client items

abbrev pub server_output : ℕ → List Item → List ℕ
server_output k items = flat_map (to_server k) items

abbrev pub noted : ℕ → Option (ℕ → Note) → List Note
noted c None = []
noted c (Some said) = said c ∷ []

-- the note that shows an item of connection c; some items aren't noted
abbrev pub note_of : ℕ → Item → List Note
note_of c i = noted c (shown i).note

abbrev pub notes_of : ℕ → List Item → List Note
notes_of c items = flat_map (note_of c) items

-- the recorded choices that items took, the shared calls that they made, why they finish
abbrev pub choices_in : List Item → List Choice
choices_in items = flat_map (λ i. listed (shown i).choice) items

abbrev pub calls_in : List Item → List (List (List ℕ))
calls_in items = flat_map (λ i. listed (shown i).call) items

abbrev pub reasons_in : List Item → List Reason
reasons_in items = flat_map (λ i. listed (shown i).reason) items

-- what the bodies that ended cost, together
abbrev pub cost_in : List Item → ℕ
cost_in [] = 0
cost_in (i ∷ items) = (shown i).cost + cost_in items
