-- What was heard of a connection, and where its trace begins on it.
use Rattle.std.specs.Prelude.{ℕ, ◌+◌, List, [], ◌∷◌, ◌++◌, map, Bool, true, false, ◌||◌}
use Rattle.std.specs.Prelude.{Option, Some, None, nat_eq, if◌then◌else◌}
use Rattle.px_bytes.specs.declared.addr.Addr.{Addr}
use Rattle.px_bytes.specs.declared.addr.Side.{Side}
use Rattle.px_bytes.specs.declared.addr.Side.TheVariants.{Client, Server}
use Rattle.px_bytes.specs.declared.fault.Reply.{Reply}
use Rattle.core_events.specs.declared.edges.Edges.{Edges}
use Rattle.core_events.specs.declared.note.Note.{Note}
use Rattle.core_events.specs.declared.event_kind.EventKind.{EventKind}
use Rattle.core_events.specs.declared.event_kind.EventKind.TheVariants.{Accepts, Comes}
use Rattle.core_events.specs.declared.input.Input.{Input}
use Rattle.core_events.specs.declared.input.Input.TheVariants.{Bytes, Ends, Resets}
use Rattle.core_events.specs.declared.input.Input.TheVariants.{Connects, Takes}
use Rattle.conn_trace.specs.Item.{Choice}
use Rattle.conn_trace.specs.Gates.{TakenCounts}
use Rattle.conn_trace.specs.Setup.{Setup}
use Rattle.conn_trace.specs.State.{Stream, Cut, TraceState}
use Rattle.conn_trace.specs.Trace.{start}
use Rattle.conn_trace.specs.Further.{Coming, nothing_comes, Further, first_cut}
use Rattle.core_events.specs.Edges.{no_edges, accepted_edges, edge_ends, edge_resets}
use Rattle.core_events.specs.Edges.{answered_edge, edges_noted}
use Rattle.conn_trace.specs.Tellings.{NoteTells, own, notes_about, replies_told}
use Rattle.conn_trace.specs.Tellings.{choices_told, cut_told, finish_told, failure_told}

-- a side: what came of it, whether it ended or was reset, and how much it took
pub record SideHeard : Type 0 where
  pub bytes : List ℕ
  pub ended : Bool
  pub reset : Bool
  pub took : ℕ

-- by which virtual server a connection was accepted, and from where
pub record Accepted : Type 0 where
  pub virtual : List ℕ
  pub from : Addr

-- What was heard of a connection: its accept; its client; the answers to its connects, the oldest
-- first, each with what was heard of that connection; whether its last server connection was made
-- behind the finish, of which nothing is heard; by its notes the replies, the choices, the cut, whether it
-- has finished, and whether for want of memory; the notes, the oldest first; and where its ends stand.
pub record Heard : Type 0 where
  pub accepted : Option Accepted
  pub client : SideHeard
  pub connects : List (Option SideHeard)
  pub late : Bool
  pub replies : List Reply
  pub choices : List Choice
  pub cut : Option Cut
  pub finished : Bool
  pub failed : Bool
  pub notes : List Note
  pub edges : Edges

abbrev pub fresh_side : SideHeard
fresh_side = record { bytes = []; ended = false; reset = false; took = 0 }

abbrev pub nothing_heard : Heard
nothing_heard = record {
  accepted = None;
  client = fresh_side;
  connects = [];
  late = false;
  replies = [];
  choices = [];
  cut = None;
  finished = false;
  failed = false;
  notes = [];
  edges = no_edges;
}

-- a side that was reset counts as having taken all
abbrev pub taken_by : Bool → ℕ → Option ℕ
taken_by true n = None
taken_by false n = Some n

abbrev pub side_taken : SideHeard → Option ℕ
side_taken s = taken_by s.reset s.took

abbrev pub servers_taken : List (Option SideHeard) → List (Option ℕ)
servers_taken [] = []
servers_taken (None ∷ more) = servers_taken more
servers_taken (Some s ∷ more) = side_taken s ∷ servers_taken more

abbrev pub taken : Heard → TakenCounts
taken h = record { client = side_taken h.client; servers = servers_taken h.connects }

-- what comes of a stream; behind its end nothing comes
abbrev pub hears_by : Bool → Coming → SideHeard → SideHeard
hears_by true c s = s
hears_by false c s = record s { bytes = s.bytes ++ c.bytes; ended = c.ended }

abbrev pub hears_more : Coming → SideHeard → SideHeard
hears_more c s = hears_by s.ended c s

abbrev pub has_made : List (Option SideHeard) → Bool
has_made [] = false
has_made (None ∷ more) = has_made more
has_made (Some s ∷ more) = true

-- of the last server connection
abbrev pub at_last :
    (SideHeard → SideHeard) → List (Option SideHeard) → List (Option SideHeard)
at_last f [] = []
at_last f (None ∷ more) = None ∷ at_last f more
at_last f (Some s ∷ more) = Some (if has_made more then s else f s) ∷ at_last f more

-- unless the last one was made behind the finish
abbrev pub unless_late :
    Bool → (SideHeard → SideHeard) → List (Option SideHeard) → List (Option SideHeard)
unless_late true f connects = connects
unless_late false f connects = at_last f connects

abbrev pub answer : Bool → Option SideHeard
answer true = Some fresh_side
answer false = None

-- what an input brings to the streams and connects
pub record Brought : Type 0 where
  pub client : Coming
  pub server : Coming
  pub connects : List (Option SideHeard)

abbrev pub brought_nothing : Brought
brought_nothing = record { client = nothing_comes; server = nothing_comes; connects = [] }

abbrev for_side : Side → Coming → Brought
for_side Client c = record brought_nothing { client = c }
for_side Server c = record brought_nothing { server = c }

abbrev pub brings_in : Input → Brought
brings_in (Bytes side bytes) = for_side side (record { bytes = bytes; ended = false })
brings_in (Ends side) = for_side side (record { bytes = []; ended = true })
brings_in (Connects made) = record brought_nothing { connects = answer made ∷ [] }
brings_in other = brought_nothing

-- what an event brings to connection c
abbrev pub event_brings : ℕ → EventKind → Brought
event_brings c (Comes d input) = if nat_eq d c then brings_in input else brought_nothing
event_brings c other = brought_nothing

abbrev resets : SideHeard → SideHeard
resets s = record s { reset = true }

abbrev takes : ℕ → SideHeard → SideHeard
takes n s = record s { took = s.took + n }

abbrev at_side : Side → (SideHeard → SideHeard) → Heard → Heard
at_side Client f h = record h { client = f h.client }
at_side Server f h = record h { connects = unless_late h.late f h.connects }

-- what an input changes beside
abbrev pub marks : Input → Heard → Heard
marks (Resets side) h = at_side side resets h
marks (Takes side n) h = at_side side (takes n) h
marks other h = h

abbrev pub accepts : List ℕ → Addr → Heard → Heard
accepts virtual from h =
    record h { accepted = Some (record { virtual = virtual; from = from }) }

abbrev pub event_marks : ℕ → EventKind → Heard → Heard
event_marks c (Accepts d virtual from) h = if nat_eq d c then accepts virtual from h else h
event_marks c (Comes d input) h = if nat_eq d c then marks input h else h
event_marks c other h = h

-- streams and connects end with the group that has the first Finish
abbrev pub brought : ℕ → Heard → EventKind → List Note → Brought
brought c h v group =
    if h.finished || finish_told (notes_about c group) then brought_nothing
    else event_brings c v

-- whether a server connection was made behind the finish
abbrev pub late_by : Input → Bool → Bool
late_by (Connects made) late = made
late_by other late = late

abbrev pub event_late : ℕ → EventKind → Bool → Bool
event_late c (Comes d input) late = if nat_eq d c then late_by input late else late
event_late c other late = late

abbrev pub late_after : ℕ → Heard → EventKind → List Note → Bool
late_after c h v group =
    if h.finished || finish_told (notes_about c group) then event_late c v h.late else h.late

abbrev pub hear_brought : Brought → Heard → Heard
hear_brought b h = record h {
  client = hears_more b.client h.client;
  connects = at_last (hears_more b.server) h.connects ++ b.connects;
}

abbrev pub hear_tellings : List NoteTells → Heard → Heard
hear_tellings tellings h = record h {
  replies = h.replies ++ replies_told tellings;
  choices = h.choices ++ choices_told tellings;
  cut = first_cut h.cut (cut_told (taken h) tellings);
  finished = h.finished || finish_told tellings;
  failed = h.failed || failure_told tellings;
}

abbrev pub hear_notes : ℕ → List Note → Heard → Heard
hear_notes c group h =
    record (hear_tellings (notes_about c group) h) { notes = h.notes ++ own c group }

-- what an event and its group of notes tell of connection c, before its notes are heard
abbrev pub hears_event : ℕ → Heard → EventKind → List Note → Heard
hears_event c h v group = hear_brought (brought c h v group) (event_marks c v h)

-- where an input puts the ends of its connection
abbrev pub edges_met : Input → Edges → Edges
edges_met (Bytes side bytes) e = e
edges_met (Ends side) e = edge_ends side e
edges_met (Resets side) e = edge_resets side e
edges_met (Connects made) e = record e { server = answered_edge made }
edges_met (Takes side n) e = e

abbrev pub event_edges : ℕ → EventKind → Edges → Edges
event_edges c (Accepts d virtual from) e = if nat_eq d c then accepted_edges else e
event_edges c (Comes d input) e = if nat_eq d c then edges_met input e else e
event_edges c other e = e

-- where an event and its group put the ends of connection c
abbrev pub edges_after : ℕ → EventKind → List Note → Edges → Edges
edges_after c v group e = edges_noted (own c group) (event_edges c v e)

-- what connection c hears of an event and its group of notes
abbrev pub hears : ℕ → Heard → EventKind → List Note → Heard
hears c h v group = record (hear_notes c group (hears_event c h v group)) {
  late = late_after c h v group;
  edges = edges_after c v group h.edges;
}

abbrev pub as_stream : SideHeard → Stream
as_stream s = record { unread = s.bytes; ended = s.ended }

abbrev pub as_answer : Option SideHeard → Option Stream
as_answer None = None
as_answer (Some s) = Some (as_stream s)

-- where the trace begins on what was heard
abbrev pub start_of : Setup → Heard → TraceState
start_of g h = start g (as_stream h.client) (record {
  replies = h.replies;
  connects = map as_answer h.connects;
  choices = h.choices;
  cut = h.cut;
})

-- what an event and its group add
abbrev pub further_of : ℕ → Heard → EventKind → List Note → Further
further_of c h v group =
    let b = brought c h v group in
    let tellings = notes_about c group in
    record {
      client = b.client;
      server = b.server;
      connects = map as_answer b.connects;
      replies = replies_told tellings;
      choices = choices_told tellings;
      cut = cut_told (taken (hears_event c h v group)) tellings;
    }
