-- The notes of an event fit where the ends of their connection stand.
use Rattle.std.specs.Prelude.{◌≡◌, ℕ, List, [], ◌∷◌, Bool, true, ◌&&◌, not, None}
use Rattle.core_events.specs.declared.edges.Edges.{Edges}
use Rattle.core_events.specs.declared.note.Note.{Note}
use Rattle.core_events.specs.declared.note.Note.TheVariants as note
use Rattle.core_events.specs.Edges.{edge_of, edges_by}
use Rattle.conn_trace.specs.Heard.{event_edges}
use Rattle.conn_trace.specs.Tellings.{own}
use Rattle.proxy_core.specs.Moves.{Leads, Moves}
use Rattle.core_events.specs.Kinds.{kind_of}
use Rattle.record_model.specs.Past.{Happened, Past, heard}
use Rattle.proxy_core.specs.Refusal.{refused}
use Rattle.proxy_core.specs.Scheduler.{State}
use Rattle.proxy_core.specs.Servers.{is_free, is_used}
use Rattle.run_config.specs.declared.config.Config.{Config}

-- A server is asked for where there is none. A link that sends no more or is closed is there, and
-- that it sends no more wasn't told before.
abbrev pub fits : Note → Edges → Bool
fits (note.Connect c to) e = is_free e.server.state
fits (note.HalfClose c side) e = is_used (edge_of side e).state && not (edge_of side e).half
fits (note.CloseServer c) e = is_used e.server.state
fits (note.CloseClient c) e = is_used e.client.state
fits other e = true

-- each note, where those before it put them
abbrev pub Fit : List Note → Edges → Type 0
Fit [] e = Unit {0}
Fit (n ∷ notes) e = (fits n e ≡ true) × Fit notes (edges_by n e)

-- for each connection, behind every past
abbrev pub NotesFitEdges : Type 0
NotesFitEdges =
    (C : Config) (past : Past) (s : State) (x : Happened) (next : State) → Leads C past s
    → refused C past s (kind_of x.event) ≡ None → Moves C past x s next
    → (c : ℕ) → Fit (own c x.group) (event_edges c (kind_of x.event) (heard c past).edges)
