-- Where the two ends of a connection stand for the outside, by what comes of it and by its notes.
use Rattle.std.specs.Prelude.{List, [], ◌∷◌, Bool, true, false, ◌&&◌, ◌||◌, not}
use Rattle.px_bytes.specs.declared.addr.Side.{Side}
use Rattle.px_bytes.specs.declared.addr.Side.TheVariants.{Client, Server}
use Rattle.core_events.specs.declared.edges.Edge.{Edge}
use Rattle.core_events.specs.declared.edges.Edges.{Edges}
use Rattle.core_events.specs.declared.edges.EdgeState.{EdgeState}
use Rattle.core_events.specs.declared.edges.EdgeState.TheVariants as state
use Rattle.core_events.specs.declared.note.Note.{Note}
use Rattle.core_events.specs.declared.note.Note.TheVariants as note

-- nothing came of it yet
abbrev pub edge : EdgeState → Edge
edge s = record { state = s; ended = false; reset = false; half = false }

abbrev pub no_edges : Edges
no_edges = record { client = edge state.Absent; server = edge state.Absent }

abbrev pub accepted_edges : Edges
accepted_edges = record { client = edge state.Open; server = edge state.Absent }

abbrev pub edge_of : Side → Edges → Edge
edge_of Client e = e.client
edge_of Server e = e.server

abbrev pub with_edge : Side → Edge → Edges → Edges
with_edge Client x e = record e { client = x }
with_edge Server x e = record e { server = x }

-- it ends; it is reset; what is sent to it ends; it is closed
abbrev pub edge_ends : Side → Edges → Edges
edge_ends side e = with_edge side (record (edge_of side e) { ended = true }) e

abbrev pub edge_resets : Side → Edges → Edges
edge_resets side e = with_edge side (record (edge_of side e) { reset = true }) e

abbrev pub half_closes : Side → Edges → Edges
half_closes side e = with_edge side (record (edge_of side e) { half = true }) e

abbrev pub edge_closes : Side → Edges → Edges
edge_closes side e = with_edge side (record (edge_of side e) { state = state.Closed }) e

-- whether the server that was asked for took the connection
abbrev pub answered_edge : Bool → Edge
answered_edge true = edge state.Open
answered_edge false = edge state.Absent

-- what a note of the connection says of them
abbrev pub edges_by : Note → Edges → Edges
edges_by (note.Connect c to) e = record e { server = edge state.Connecting }
edges_by (note.HalfClose c side) e = half_closes side e
edges_by (note.CloseServer c) e = edge_closes Server e
edges_by (note.CloseClient c) e = edge_closes Client e
edges_by other e = e

abbrev pub edges_noted : List Note → Edges → Edges
edges_noted [] e = e
edges_noted (n ∷ notes) e = edges_noted notes (edges_by n e)

abbrev pub is_open : EdgeState → Bool
is_open state.Open = true
is_open other = false

abbrev pub is_connecting : EdgeState → Bool
is_connecting state.Connecting = true
is_connecting other = false

-- bytes or an end may come of it: it is open, and neither ended nor reset
abbrev pub may_send : Edge → Bool
may_send x = is_open x.state && not (x.ended || x.reset)

-- a reset of it or a took-count may come: it is open and wasn't reset
abbrev pub may_take : Edge → Bool
may_take x = is_open x.state && not x.reset
