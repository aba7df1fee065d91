-- Where notes put the ends of a connection.
use Rattle.std.proofs.Common.{◌≡◌, refl, ap, ◌∙◌, ℕ, List, [], ◌∷◌, ◌++◌, if◌then◌else◌}
use Rattle.core_events.specs.declared.edges.Edges.{Edges}
use Rattle.core_events.specs.declared.note.Note.{Note}
use Rattle.core_events.specs.Edges.{edges_by, edges_noted}
use Rattle.core_events.specs.declared.event_kind.EventKind.{EventKind}
use Rattle.core_events.specs.declared.event_kind.EventKind.TheVariants.{Comes}
use Rattle.core_events.specs.declared.input.Input.{Input}
use Rattle.conn_trace.specs.Heard.{Heard, edges_met, event_edges, hears}
use Rattle.proxy_core.proofs.GroupNotes.{About, own_all}
use Rattle.proxy_core.proofs.Members.{eq_self}

-- an event and its notes, which are all about the connection
pub edges_told : (c : ℕ) (h : Heard) (v : EventKind) (group : List Note) → About c group → (hears c h v group).edges ≡ edges_noted group (event_edges c v h.edges)
edges_told c h v group a = ap (λ ns. edges_noted ns (event_edges c v h.edges)) (own_all c group a)

pub edges_come : (c : ℕ) (h : Heard) (input : Input) (group : List Note) → About c group → (hears c h (Comes c input) group).edges ≡ edges_noted group (edges_met input h.edges)
edges_come c h input group a = edges_told c h (Comes c input) group a ∙ ap (λ b. edges_noted group (if b then edges_met input h.edges else h.edges)) (eq_self c)

pub edges_joined : (some more : List Note) (e : Edges) → edges_noted (some ++ more) e ≡ edges_noted more (edges_noted some e)
edges_joined [] more e = refl
edges_joined (n ∷ some) more e = edges_joined some more (edges_by n e)
