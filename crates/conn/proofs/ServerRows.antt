-- Two server connections of one connection, by computation: the first is given up and still drains while the second is wanted.
use Rattle.std.proofs.Common.{◌≡◌, refl, ℕ, List, [], ◌∷◌, true, false, Option, Some, None}
use Rattle.px_bytes.specs.declared.addr.Addr.{Addr}
use Rattle.px_bytes.specs.declared.addr.Side.TheVariants.{Server}
use Rattle.core_events.specs.Edges.{edge}
use Rattle.core_events.specs.declared.edges.Edges.{Edges}
use Rattle.core_events.specs.declared.edges.EdgeState.{EdgeState}
use Rattle.core_events.specs.declared.edges.EdgeState.TheVariants as state
use Rattle.core_events.specs.declared.event_kind.EventKind.TheVariants.{Comes}
use Rattle.core_events.specs.declared.input.Input.{Input}
use Rattle.core_events.specs.declared.input.Input.TheVariants.{Resets, Connects, Takes}
use Rattle.core_events.specs.declared.note.Note.TheVariants.{CloseServer, Connect}
use Rattle.conn_trace.specs.Gates.{Counts, TakenCounts, may_give, sent_from, to_take}
use Rattle.conn_trace.specs.Heard.{Heard, hears, nothing_heard, taken}
use Rattle.conn_trace.specs.Item.{Answered, Connected, Retires, Sent, ToServer}
use Rattle.conn.specs.Servers.{queue_along, run_notes}
use Rattle.conn.specs.Settling.{settling}

abbrev second : Addr
second = record { ip = 10; port = 80 }

-- three bytes were sent to the first
abbrev sent : Counts
sent = record { client = 0; server = 3; number = 1 }

abbrev took : List (Option ℕ) → TakenCounts
took servers = record { client = Some 0; servers = servers }

abbrev at_server : EdgeState → Edges
at_server s = record { client = edge state.Open; server = edge s }

-- given up while it has bytes to take, it isn't closed, and no other is asked for; once it took all, or was reset, both come
drains_row : (run_notes 7 sent (took (Some 1 ∷ [])) (Retires ∷ []) ≡ []) × (may_give (Connected second) sent (took (Some 1 ∷ [])) ≡ false)
drains_row = (refl, refl)

took_row : (run_notes 7 sent (took (Some 3 ∷ [])) (Retires ∷ Connected second ∷ []) ≡ CloseServer 7 ∷ Connect 7 second ∷ []) × (may_give (Connected second) sent (took (Some 3 ∷ [])) ≡ true)
took_row = (refl, refl)

reset_row : (run_notes 7 sent (took (None ∷ [])) (Retires ∷ Connected second ∷ []) ≡ CloseServer 7 ∷ Connect 7 second ∷ []) × (may_give (Connected second) sent (took (None ∷ [])) ≡ true)
reset_row = (refl, refl)

-- what is told in the step in which its queue empties, and not before or again; while it isn't given up nothing is
settles_row : (settling false true 7 (at_server state.Open) true false 0 ≡ CloseServer 7 ∷ []) × (settling false true 7 (at_server state.Open) false false 0 ≡ []) × (settling false true 7 (at_server state.Closed) true false 0 ≡ [])
    × (settling false false 7 (at_server state.Open) true false 0 ≡ [])
settles_row = (refl, refl, refl, refl)

-- where the second is asked for its queue begins anew, and what the first didn't take is lost; what is sent then waits for the second
queue_row : queue_along (Connected second ∷ Answered true ∷ Sent (ToServer 2) (9 ∷ []) ∷ []) (record { queued = 4 ∷ 5 ∷ []; lost = 1 }) ≡ record { queued = 9 ∷ []; lost = 3 }
queue_row = refl

counts_row : sent_from sent (Connected second ∷ Answered true ∷ Sent (ToServer 2) (9 ∷ []) ∷ []) ≡ record { client = 0; server = 1; number = 2 }
counts_row = refl

-- what comes of both: the first takes a byte and is reset, then the second is connected, takes one, and is reset
abbrev comes : Input → Heard → Heard
comes input h = hears 7 h (Comes 7 input) []

abbrev both : Heard
both = comes (Takes Server 1) (comes (Connects true) (comes (Resets Server) (comes (Takes Server 1) (comes (Connects true) nothing_heard))))

both_row : ((taken both).servers ≡ None ∷ Some 1 ∷ []) × ((taken (comes (Resets Server) both)).servers ≡ None ∷ None ∷ [])
both_row = (refl, refl)

-- by the number of each: nothing is left of the first, which was reset; of the second what it didn't take
left_row : (to_take sent (taken both) Server ≡ 0) × (to_take (record { client = 0; server = 4; number = 2 }) (taken both) Server ≡ 3) × (to_take (record { client = 0; server = 4; number = 2 }) (taken (comes (Resets Server) both)) Server ≡ 0)
left_row = (refl, refl, refl)
