-- The server connections of one connection, one after another: what is queued to the present one and
-- what those before it lost, and where it is told that one is closed that is given up.
use Rattle.std.specs.Prelude.{ℕ, ◌+◌, List, [], ◌∷◌, ◌++◌, length, Bool, true, false, ◌||◌}
use Rattle.std.specs.Prelude.{Option, None, Some, nat_eq}
use Rattle.std.specs.List.{flat_map}
use Rattle.px_bytes.specs.declared.addr.Side.TheVariants.{Server}
use Rattle.core_events.specs.declared.note.Note.{Note}
use Rattle.core_events.specs.declared.note.Note.TheVariants.{CloseServer}
use Rattle.conn_trace.specs.Gates.{Counts, TakenCounts, sent_after, to_take}
use Rattle.conn_trace.specs.Item.{Connected, Item, Peer, Retires, Sending, ToClient, ToServer, note_of}
use Rattle.conn_trace.specs.Item.{shown}
use Rattle.conn.specs.declared.ends.Ends.{Ends}
use Rattle.conn.specs.Settling.{note_if}

-- bytes for a server connection, whichever it is
abbrev pub peer_bytes : Peer → List ℕ → List ℕ
peer_bytes ToClient bytes = []
peer_bytes (ToServer k) bytes = bytes

abbrev pub sending_bytes : Option Sending → List ℕ
sending_bytes None = []
sending_bytes (Some s) = peer_bytes s.peer s.bytes

abbrev pub to_servers : Item → List ℕ
to_servers i = sending_bytes (shown i).sends

-- all that items send to server connections
abbrev pub servers_output : List Item → List ℕ
servers_output items = flat_map to_servers items

-- what is queued to a server connection, and how many bytes those before it never took
pub record ServerQueue : Type 0 where
  pub queued : List ℕ
  pub lost : ℕ

abbrev pub queue_at_server : Ends → ServerQueue
queue_at_server e = record { queued = e.server.queued; lost = e.lost }

-- Behind an item: where another connection is asked for nothing is queued to it, and what the one
-- before didn't take is lost.
abbrev pub queue_behind : Item → ServerQueue → ServerQueue
queue_behind (Connected to) q = record { queued = []; lost = q.lost + length q.queued }
queue_behind i q = record q { queued = q.queued ++ to_servers i }

abbrev pub queue_along : List Item → ServerQueue → ServerQueue
queue_along [] q = q
queue_along (i ∷ items) q = queue_along items (queue_behind i q)

-- a server connection that is given up is closed there where it took all
abbrev pub closed_notes : ℕ → (taken : Bool) → List Note
closed_notes c taken = note_if taken (CloseServer c)

abbrev pub closed_behind : ℕ → Counts → TakenCounts → Item → List Note
closed_behind c sent took Retires = closed_notes c (nat_eq (to_take sent took Server) 0)
closed_behind c sent took other = []

abbrev pub is_retires : Item → Bool
is_retires Retires = true
is_retires other = false

-- a server connection is given up among items
abbrev pub gives_up : List Item → Bool
gives_up [] = false
gives_up (i ∷ items) = is_retires i || gives_up items

-- the notes of items, and that server connections are closed among them
abbrev pub run_notes : ℕ → Counts → TakenCounts → List Item → List Note
run_notes c sent took [] = []
run_notes c sent took (i ∷ items) =
    let then_sent = sent_after i sent in
    note_of c i ++ (closed_behind c then_sent took i ++ run_notes c then_sent took items)
