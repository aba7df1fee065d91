-- What connection 1 hears, by computation.
use Rattle.std.proofs.Common.{◌≡◌, refl, ℕ, List, [], ◌∷◌, Bool, true, false, Some, None, codes}
use Rattle.px_bytes.specs.declared.addr.Addr.{Addr}
use Rattle.px_bytes.specs.declared.addr.Side.TheVariants.{Client, Server}
use Rattle.px_bytes.specs.declared.fault.Reply.TheVariants as reply
use Rattle.core_events.specs.declared.note.Cause.TheVariants as cause
use Rattle.core_events.specs.declared.note.CutReason.TheVariants.{ClientReset}
use Rattle.core_events.specs.declared.note.Note.{Note}
use Rattle.core_events.specs.declared.note.Note.TheVariants as note
use Rattle.conn_trace.specs.Item.{PassesOn}
use Rattle.conn_trace.specs.Tellings.{notes_about, end_told}
use Rattle.core_events.specs.declared.event_kind.EventKind.TheVariants.{Accepts, Comes, Runs}
use Rattle.core_events.specs.declared.input.Input.{Input}
use Rattle.core_events.specs.declared.input.Input.TheVariants.{Bytes, Ends, Resets, Connects, Takes}
use Rattle.conn_trace.specs.Heard.{SideHeard, Heard, fresh_side, nothing_heard, taken, hears}

abbrev client_at : Addr
client_at = record { ip = 9; port = 4000 }

abbrev comes : Input → Heard → Heard
comes input h = hears 1 h (Comes 1 input) []

abbrev came : List ℕ → Bool → SideHeard
came bytes ended = record fresh_side { bytes = bytes; ended = ended }

-- its own accept, bytes in pieces, another's bytes, the end; behind it nothing is heard
abbrev client_heard : Heard
client_heard = comes (Ends Client) (comes (Bytes Client (codes "c")) (hears 1 (comes (Bytes Client (codes "ab")) (hears 1 nothing_heard (Accepts 1 (codes "v") client_at) [])) (Comes 2 (Bytes Client (codes "z"))) []))

accept_row : client_heard.accepted ≡ Some (record { virtual = codes "v"; from = client_at })
accept_row = refl

client_row : (client_heard.client ≡ came (codes "abc") true) × ((comes (Bytes Client (codes "d")) client_heard).client ≡ came (codes "abc") true)
client_row = (refl, refl)

-- a refused connect and one that was made; bytes of the server are for the last that was made
abbrev server_heard : Heard
server_heard = comes (Takes Server 2) (comes (Bytes Server (codes "xy")) (comes (Connects true) (comes (Connects false) client_heard)))

server_row : server_heard.connects ≡ None ∷ Some (record (came (codes "xy") false) { took = 2 }) ∷ []
server_row = refl

-- took-counts are by the number of the server connection; a reset leaves none
taken_row : (taken server_heard ≡ record { client = Some 0; servers = Some 2 ∷ [] }) × (taken (comes (Resets Client) server_heard) ≡ record { client = None; servers = Some 2 ∷ [] })
taken_row = (refl, refl)

-- a group with a choice and a cut: the cut has the counts of this moment, and what the event brings isn't heard
abbrev cut_heard : Heard
cut_heard = hears 1 server_heard (Comes 1 (Bytes Server (codes "q"))) (note.Pass 1 Server 2 ∷ note.Log 2 (codes "z") ∷ note.Finish 1 (cause.Cut ClientReset) ∷ [])

cut_row : (cut_heard.connects ≡ server_heard.connects) × (cut_heard.choices ≡ PassesOn Server 2 ∷ [])
    × (cut_heard.cut ≡ Some (record { reason = ClientReset; took = record { client = Some 0; servers = Some 2 ∷ [] } })) × (cut_heard.finished ≡ true) × (cut_heard.failed ≡ false)
    × (cut_heard.notes ≡ note.Pass 1 Server 2 ∷ note.Finish 1 (cause.Cut ClientReset) ∷ [])
cut_row = (refl, refl, refl, refl, refl, refl)

-- behind the finish another server is made: it is heard of none, and its reset and took-counts aren't those of the one before
abbrev late_heard : Heard
late_heard = comes (Connects true) cut_heard

late_row : (late_heard.late ≡ true) × (late_heard.connects ≡ cut_heard.connects) × ((comes (Resets Server) late_heard).connects ≡ cut_heard.connects)
    × ((comes (Takes Server 1) late_heard).connects ≡ cut_heard.connects) × ((comes (Connects false) cut_heard).late ≡ false)
late_row = (refl, refl, refl, refl, refl)

-- a reset before that is of the last one
before_row : ((comes (Resets Server) cut_heard).connects ≡ None ∷ Some (record (came (codes "xy") false) { took = 2; reset = true }) ∷ []) × (server_heard.late ≡ false)
before_row = (refl, refl)

-- a finish for want of memory is told apart, and is no cut
memory_row : ((hears 1 client_heard Runs (note.Finish 1 cause.Memory ∷ [])).failed ≡ true) × ((hears 1 client_heard Runs (note.Finish 1 cause.Memory ∷ [])).cut ≡ None)
memory_row = (refl, refl)

-- a reply is heard, and that it is over is told
abbrev ends_now : List Note
ends_now = note.History 1 5 (codes "c" ∷ []) (reply.Ok (codes "v")) ∷ note.CloseClient 1 ∷ note.Ended 1 0 ∷ []

told_row : ((hears 1 client_heard Runs ends_now).replies ≡ reply.Ok (codes "v") ∷ []) × (end_told (notes_about 1 ends_now) ≡ true) × (end_told (notes_about 2 ends_now) ≡ false)
told_row = (refl, refl, refl)
