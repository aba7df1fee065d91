-- When a connection may go on: at most so many bytes may be sent to a side and not taken (flow
-- control between the two TCP connections of a full proxy).
use Rattle.std.specs.Prelude.{◌≡◌, ℕ, zero, suc, ◌+◌, ◌-◌, List, [], ◌∷◌, length, Bool, true, false}
use Rattle.std.specs.Prelude.{◌&&◌, Option, Some, None, nat_eq, nat_lt, slice_get, unwrap_or}
use Rattle.px_bytes.specs.declared.addr.Side.{Side}
use Rattle.px_bytes.specs.declared.addr.Side.TheVariants.{Client, Server}
use Rattle.conn_trace.specs.Item.{Gate, BeforeBodies, BeforePassing, BeforeConnect}
use Rattle.conn_trace.specs.Item.{Peer, ToClient, ToServer, Sending, Item, shown}

-- bytes sent: to the client, and to the server connection `number`, 0 being none
pub record Counts : Type 0 where
  pub client : ℕ
  pub server : ℕ
  pub number : ℕ

abbrev pub no_bytes : Counts
no_bytes = record { client = 0; server = 0; number = 0 }

-- Bytes taken: by the client, and by each server connection from the first on. None is what a reset
-- leaves: nothing is untaken.
pub record TakenCounts : Type 0 where
  pub client : Option ℕ
  pub servers : List (Option ℕ)

abbrev pub none_taken : TakenCounts
none_taken = record { client = Some 0; servers = [] }

abbrev pub other : Side → Side
other Client = Server
other Server = Client

-- the bytes sent and not taken
abbrev pub untaken : ℕ → Option ℕ → ℕ
untaken sent None = 0
untaken sent (Some n) = sent - n

-- what the server connection of this number took; none is there yet: nothing
abbrev pub taken_of : List (Option ℕ) → ℕ → Option ℕ
taken_of servers zero = Some 0
taken_of servers (suc k) = unwrap_or (slice_get servers k) (Some 0)

-- the bytes sent to a side and not taken; to the server's, of its present connection
abbrev pub to_take : Counts → TakenCounts → Side → ℕ
to_take sent took Client = untaken sent.client took.client
to_take sent took Server = untaken sent.server (taken_of took.servers sent.number)

-- bytes are moved on to a side while fewer than these are sent to it and not taken
abbrev pub room_limit : ℕ
room_limit = 65536

abbrev pub has_room : Counts → TakenCounts → Side → Bool
has_room sent took side = nat_lt (to_take sent took side) room_limit

-- A gate is open: before bodies there is room on both sides, before bytes are passed on there is
-- room on the other side, and before a new server connection the one before took all.
abbrev pub is_open : Gate → Counts → TakenCounts → Bool
is_open BeforeBodies sent took = has_room sent took Client && has_room sent took Server
is_open (BeforePassing from) sent took = has_room sent took (other from)
is_open BeforeConnect sent took = nat_eq (to_take sent took Server) 0

abbrev pub guard_open : Option Gate → Counts → TakenCounts → Bool
guard_open None sent took = true
guard_open (Some gate) sent took = is_open gate sent took

-- the item may be given now
abbrev pub may_give : Item → Counts → TakenCounts → Bool
may_give i sent took = guard_open (shown i).guard sent took

abbrev pub sent_to : Peer → ℕ → Counts → Counts
sent_to ToClient n sent = record sent { client = sent.client + n }
sent_to (ToServer k) n sent = record sent { server = sent.server + n }

abbrev pub sent_part : Option Sending → Counts → Counts
sent_part None sent = sent
sent_part (Some s) sent = sent_to s.peer (length s.bytes) sent

-- a new server connection was sent nothing
abbrev pub renewed : Bool → Counts → Counts
renewed false sent = sent
renewed true sent = record sent { server = 0; number = sent.number + 1 }

-- what was sent once the item was given
abbrev pub sent_after : Item → Counts → Counts
sent_after i sent = sent_part (shown i).sends (renewed (shown i).renews sent)

abbrev pub sent_from : Counts → List Item → Counts
sent_from sent [] = sent
sent_from sent (i ∷ items) = sent_from (sent_after i sent) items

-- each of the items may be given, where so much was sent before them and so much is taken
abbrev pub Met : Counts → TakenCounts → List Item → Type 0
Met sent took [] = Unit {0}
Met sent took (i ∷ items) =
    (may_give i sent took ≡ true) × Met (sent_after i sent) took items
