-- Which event is refused, and why: one list of rows over what is known of it. The first row that
-- holds is the reason.
use Rattle.std.specs.Prelude.{ℕ, List, [], ◌∷◌, length, Bool, true, false, Option, Some, None}
use Rattle.std.specs.Prelude.{is_none, nat_le, nat_lt, not, if◌then◌else◌}
use Rattle.px_bytes.specs.declared.addr.Side.{Side}
use Rattle.px_bytes.specs.declared.addr.Side.TheVariants.{Client, Server}
use Rattle.core_events.specs.declared.edges.Edges.{Edges}
use Rattle.core_events.specs.Edges.{edge_of, is_connecting, may_send}
use Rattle.core_events.specs.Edges.{may_take}
use Rattle.core_events.specs.declared.event_kind.EventKind.{EventKind}
use Rattle.core_events.specs.declared.input.Input.{Input}
use Rattle.core_events.specs.declared.input.Input.TheVariants.{Bytes, Ends, Resets, Connects, Takes}
use Rattle.core_events.specs.declared.event_kind.EventKind.TheVariants.{Accepts, Comes, Ticks}
use Rattle.core_events.specs.declared.event_kind.EventKind.TheVariants.{Marks}
use Rattle.shared_store.specs.Store.{StoreState, pool_of}
use Rattle.shared_store.specs.Store as store
use Rattle.record_model.specs.Setup.{virtual_place}
use Rattle.run_config.specs.declared.config.Config.{Config}
use Rattle.core_events.specs.declared.bad_event.BadEvent.{BadEvent}
use Rattle.core_events.specs.declared.bad_event.BadEvent.TheVariants.{NoConn, AfterEnd, NotConnecting}
use Rattle.core_events.specs.declared.bad_event.BadEvent.TheVariants.{MomentBack, TooMuch, TookTooMuch}
use Rattle.core_events.specs.declared.bad_event.BadEvent.TheVariants.{Full, NoMember, TwiceConn}
use Rattle.core_events.specs.declared.bad_event.BadEvent.TheVariants.{NoVirtual}

-- how a live connection stands: its ends, how many bytes of its sides may come, and how many are
-- pending to them
pub record Standing : Type 0 where
  pub edges : Edges
  pub from_client : ℕ
  pub from_server : ℕ
  pub to_client : ℕ
  pub to_server : ℕ

-- what an event is judged by: the greatest number that was accepted, the present moment, how many
-- connections are live, how the one that it names stands, if it is live, and whether the member
-- that it marks is there
pub record Known : Type 0 where
  pub last : ℕ
  pub moment : ℕ
  pub live : ℕ
  pub conn : Option Standing
  pub member : Bool

-- the connection that comes with an event
abbrev pub named : EventKind → ℕ
named (Accepts c vs from) = c
named (Comes c input) = c
named other = 0

-- the pool has the member that a mark names
abbrev pub has_marked : StoreState → EventKind → Bool
has_marked all (Marks pool member up) = store.has_member member (pool_of pool all.pools)
has_marked all other = true

-- the connection isn't live
abbrev pub is_not_live : Known → EventKind → Bool
is_not_live k (Comes c input) = is_none k.conn
is_not_live k other = false

-- its number isn't above all numbers before
abbrev pub is_not_above : Known → EventKind → Bool
is_not_above k (Accepts c vs from) = nat_le c k.last
is_not_above k other = false

-- no virtual server has the name
abbrev pub has_no_virtual : Config → EventKind → Bool
has_no_virtual C (Accepts c vs from) = is_none (virtual_place C vs)
has_no_virtual C other = false

-- as many are live as may be
abbrev pub is_full : Config → Known → EventKind → Bool
is_full C k (Accepts c vs from) = nat_le C.connections k.live
is_full C k other = false

-- Bytes or an end come of a side that has ended, was reset or isn't open; a reset or a took-count,
-- of one that was reset or isn't open.
abbrev pub is_late : Edges → Input → Bool
is_late e (Bytes side bytes) = not (may_send (edge_of side e))
is_late e (Ends side) = not (may_send (edge_of side e))
is_late e (Resets side) = not (may_take (edge_of side e))
is_late e (Connects made) = false
is_late e (Takes side n) = not (may_take (edge_of side e))

-- no server is asked for a connection
abbrev pub answers_nothing : Edges → Input → Bool
answers_nothing e (Connects made) = not (is_connecting e.server.state)
answers_nothing e other = false

abbrev pub by_edges : (Edges → Input → Bool) → Option Standing → Input → Bool
by_edges test None input = false
by_edges test (Some p) input = test p.edges input

abbrev pub comes_after_end : Known → EventKind → Bool
comes_after_end k (Comes c input) = by_edges is_late k.conn input
comes_after_end k other = false

abbrev pub is_not_connecting : Known → EventKind → Bool
is_not_connecting k (Comes c input) = by_edges answers_nothing k.conn input
is_not_connecting k other = false

-- the moment is below the present one
abbrev pub goes_back : Known → EventKind → Bool
goes_back k (Ticks moment) = nat_lt moment k.moment
goes_back k other = false

abbrev pub wants_of : Side → Standing → ℕ
wants_of Client p = p.from_client
wants_of Server p = p.from_server

-- more bytes come than may
abbrev pub comes_too_much : Option Standing → Input → Bool
comes_too_much (Some p) (Bytes side bytes) = nat_lt (wants_of side p) (length bytes)
comes_too_much o other = false

abbrev pub is_too_much : Known → EventKind → Bool
is_too_much k (Comes c input) = comes_too_much k.conn input
is_too_much k other = false

abbrev pub pending_on : Side → Option Standing → ℕ
pending_on side None = 0
pending_on Client (Some p) = p.to_client
pending_on Server (Some p) = p.to_server

-- so many bytes aren't pending to the side
abbrev pub takes_too_much : Option Standing → Input → Bool
takes_too_much o (Takes side n) = nat_lt (pending_on side o) n
takes_too_much o other = false

abbrev pub is_taking_too_much : Known → EventKind → Bool
is_taking_too_much k (Comes c input) = takes_too_much k.conn input
is_taking_too_much k other = false

-- a reason to refuse an event, and whether it holds
pub record Row : Type 0 where
  pub holds : Bool
  pub why : BadEvent

abbrev row : Bool → BadEvent → Row
row holds why = record { holds = holds; why = why }

abbrev pub refusal_rows : Config → Known → EventKind → List Row
refusal_rows C k v =
    row (is_not_live k v) NoConn
    ∷ row (is_not_above k v) TwiceConn
    ∷ row (has_no_virtual C v) NoVirtual
    ∷ row (is_full C k v) Full
    ∷ row (comes_after_end k v) AfterEnd
    ∷ row (is_not_connecting k v) NotConnecting
    ∷ row (goes_back k v) MomentBack
    ∷ row (is_too_much k v) TooMuch
    ∷ row (is_taking_too_much k v) TookTooMuch
    ∷ row (not k.member) NoMember
    ∷ []

abbrev pub first_of : List Row → Option BadEvent
first_of [] = None
first_of (r ∷ rows) = if r.holds then Some r.why else first_of rows

abbrev pub refusal_by : Config → Known → EventKind → Option BadEvent
refusal_by C k v = first_of (refusal_rows C k v)
