-- What the network commands of a connection read and leave, as it begins and at each event (iRules:
-- TCP::collect, TCP::release and TCP::respond act on the side on which the event runs).
use Rattle.std.specs.Prelude.{ℕ, ◌+◌, List, [], length, Bool, false, None, nat_le, max}
use Rattle.px_bytes.specs.declared.addr.Addr.{Addr}
use Rattle.px_bytes.specs.declared.addr.Side.{Side}
use Rattle.px_bytes.specs.declared.addr.Side.TheVariants.{Client, Server}
use Rattle.event_order.specs.declared.event.EventName.{EventName}
use Rattle.event_order.specs.declared.event.EventName.TheVariants.{ServerConnected, ServerData}
use Rattle.irule_net.specs.declared.state.Asks.{Asks}
use Rattle.irule_net.specs.declared.state.Asks.TheVariants.{NotAsked, Stated}
use Rattle.irule_net.specs.declared.state.Collected.{Collected}
use Rattle.irule_net.specs.declared.state.NetState.{NetState}
use Rattle.irule_net.specs.declared.state.Target.TheVariants.{Default}
use Rattle.irule_net.specs.declared.state.Wishes.{Wishes}

abbrev pub no_collect : Collected
no_collect = record { asks = NotAsked; held = [] }

abbrev pub no_wishes : Wishes
no_wishes = record {
  sent = 0;
  let_go = 0;
  released = false;
  reselects = false;
  detaches = false;
  ends = None;
}

-- the state of an accepted connection, by the client's address and the virtual server's port,
-- default pool and HTTP
abbrev pub new_state : Addr → ℕ → List ℕ → Bool → NetState
new_state from port pool http = record {
  from = from;
  port = port;
  pool = pool;
  http = http;
  target = Default;
  selected = None;
  reselects = 0;
  client = no_collect;
  server = no_collect;
  loose = [];
  relays = false;
  wishes = no_wishes;
}

-- an event begins: its bodies have done nothing yet
abbrev pub begun : NetState → NetState
begun s = record s { wishes = no_wishes }

-- the side on which an event runs whose bodies may collect and send
abbrev pub side_of : EventName → Side
side_of ServerConnected = Server
side_of ServerData = Server
side_of event = Client

abbrev pub other : Side → Side
other Client = Server
other Server = Client

abbrev pub collected : Side → NetState → Collected
collected Client s = s.client
collected Server s = s.server

abbrev pub with_collected : Side → Collected → NetState → NetState
with_collected Client c s = record s { client = c }
with_collected Server c s = record s { server = c }

-- the most bytes that the bodies of one event send by TCP::respond
abbrev pub respond_limit : ℕ
respond_limit = 1114112

-- the most bytes that are held of a side
abbrev pub hold_limit : ℕ
hold_limit = 1048576

-- Bytes of a side that count as held though they were let go: those of the event that runs, and
-- those that still wait for a server.
abbrev pub gone : Side → NetState → ℕ
gone Client s = max s.wishes.let_go (length s.loose)
gone Server s = s.wishes.let_go

-- how many bytes a collect still holds
abbrev pub asked_bytes : Asks → ℕ
asked_bytes NotAsked = 0
asked_bytes (Stated n) = n

-- so many bytes, those that are gone, and those that a collect is to hold may be held together
abbrev pub holds : ℕ → ℕ → ℕ → Bool
holds held out wanted = nat_le (held + out + wanted) hold_limit
