-- Bytes are passed on both ways, and collected.
use Rattle.std.specs.Prelude.{◌≡◌, ◌≤◌, ℕ, List, [], ◌∷◌, ◌++◌, length, min, take, drop, ◌&&◌}
use Rattle.std.specs.Prelude.{nat_le, nat_lt, if◌then◌else◌}
use Rattle.px_bytes.specs.declared.addr.Side.{Side}
use Rattle.px_bytes.specs.declared.addr.Side.TheVariants.{Client, Server}
use Rattle.irule_net.specs.declared.state.Asks.{Asks}
use Rattle.irule_net.specs.declared.state.Asks.TheVariants.{NotAsked, Stated}
use Rattle.irule_net.specs.declared.state.NetState.{NetState}
use Rattle.conn_trace.specs.Gates.{other}
use Rattle.conn_trace.specs.Relay.{Incoming, is_done}
use Rattle.core_events.specs.declared.note.Note.{Note}
use Rattle.core_events.specs.declared.note.Note.TheVariants as note
use Rattle.conn.specs.declared.connection.Conn.{Conn}
use Rattle.conn.specs.declared.ends.ConnectionEnd.{ConnectionEnd}
use Rattle.conn.specs.declared.ends.Ends.{Ends}
use Rattle.conn.specs.declared.relay.Relay.{Relay}
use Rattle.conn.specs.declared.relay.Relay.TheVariants as relay
use Rattle.conn.specs.declared.setup.Setup.{Setup}
use Rattle.conn.specs.declared.stage.Stage.TheVariants as stage
use Rattle.conn.specs.Changes.{Enters}
use Rattle.conn.specs.Ends.{arrived, end_of, room_left}
use Rattle.conn.specs.Events.{data_at}
use Rattle.conn.specs.Hosts.{fired_host, released_host}

-- how many bytes of one end may be passed on to the other
abbrev pub to_pass : ConnectionEnd → ConnectionEnd → ℕ
to_pass from to = min (length from.unread) (room_left to)

abbrev pub passing : Side → ℕ → Relay → Relay
passing side n later = if nat_lt 0 n then relay.Pass side n else later

-- what is done with the bytes of a side: while its collect is stated none are passed on, and where
-- it is met they are collected
abbrev pub side_plan : Side → Asks → ConnectionEnd → ConnectionEnd → Relay → Relay
side_plan side NotAsked from to later = passing side (to_pass from to) later
side_plan side (Stated n) from to later =
    if nat_le n (length from.unread) then relay.Fire side n else later

-- the collect of a side and what came of it, as the trace has them
abbrev pub incoming_of : Asks → ConnectionEnd → Incoming
incoming_of asks e = record { asks = asks; stream = arrived e }

abbrev pub plan_of : Side → NetState → Ends → Relay → Relay
plan_of Client net e later = side_plan Client net.client.asks e.client e.server later
plan_of Server net e later = side_plan Server net.server.asks e.server e.client later

-- it is done where both ends are; the bytes of the side whose turn it is go first
abbrev pub relay_plan : (first : Side) → NetState → Ends → Relay
relay_plan first net e =
    if is_done (incoming_of net.client.asks e.client)
    && is_done (incoming_of net.server.asks e.server)
    then relay.Done
    else plan_of first net e (plan_of (other first) net e relay.Rest)

-- where it rests the next turn is the client's
abbrev pub round_begun : Conn → Conn
round_begun c = record c { stage = stage.Relaying Client }

-- so many bytes of a side lie unread
abbrev pub passes_now : Side → ℕ → Ends → Type 0
passes_now side n e = n ≤ length (end_of side e).unread

-- the first n bytes of a side are read, and queued to the other
abbrev pub read_end : ℕ → ConnectionEnd → ConnectionEnd
read_end n e = record e { unread = drop n e.unread }

abbrev pub queue_end : List ℕ → ConnectionEnd → ConnectionEnd
queue_end bytes e = record e { queued = e.queued ++ bytes }

abbrev pub moved : Side → ℕ → Ends → Ends
moved Client n e = record e {
  client = read_end n e.client;
  server = queue_end (take n e.client.unread) e.server;
}
moved Server n e = record e {
  server = read_end n e.server;
  client = queue_end (take n e.server.unread) e.client;
}

-- it passes them on, and the next turn is the other side's
pub record PassesOn (c : ℕ) (side : Side) (n : ℕ) (old new : Conn) (before after : List Note)
    : Type 0 where
  pub there : new.stage ≡ stage.Relaying (other side)
  pub vars : new.vars ≡ old.vars
  pub host : new.host ≡ old.host
  pub ends : new.ends ≡ moved side n old.ends
  pub noted : after ≡ before ++ note.Pass c side n ∷ []

-- the first n bytes of a side are read
abbrev pub read_ends : Side → ℕ → Ends → Ends
read_ends Client n e = record e { client = read_end n e.client }
read_ends Server n e = record e { server = read_end n e.server }

-- these bytes are queued to the other side than this one
abbrev pub sent_ends : Side → List ℕ → Ends → Ends
sent_ends Client bytes e = record e { server = queue_end bytes e.server }
sent_ends Server bytes e = record e { client = queue_end bytes e.client }

-- the first n bytes of a side are read, and go to the other as these
abbrev pub moved_as : Side → ℕ → List ℕ → Ends → Ends
moved_as side n bytes e = sent_ends side bytes (read_ends side n e)

-- the collect of a side is met: it holds the first n bytes, and their event is entered
pub record Fires (s : Setup) (c : ℕ) (side : Side) (n : ℕ) (old new : Conn)
    (before after : List Note) : Type 0 where
  pub enters : Enters s (data_at side)
      (fired_host side (take n (end_of side old.ends).unread) old.host)
      (read_ends side n old.ends) old new
  pub noted : after ≡ before ++ note.Fired c side ∷ []

-- the client's bytes that were released before there was a server are queued to it
pub record Releases (old new : Conn) : Type 0 where
  pub there : new.stage ≡ stage.Relaying Client
  pub vars : new.vars ≡ old.vars
  pub host : new.host ≡ released_host old.host
  pub ends : new.ends
      ≡ record old.ends { server = queue_end old.host.net.loose old.ends.server }
