-- The bytes that the sides of connections took.
use Rattle.std.specs.Prelude.{ℕ, List, [], ◌∷◌, ◌++◌, map, nat_eq, Option, Some, None}
use Rattle.std.specs.Prelude.{if◌then◌else◌}
use Rattle.number_table.specs.Table.{Rises}
use Rattle.px_bytes.specs.declared.addr.Side.{Side}
use Rattle.px_bytes.specs.declared.addr.Side.TheVariants.{Client, Server}
use Rattle.proxy_core.specs.declared.core_state.Core.{Core}
use Rattle.core_events.specs.declared.event.Event.{Event}
use Rattle.core_events.specs.declared.event.Event.TheVariants as event
use Rattle.proxy_core.specs.Refusals.{live_at}
use Rattle.proxy_core.specs.Queries.{front_of}
use Rattle.proxy.specs.ServerBytes.{on_last}
use Rattle.proxy.specs.declared.taken.Taken.{Taken}
use Rattle.proxy.specs.declared.taken.Took.{Took}
use Rattle.proxy.specs.declared.taken.Took.TheVariants.{Nothing, Begins, Connects, More}

abbrev pub more_of : ℕ → Side → Option (List ℕ) → Took
more_of conn side None = Nothing
more_of conn side (Some bytes) = More conn side bytes

-- what an event brings, by the core before it: an accept a connection, an answer a server
-- connection of one, a took-count the first bytes that were pending
abbrev pub took_of : Core → Event → Took
took_of core (event.Accept conn vs from) = Begins conn
took_of core (event.Connected conn) = Connects conn
took_of core (event.ClientTook conn n) =
    more_of conn Client (front_of Client n (live_at core.live.items conn))
took_of core (event.ServerTook conn n) =
    more_of conn Server (front_of Server n (live_at core.live.items conn))
took_of core other = Nothing

-- a connection of which nothing was taken yet
abbrev pub none_taken : ℕ → Taken
none_taken conn = record { conn = conn; client = []; servers = [] }

-- one more server connection, of which nothing was taken yet
abbrev pub begins_server : Taken → Taken
begins_server t = record t { servers = t.servers ++ [] ∷ [] }

-- a side took more bytes: the client, or the last server connection
abbrev pub took_on : Side → List ℕ → Taken → Taken
took_on Client bytes t = record t { client = t.client ++ bytes }
took_on Server bytes t = record t { servers = on_last (λ b. b ++ bytes) t.servers }

-- those of all connections, with those of one of them changed
abbrev pub changed : ℕ → (Taken → Taken) → List Taken → List Taken
changed conn f [] = []
changed conn f (t ∷ all) = if nat_eq t.conn conn then f t ∷ all else t ∷ changed conn f all

-- after what an event brought
abbrev pub with_took : Took → List Taken → List Taken
with_took Nothing all = all
with_took (Begins conn) all = all ++ none_taken conn ∷ []
with_took (Connects conn) all = changed conn begins_server all
with_took (More conn side bytes) all = changed conn (took_on side bytes) all

-- the numbers of the connections rise
abbrev pub AreRising : List Taken → Type 0
AreRising all = Rises (map (λ t. t.conn) all)
