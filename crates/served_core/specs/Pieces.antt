-- What the client and the server of a connection took, piece by piece.
use Rattle.std.specs.Prelude.{ℕ, suc, ◌+◌, List, [], ◌∷◌, ◌++◌, take, drop, Option, Some, None, nat_eq, if◌then◌else◌}
use Rattle.px_bytes.specs.declared.addr.Side.{Side}
use Rattle.px_bytes.specs.declared.addr.Side.TheVariants.{Client, Server}
use Rattle.px_outside.specs.Net.{Call, Write}
use Rattle.core_events.specs.declared.event.Event.{Event}
use Rattle.core_events.specs.declared.event.Event.TheVariants as event
use Rattle.conn_trace.specs.Heard.{Heard, SideHeard}
use Rattle.conn_trace.specs.Item.{Item, client_output, server_output}
use Rattle.proxy_core.specs.Scheduler.{last_took}
use Rattle.proxy_core.specs.Servers.{made}
use Rattle.serve_loop.specs.Broken.{Broken, Ungiven}
use Rattle.serve_loop.specs.Walk.{Step, Own, Asked}

-- the front of a write's bytes that the side of connection c took, as the event says that followed
abbrev pub piece_of : ℕ → Side → Call → Event → List ℕ
piece_of c Client (Write link bytes answer) (event.ClientTook d n) =
    if nat_eq d c then take n bytes else []
piece_of c Server (Write link bytes answer) (event.ServerTook d n) =
    if nat_eq d c then take n bytes else []
piece_of c side call e = []

abbrev pub pieces_of : ℕ → Side → List Step → List ℕ
pieces_of c side [] = []
pieces_of c side (Own g ∷ steps) = pieces_of c side steps
pieces_of c side (Asked call None ∷ steps) = pieces_of c side steps
pieces_of c side (Asked call (Some g) ∷ steps) =
    piece_of c side call g.event ++ pieces_of c side steps

-- the piece of a write that told that the side took it, where this wasn't given to the core
abbrev pub ungiven_piece : ℕ → Side → Broken → List ℕ
ungiven_piece c side (Ungiven call e) = piece_of c side call e
ungiven_piece c side other = []

-- what the server connections from a number on took of what was sent to them, one after another
abbrev pub servers_took : ℕ → List (Option SideHeard) → List Item → List ℕ
servers_took j [] place = []
servers_took j (None ∷ more) place = servers_took j more place
servers_took j (Some s ∷ more) place =
    take s.took (server_output j place) ++ servers_took (suc j) more place

-- what a side took, and so many more bytes of what was sent to it and not taken
abbrev pub took_more : Side → ℕ → Heard → List Item → List ℕ
took_more Client n h place = take (h.client.took + n) (client_output place)
took_more Server n h place =
    servers_took 1 h.connects place
    ++ take n (drop (last_took h.connects) (server_output (made h.connects) place))
