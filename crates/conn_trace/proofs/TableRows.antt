-- Rows of the tables: gates, waits, cuts, where events lead, the phases by name.
use Rattle.std.proofs.Common.{◌≡◌, refl, ℕ, List, [], ◌∷◌, map, true, false, Some, None, codes}
use Rattle.std.specs.Fmt.{digits}
use Rattle.px_bytes.specs.FaultText.{no_command}
use Rattle.px_bytes.specs.Host.{Gives, Faults, Asks, Logged as Noted}
use Rattle.px_bytes.specs.declared.addr.Side.TheVariants.{Client, Server}
use Rattle.px_bytes.specs.declared.fault.FaultKind.TheVariants.{TooLong}
use Rattle.tcl_vars.specs.Scopes.{no_level}
use Rattle.rule_model.specs.Evaluator.{evaluate}
use Rattle.event_order.specs.declared.phase.Phase.{Phase as Name}
use Rattle.event_order.specs.declared.phase.Phase.TheVariants as name
use Rattle.event_order.specs.declared.event.EventName.{EventName}
use Rattle.event_order.specs.declared.event.EventName.TheVariants.{ClientAccepted, ClientData, ClientClosed, ServerClosed, LbFailed}
use Rattle.core_events.specs.declared.note.CutReason.TheVariants.{ClientReset, ServerReset, Idle}
use Rattle.conn_trace.specs.Item.{BeforeBodies, BeforePassing, BeforeConnect, ToClient, ToServer, Closed, Rejected, Tcl, PassesOn, cost_in, calls_in}
use Rattle.conn_trace.specs.Item.{Opened, Resumed, Passed, Fired, Called, Connected, Logged, Sent, Ran, Finished}
use Rattle.conn_trace.specs.Gates.{Counts, TakenCounts, is_open, may_give}
use Rattle.irule_net.specs.FaultText.{not_here}
use Rattle.irule_net.specs.declared.state.Asks.TheVariants.{NotAsked, Stated}
use Rattle.irule_net.specs.declared.state.Ending.{Ending}
use Rattle.irule_net.specs.declared.state.Ending.TheVariants.{Rejects, Closes}
use Rattle.irule_net.specs.declared.state.Wishes.{Wishes}
use Rattle.conn_trace.specs.Setup.{Handler, Setup}
use Rattle.conn_trace.specs.Host.{HostState, commands, first_host, with_collect, with_loose, with_selected}
use Rattle.conn_trace.specs.State.{Running, InEvent, Relaying, Choosing, Collecting, TraceState, Nothing, Passable, IsMet, ForBytes, ForConnect, ForReply, ForRelay, ForReuse, Waits, no_stream, no_answers}
use Rattle.conn_trace.specs.Trace.{next_item, trace, behind, start, cut_takes, rests}
use Rattle.conn_trace.specs.Phases.{phase_of}
use Rattle.conn_trace.specs.Queries.{half_close_due}
use Rattle.conn_trace.proofs.Rows.{closing_bodies, sets, reads, connect_start, responds, setup, node_at, relay_setup, relay_start, collect_setup, collect_start, stated, collects, no_groups, with_net}

-- 65,535 bytes not taken leave room, 65,536 leave none; a reset leaves all of it
abbrev sent : ℕ → ℕ → Counts
sent client server = record { client = client; server = server; number = 1 }

abbrev took : ℕ → ℕ → TakenCounts
took client server = record { client = Some client; servers = Some server ∷ [] }

gate_rows :
    (is_open BeforeBodies (sent 65536 65537) (took 1 2) ≡ true) × (is_open BeforeBodies (sent 65537 65537) (took 1 2) ≡ false) × (is_open BeforeBodies (sent 65536 65538) (took 1 2) ≡ false)
    × (is_open (BeforePassing Client) (sent 65537 65537) (took 1 2) ≡ true) × (is_open (BeforePassing Server) (sent 65537 65537) (took 1 2) ≡ false)
    × (is_open BeforeConnect (sent 9 2) (took 1 2) ≡ true) × (is_open BeforeConnect (sent 9 3) (took 1 2) ≡ false)
    × (is_open BeforeBodies (sent 65536 0) (record { client = None; servers = [] }) ≡ true)
gate_rows = (refl, refl, refl, refl, refl, refl, refl, refl)

-- the gates of items
guard_rows : (may_give (Connected node_at) (sent 0 3) (took 0 2) ≡ false) × (may_give (Passed Client (ToServer 1) (codes "a")) (sent 0 65538) (took 0 2) ≡ false)
    × (may_give (Opened BeforeBodies) (sent 65536 0) (took 0 0) ≡ false) × (may_give (Sent ToClient (codes "a")) (sent 65536 0) (took 0 0) ≡ true)
guard_rows = (refl, refl, refl, refl)

item_rows : (cost_in (Ran ClientAccepted 8 ∷ Resumed ∷ Ran ClientData 3 ∷ []) ≡ 11) × (calls_in (Called (codes "c" ∷ []) ∷ Resumed ∷ []) ≡ (codes "c" ∷ []) ∷ [])
item_rows = (refl, refl)

-- a relay rests where no side has bytes with room for them, or a met collect
rest_rows :
    (rests false (ForRelay Passable Nothing) (sent 0 65536) (took 0 0) ≡ true) × (rests false (ForRelay Passable Nothing) (sent 0 65535) (took 0 0) ≡ false)
    × (rests false (ForRelay Nothing Passable) (sent 65536 0) (took 0 0) ≡ true) × (rests false (ForRelay Nothing Passable) (sent 65535 0) (took 0 0) ≡ false)
    × (rests false (ForRelay IsMet Nothing) (sent 0 65536) (took 0 0) ≡ false) × (rests false (ForRelay Nothing Nothing) (sent 0 0) (took 0 0) ≡ true)
    × (rests false (ForReply []) (sent 0 0) (took 0 0) ≡ false) × (rests true (ForReply []) (sent 0 0) (took 0 0) ≡ true)
rest_rows = (refl, refl, refl, refl, refl, refl, refl, refl)

-- with HTTP a server's reset ends a wait for the server's bytes alone
cut_rows :
    (cut_takes true ServerReset (Some (ForBytes Server)) ≡ true) × (cut_takes true ServerReset (Some (ForBytes Client)) ≡ false) × (cut_takes true ServerReset None ≡ false)
    × (cut_takes true ClientReset (Some (ForBytes Client)) ≡ true) × (cut_takes true Idle None ≡ true) × (cut_takes false ServerReset (Some ForConnect) ≡ true)
    × (cut_takes false Idle (Some (ForReply [])) ≡ false) × (cut_takes false Idle (Some ForReuse) ≡ false)
cut_rows = (refl, refl, refl, refl, refl, refl, refl, refl)

-- what commands give: told of the client, of a group that isn't there, in an event that hasn't the command, at a shared call, and those that aren't there without HTTP
abbrev accepted : HostState
accepted = first_host relay_setup

abbrev closing_host : HostState
closing_host = record accepted { event = ClientClosed }

abbrev collecting : HostState
collecting = with_collect Client (record { asks = Stated 1; held = [] }) accepted

command_rows :
    (commands no_groups accepted (codes "IP::client_addr" ∷ []) ≡ Gives (codes "10.0.0.9") accepted [])
    × (commands no_groups accepted (codes "TCP::client_port" ∷ []) ≡ Gives (codes "4000") accepted [])
    × (commands no_groups accepted (codes "LB::server" ∷ codes "pool" ∷ []) ≡ Gives [] accepted [])
    × (commands no_groups closing_host (codes "log" ∷ codes "a" ∷ []) ≡ Gives [] closing_host (Noted (codes "a") ∷ []))
    × (commands no_groups closing_host (codes "class" ∷ codes "exists" ∷ codes "g" ∷ []) ≡ Gives (codes "0") closing_host [])
    × (commands no_groups closing_host (codes "TCP::respond" ∷ codes "a" ∷ []) ≡ Faults (not_here (codes "TCP::respond")) closing_host [])
    × (commands no_groups accepted (codes "TCP::collect" ∷ codes "1" ∷ []) ≡ Gives [] collecting [])
    × (commands no_groups accepted (codes "LB::detach" ∷ []) ≡ Faults (not_here (codes "LB::detach")) accepted [])
    × (commands no_groups accepted (codes "after" ∷ codes "5" ∷ []) ≡ Asks (codes "after" ∷ codes "5" ∷ []) accepted)
    × (commands no_groups accepted (codes "HTTP::uri" ∷ []) ≡ Faults (no_command (codes "HTTP::uri")) accepted [])
    × (commands no_groups accepted [] ≡ Faults (no_command []) accepted [])
unfolding commands digits
command_rows = (refl, refl, refl, refl, refl, refl, refl, refl, refl, refl, refl)

-- a body of an event runs, where the host's state is so
abbrev answers : EventName → List Handler
answers LbFailed = responds (codes "x") ∷ []
answers other = []

abbrev answer_setup : Setup
answer_setup = setup no_level [] answers

abbrev in_body : EventName → HostState → TraceState
in_body e h = record (start answer_setup no_stream no_answers) { phase = InEvent e (Running (responds (codes "x")) [] 0); host = record h { event = e } }

abbrev first : HostState
first = first_host answer_setup

-- what its bodies did and asked for
abbrev wishing : (Wishes → Wishes) → HostState
wishing f = with_net (λ s. record s { wishes = f s.wishes }) first

-- the bodies of one event may send 1,114,112 bytes together; the next event begins anew
limit_row : trace 3 answer_setup (in_body ClientAccepted (wishing (λ w. record w { sent = 1114112 })))
    ≡ Ran ClientAccepted 3 ∷ Logged (codes "TCL error: row <CLIENT_ACCEPTED> - text too long") ∷ Finished (Tcl TooLong) ∷ []
unfolding next_item evaluate commands
limit_row = refl

anew_row : (trace 4 answer_setup (in_body ClientAccepted (wishing (λ w. record w { sent = 1114111 }))) ≡ Sent ToClient (codes "x") ∷ Ran ClientAccepted 3 ∷ Resumed ∷ Opened BeforeBodies ∷ [])
    × ((behind 3 answer_setup (in_body ClientAccepted (wishing (λ w. record w { sent = 1114111 })))).host.net.wishes.sent ≡ 0)
unfolding next_item evaluate commands
anew_row = (refl, refl)

-- a command that its event hasn't: no text is sent there
elsewhere_row : trace 2 answer_setup (in_body LbFailed first) ≡ Ran LbFailed 3 ∷ Logged (codes "TCL error: row <LB_FAILED> - TCP::respond: not allowed here") ∷ []
unfolding next_item evaluate commands
elsewhere_row = refl

-- what a body asked for decides where its event leads
abbrev ending : Ending → TraceState
ending e = in_body ClientAccepted (wishing (λ w. record w { ends = Some e }))

ends_rows :
    (trace 3 answer_setup (ending Rejects) ≡ Sent ToClient (codes "x") ∷ Ran ClientAccepted 3 ∷ Finished Rejected ∷ [])
    × (trace 3 answer_setup (ending Closes) ≡ Sent ToClient (codes "x") ∷ Ran ClientAccepted 3 ∷ Finished Closed ∷ [])
unfolding next_item evaluate commands
ends_rows = (refl, refl)

abbrev in_quiet_body : EventName → HostState → TraceState
in_quiet_body e h = record (in_body e h) { phase = InEvent e (Running sets [] 0) }

leads_rows :
    ((behind 1 answer_setup (in_quiet_body LbFailed (wishing (λ w. record w { reselects = true })))).phase ≡ Choosing)
    × ((behind 1 answer_setup (in_quiet_body ClientData (wishing (λ w. record w { released = true })))).phase ≡ Choosing)
    × ((behind 1 answer_setup (in_quiet_body ClientData first)).phase ≡ Collecting)
    × ((behind 1 answer_setup (in_quiet_body ClientAccepted (collects (stated 1) first))).phase ≡ Collecting)
unfolding next_item evaluate commands
leads_rows = (refl, refl, refl, refl)

-- a collect is met by just as many bytes; nothing is passed of no bytes, nor more than there are
exact_rows :
    (trace 1 collect_setup (record collect_start { host = collects (stated 5) collect_start.host }) ≡ Fired Client 5 ∷ [])
    × (next_item relay_setup (record (behind 3 relay_setup (relay_start false)) { answers = record no_answers { choices = PassesOn Client 0 ∷ [] } }) ≡ Waits (ForRelay Passable Passable))
    × (next_item relay_setup (record (behind 3 relay_setup (relay_start false)) { answers = record no_answers { choices = PassesOn Client 4 ∷ [] } }) ≡ Waits (ForRelay Passable Passable))
unfolding next_item
exact_rows = (refl, refl, refl)

-- the phases of a relay, from its start to its end
abbrev name_at : ℕ → Name
name_at n = phase_of (behind n relay_setup (relay_start true))

phase_rows : map name_at (0 ∷ 1 ∷ 2 ∷ 3 ∷ 4 ∷ 6 ∷ 7 ∷ [])
    ≡ name.Select ∷ name.Connect ∷ name.Connect ∷ name.Relay ∷ name.Relay ∷ name.Relay ∷ name.Drain ∷ []
unfolding next_item
phase_rows = refl

-- SERVER_CLOSED where there is a server
abbrev closing_setup : Setup
closing_setup = setup no_level [] closing_bodies

closing_row : trace 9 closing_setup (record (behind 6 relay_setup (relay_start true)) { phase = Relaying })
    ≡ Finished Closed ∷ Ran ServerClosed 2 ∷ Ran ClientClosed 2 ∷ []
unfolding next_item evaluate commands
closing_row = refl

-- the next body of an event reads what the one before set
abbrev sets_and_reads : EventName → List Handler
sets_and_reads ClientAccepted = sets ∷ reads ∷ []
sets_and_reads other = []

variables_row : trace 4 (setup no_level [] sets_and_reads) (start (setup no_level [] sets_and_reads) no_stream no_answers)
    ≡ Opened BeforeBodies ∷ Ran ClientAccepted 4 ∷ Sent ToClient (codes "hi 7") ∷ Ran ClientAccepted 4 ∷ []
unfolding next_item evaluate commands
variables_row = refl

-- what an event begins with, and what a connection keeps
abbrev released_before : TraceState
released_before = record collect_start {
  host = with_net (λ s. record s { wishes = record s.wishes { released = true; reselects = true }; client = record (stated 3) { held = codes "ha" } }) collect_start.host;
}

begins_rows :
    ((behind 1 collect_setup released_before).host.net.wishes.released ≡ false) × ((behind 1 collect_setup released_before).host.net.wishes.reselects ≡ false)
    × ((behind 1 collect_setup released_before).host.net.client ≡ record { asks = NotAsked; held = codes "hahel" })
    × ((behind 1 collect_setup released_before).host.net.relays ≡ false) × ((behind 3 relay_setup (relay_start false)).host.net.relays ≡ true)
    × ((behind 1 answer_setup (record (in_body ClientAccepted (with_selected (Some (record { pool = []; addr = node_at })) first)) { phase = Choosing })).host.net.selected ≡ None)
    × ((behind 3 collect_setup connect_start).host.net.loose ≡ [])
unfolding next_item
begins_rows = (refl, refl, refl, refl, refl, refl, refl)

-- bytes that a collect holds, or that were released before, go before the half-close
abbrev holding : HostState → TraceState
holding h = record (behind 6 relay_setup (relay_start false)) { host = h }

owed_rows :
    (half_close_due (holding (first_host relay_setup)) (took 0 3) Server ≡ true)
    × (half_close_due (holding (collects (record { asks = NotAsked; held = codes "a" }) (first_host relay_setup))) (took 0 3) Server ≡ false)
    × (half_close_due (holding (with_loose (codes "a") (first_host relay_setup))) (took 0 3) Server ≡ false)
    × (half_close_due (holding (first_host relay_setup)) (record { client = Some 0; servers = None ∷ [] }) Server ≡ false)
unfolding next_item
owed_rows = (refl, refl, refl, refl)
