-- Worked rows, by computation.
use Rattle.std.proofs.Common.{◌≡◌, refl, ℕ, zero, suc, List, [], ◌∷◌, ◌++◌, ◌+◌, ◌*◌, ◌^◌, Bool, true, false, Some, None, codes}
use Rattle.std.specs.Fmt.{digits}
use Rattle.px_bytes.specs.declared.addr.Addr.{Addr}
use Rattle.px_bytes.specs.declared.addr.Side.TheVariants.{Client, Server}
use Rattle.px_bytes.specs.declared.fault.FaultKind.TheVariants.{NoCommand}
use Rattle.px_bytes.specs.declared.fault.Reply.{Reply}
use Rattle.px_bytes.specs.declared.fault.Reply.TheVariants as reply
use Rattle.tcl_vars.specs.Scopes.{Level, no_level}
use Rattle.tcl_trees.specs.Tree.{Tree, trees_of}
use Rattle.tcl_trees.specs.Tree as tree
use Rattle.tcl_trees.specs.declared.node.Verb.TheVariants as verb
use Rattle.rule_model.specs.Evaluator.{evaluate}
use Rattle.event_order.specs.declared.event.EventName.{EventName}
use Rattle.event_order.specs.declared.event.EventName.TheVariants.{ClientAccepted, ClientData, ClientClosed}
use Rattle.event_order.specs.declared.event.EventName.TheVariants.{ServerData, ServerClosed}
use Rattle.core_events.specs.declared.note.CutReason.TheVariants.{ClientReset}
use Rattle.conn_trace.specs.Item.{Item, BeforeBodies, ToClient, ToServer, Closed, Tcl, Unselected, CutBy, PassesOn, Fires}
use Rattle.conn_trace.specs.Item.{Opened, Resumed, Answered, Moved, Passed, Fired, Called, Connected, Logged, Sent, Ran, Finished, client_output, server_output}
use Rattle.conn_trace.specs.Gates.{TakenCounts}
use Rattle.irule_net.specs.declared.groups.Groups.{Groups}
use Rattle.irule_net.specs.declared.state.Asks.TheVariants.{Stated}
use Rattle.irule_net.specs.declared.state.Collected.{Collected}
use Rattle.irule_net.specs.declared.state.NetState.{NetState}
use Rattle.irule_net.specs.declared.state.Target.{Target}
use Rattle.irule_net.specs.declared.state.Target.TheVariants.{MemberOf, NodeAt}
use Rattle.conn_trace.specs.Http.{no_heads}
use Rattle.conn_trace.specs.Setup.{Handler, Setup}
use Rattle.conn_trace.specs.Host.{HostState, first_host, commands}
use Rattle.conn_trace.specs.Selected.{addr_of}
use Rattle.conn_trace.specs.State.{Collecting, Connecting, Stream, Answers, TraceState, Nothing, ForReply, ForRelay, ForCut, Waits, Over, no_stream, no_answers}
use Rattle.conn_trace.specs.Trace.{next_item, trace, behind, start}
use Rattle.conn_trace.specs.Queries.{half_close_due, wanted}

abbrev word : Tree → Tree
word part = tree.word (trees_of (part ∷ []))

abbrev plain : List ℕ → Tree
plain text = word (tree.plain text)

abbrev script : List Tree → Tree
script commands = tree.script (trees_of commands)

abbrev handler : Tree → Handler
handler body = record { rule = codes "row"; procedures = []; body = body }

-- `TCP::respond TEXT`, `return`, and a command that isn't there
abbrev pub responds : List ℕ → Handler
responds text = handler (script (tree.command verb.Named (trees_of (plain (codes "TCP::respond") ∷ plain text ∷ [])) ∷ []))

abbrev returns : Handler
returns = handler (script (tree.command verb.Return (trees_of (plain (codes "return") ∷ [])) ∷ tree.command verb.Named (trees_of (plain (codes "TCP::respond") ∷ plain (codes "no") ∷ [])) ∷ []))

-- both closing events have a body that does nothing
abbrev pub closing_bodies : EventName → List Handler
closing_bodies ServerClosed = returns ∷ []
closing_bodies ClientClosed = returns ∷ []
closing_bodies other = []

abbrev unknown : Handler
unknown = handler (script (tree.command verb.Named (trees_of (plain (codes "nope") ∷ [])) ∷ []))

abbrev pub node_at : Addr
node_at = record { ip = 2 ^ 24 * 10 + 1; port = 80 }

abbrev pub no_groups : Groups
no_groups = record { classes = []; pools = [] }

abbrev pub client_at : Addr
client_at = record { ip = 2 ^ 24 * 10 + 9; port = 4000 }

abbrev pub setup : Level → (pool : List ℕ) → (EventName → List Handler) → Setup
setup statics pool handlers =
    record { name = codes "v"; port = 9000; pool = pool; http = false; from = client_at; budget = 20000; statics = statics; groups = no_groups; heads = no_heads; handlers = handlers }

-- what the network commands left
abbrev pub with_net : (NetState → NetState) → HostState → HostState
with_net f h = record h { net = f h.net }

-- the rules chose this
abbrev pub towards : Target → TraceState → TraceState
towards target l = record l { host = with_net (λ s. record s { target = target }) l.host }

abbrev pub no_handlers : EventName → List Handler
no_handlers e = []

abbrev pub stream : List ℕ → Bool → Stream
stream unread ended = record { unread = unread; ended = ended }

-- the first path: `set x 7; TCP::respond "hi $x"` is the only body, and there is no server
abbrev sets_x : Tree
sets_x = tree.command verb.Set (trees_of (plain (codes "set") ∷ plain (codes "x") ∷ plain (codes "7") ∷ []))

abbrev says_x : Tree
says_x = tree.command verb.Named (trees_of (plain (codes "TCP::respond") ∷ tree.word (trees_of (tree.plain (codes "hi ") ∷ tree.variable (codes "x") ∷ [])) ∷ []))

abbrev pub sets : Handler
sets = handler (script (sets_x ∷ []))

abbrev pub reads : Handler
reads = handler (script (says_x ∷ []))

abbrev greets : Handler
greets = handler (script (sets_x ∷ says_x ∷ []))

abbrev greet : EventName → List Handler
greet ClientAccepted = greets ∷ []
greet other = []

-- whatever the static variables are, and however many items are asked for
greet_row : (statics : Level) (n : ℕ) → trace (suc (suc (suc (suc (suc n))))) (setup statics [] greet) (start (setup statics [] greet) no_stream no_answers)
    ≡ Opened BeforeBodies ∷ Sent ToClient (codes "hi 7") ∷ Ran ClientAccepted 8 ∷ Resumed ∷ Finished Unselected ∷ []
unfolding next_item evaluate commands
greet_row statics zero = refl
greet_row statics (suc n) = refl

-- `return` ends its body alone: the next one runs
abbrev in_turn : Handler → EventName → List Handler
in_turn first ClientAccepted = first ∷ responds (codes "a") ∷ []
in_turn first other = []

return_row : trace 9 (setup no_level [] (in_turn returns)) (start (setup no_level [] (in_turn returns)) no_stream no_answers)
    ≡ Opened BeforeBodies ∷ Ran ClientAccepted 2 ∷ Sent ToClient (codes "a") ∷ Ran ClientAccepted 3 ∷ Resumed ∷ Finished Unselected ∷ []
unfolding next_item evaluate commands
return_row = refl

-- an uncaught fault is logged, skips the next body and finishes the connection
fault_row : trace 9 (setup no_level [] (in_turn unknown)) (start (setup no_level [] (in_turn unknown)) no_stream no_answers)
    ≡ Opened BeforeBodies ∷ Ran ClientAccepted 2 ∷ Logged (codes "TCL error: row <CLIENT_ACCEPTED> - invalid command name \"nope\"") ∷ Finished (Tcl NoCommand) ∷ []
unfolding next_item evaluate commands
fault_row = refl

-- a line is logged where it comes
abbrev logs : Handler
logs = handler (script (tree.command verb.Named (trees_of (plain (codes "log") ∷ plain (codes "local0.") ∷ plain (codes "a") ∷ [])) ∷ says_x ∷ []))

log_row : trace 4 (setup no_level [] (in_turn logs)) (start (setup no_level [] (in_turn logs)) no_stream no_answers)
    ≡ Opened BeforeBodies ∷ Logged (codes "a") ∷ Ran ClientAccepted 8 ∷ Logged (codes "TCL error: row <CLIENT_ACCEPTED> - can't read \"x\": no such variable") ∷ []
unfolding next_item evaluate commands
log_row = refl

-- a relay that passes bytes both ways; the client has ended
abbrev pub relay_setup : Setup
relay_setup = setup no_level [] no_handlers

abbrev pub relay_start : Bool → TraceState
relay_start ended = towards (NodeAt node_at) (start relay_setup (stream (codes "abc") true) (record no_answers {
  connects = Some (stream (codes "welcome") ended) ∷ [];
  choices = PassesOn Client 2 ∷ PassesOn Server 7 ∷ PassesOn Client 1 ∷ [];
}))

abbrev relayed : List Item
relayed = Resumed ∷ Connected node_at ∷ Answered true ∷ Passed Client (ToServer 1) (codes "ab") ∷ Passed Server ToClient (codes "welcome")
    ∷ Passed Client (ToServer 1) (codes "c") ∷ []

half_closed_row : trace 9 relay_setup (relay_start false) ≡ relayed
unfolding next_item
half_closed_row = refl

half_closed_waits : next_item relay_setup (behind 6 relay_setup (relay_start false)) ≡ Waits (ForRelay Nothing Nothing)
unfolding next_item
half_closed_waits = refl

both_closed_row : trace 9 relay_setup (relay_start true) ≡ relayed ++ Finished Closed ∷ []
unfolding next_item
both_closed_row = refl

both_closed_over : next_item relay_setup (behind 7 relay_setup (relay_start true)) ≡ Over
unfolding next_item
both_closed_over = refl

relay_output : (client_output relayed ≡ codes "welcome") × (server_output 1 relayed ≡ codes "abc")
relay_output = (refl, refl)

-- once the server took all, its half is to be closed; not before, and not the client's
abbrev took : ℕ → ℕ → TakenCounts
took client server = record { client = Some client; servers = Some server ∷ [] }

half_close_rows :
    (half_close_due (behind 6 relay_setup (relay_start false)) (took 0 3) Server ≡ true)
    × (half_close_due (behind 6 relay_setup (relay_start false)) (took 0 2) Server ≡ false)
    × (half_close_due (behind 6 relay_setup (relay_start false)) (took 7 3) Client ≡ false)
unfolding next_item
half_close_rows = (refl, refl, refl)

-- the client resets while the connect answer is awaited
abbrev reset_recorded : Answers
reset_recorded = record no_answers { cut = Some (record { reason = ClientReset; took = record { client = None; servers = [] } }) }

cut_row : trace 9 relay_setup (towards (NodeAt node_at) (start relay_setup (stream (codes "abc") false) reset_recorded)) ≡ Resumed ∷ Connected node_at ∷ Finished (CutBy ClientReset) ∷ []
unfolding next_item
cut_row = refl

-- the client's stated collect of three bytes fires, before there is a server
abbrev pub stated : ℕ → Collected
stated n = record { asks = Stated n; held = [] }

abbrev pub collects : Collected → HostState → HostState
collects c h = with_net (λ s. record s { client = c }) h

abbrev answers_data : EventName → List Handler
answers_data ClientData = responds (codes "ok") ∷ []
answers_data ServerData = responds (codes "no") ∷ []
answers_data other = []

abbrev pub collect_setup : Setup
collect_setup = setup no_level [] answers_data

abbrev pub collect_start : TraceState
collect_start = record (start collect_setup (stream (codes "hello") false) (record no_answers { choices = Fires Client ∷ [] })) {
  phase = Collecting;
  host = collects (stated 3) (first_host collect_setup);
}

collect_row : trace 20 collect_setup collect_start ≡ Fired Client 3 ∷ Opened BeforeBodies ∷ Sent ToClient (codes "ok") ∷ Ran ClientData 3 ∷ []
unfolding next_item evaluate commands
collect_row = refl

collect_waits : next_item collect_setup (behind 4 collect_setup collect_start) ≡ Waits ForCut
unfolding next_item evaluate commands
collect_waits = refl

-- one that needs more bytes waits for them
collect_lacks : next_item collect_setup (record collect_start { host = collects (stated 6) collect_start.host }) ≡ Waits (ForRelay Nothing Nothing)
unfolding next_item
collect_lacks = refl

-- bytes that a collect holds don't count against what may come
wanted_rows :
    (wanted Client collect_start ≡ 65534) × (wanted Client (behind 1 collect_setup collect_start) ≡ 65534)
    × (wanted Client (relay_start false) ≡ 65533) × (wanted Server (behind 2 relay_setup (relay_start false)) ≡ 65529)
    × (wanted Server (behind 6 relay_setup (relay_start false)) ≡ 65536) × (wanted Server (behind 7 relay_setup (relay_start true)) ≡ 65536)
unfolding next_item
wanted_rows = (refl, refl, refl, refl, refl, refl)

-- released bytes go to the server before others; its collect fires, and its event answers it
abbrev pub connect_start : TraceState
connect_start = record (start collect_setup (stream (codes "lo") false) (record no_answers {
  connects = Some (stream (codes "abcd") false) ∷ [];
  choices = Fires Server ∷ PassesOn Client 2 ∷ PassesOn Server 2 ∷ [];
})) {
  phase = Connecting node_at;
  host = with_net (λ s. record s { server = stated 2; loose = codes "hel" }) (first_host collect_setup);
}

connect_row : trace 20 collect_setup connect_start
    ≡ Connected node_at ∷ Answered true ∷ Moved Client 0 (ToServer 1) (codes "hel") ∷ Fired Server 2 ∷ Opened BeforeBodies ∷ Sent (ToServer 1) (codes "no") ∷ Ran ServerData 3
    ∷ Passed Client (ToServer 1) (codes "lo") ∷ Passed Server ToClient (codes "cd") ∷ []
unfolding next_item evaluate commands
connect_row = refl

-- a pool's member is selected by a shared call, and no cut ends that wait; the closing events' bodies run behind the cut, and a
-- fault of one ends it alone
abbrev closes : EventName → List Handler
closes ServerClosed = unknown ∷ []
closes ClientClosed = returns ∷ []
closes other = []

abbrev pool_setup : Setup
pool_setup = setup no_level (codes "p") closes

abbrev pool_start : List Reply → TraceState
pool_start replies = start pool_setup (stream [] false) (record reset_recorded { replies = replies })

abbrev asked : List (List ℕ)
asked = codes "select" ∷ codes "v" ∷ codes "p" ∷ codes "10.0.0.9" ∷ codes "any" ∷ []

asks_row : trace 20 pool_setup (pool_start []) ≡ Called asked ∷ []
unfolding next_item digits
asks_row = refl

asks_waits : next_item pool_setup (behind 1 pool_setup (pool_start [])) ≡ Waits (ForReply asked)
unfolding next_item digits
asks_waits = refl

answered_row : trace 20 pool_setup (pool_start (reply.Ok (codes "10.0.0.1:80") ∷ []))
    ≡ Called asked ∷ Resumed ∷ Connected node_at ∷ Finished (CutBy ClientReset)
    ∷ Ran ServerClosed 2 ∷ Logged (codes "TCL error: row <SERVER_CLOSED> - invalid command name \"nope\"") ∷ Ran ClientClosed 2 ∷ []
unfolding next_item evaluate commands digits
answered_row = refl

-- a member alone
member_row : trace 20 pool_setup (towards (MemberOf (codes "q") node_at) (pool_start [])) ≡ Called (codes "select" ∷ codes "v" ∷ codes "q" ∷ codes "10.0.0.9" ∷ codes "only" ∷ codes "10.0.0.1:80" ∷ []) ∷ []
unfolding next_item digits
member_row = refl

unselected_row : trace 20 pool_setup (pool_start (reply.Ok [] ∷ [])) ≡ Called asked ∷ Resumed ∷ Finished Unselected ∷ Ran ClientClosed 2 ∷ []
unfolding next_item evaluate commands digits
unselected_row = refl

-- a refused connect
refused_row : trace 20 relay_setup (towards (NodeAt node_at) (start relay_setup no_stream (record no_answers { connects = None ∷ [] }))) ≡ Resumed ∷ Connected node_at ∷ Answered false ∷ Finished Unselected ∷ []
unfolding next_item
refused_row = refl

address_rows : (addr_of (codes "10.0.0.1:80") ≡ Some node_at) × (addr_of (codes "10.0.0.1") ≡ None) × (addr_of (codes "10.0.0.01:80") ≡ None) × (addr_of (codes "10.0.256.1:80") ≡ None)
    × (addr_of (codes "10.0.0.1:0") ≡ None)
unfolding digits
address_rows = (refl, refl, refl, refl, refl)
