-- What the bodies of an event do next: their acts one after another, then their end.
use Rattle.std.specs.Prelude.{ℕ, ◌+◌, List, Option, Some, None, slice_get}
use Rattle.px_bytes.specs.declared.addr.Side.{Side}
use Rattle.px_bytes.specs.declared.addr.Side.TheVariants.{Client, Server}
use Rattle.rule_model.specs.Host as effect
use Rattle.rule_model.specs.Evaluator.{evaluate}
use Rattle.rule_model.specs.Outcome.{Act, Did, Outcome, Ends, Waits as Stops, uncaught_of}
use Rattle.rule_model.specs.Outcome as act
use Rattle.rule_model.specs.Laws.{state_after}
use Rattle.event_order.specs.declared.event.EventName.{EventName}
use Rattle.conn_trace.specs.Item.{BeforeBodies, Peer, ToClient, ToServer}
use Rattle.conn_trace.specs.Item.{Item, Opened, Called, Logged, Sent, Ran}
use Rattle.conn_trace.specs.Setup.{Handler, Setup}
use Rattle.conn_trace.specs.Host.{HostState, body_setting}
use Rattle.conn_trace.specs.State.{Bodies, Gated, Running, Failing, InEvent, TraceState}
use Rattle.conn_trace.specs.State.{ForReply, Next, Does, Waits, link_of, with_replies}
use Rattle.conn_trace.specs.Places.{at, after_body, after_fault}

-- what a body does on the variables, the host's state and the replies where it begins
abbrev pub run_body : Setup → Handler → TraceState → Outcome HostState
run_body g b l =
    evaluate (body_setting g b.procedures) b.body l.vars l.host l.answers.replies g.budget

-- the other end of a side, where this is the server connection's number
abbrev pub peer_of : ℕ → Side → Peer
peer_of number Client = ToClient
peer_of number Server = ToServer number

-- the item that an act of a body is
abbrev pub act_item : ℕ → Act → Item
act_item number (Did (effect.Logged text)) = Logged text
act_item number (Did (effect.Sent side bytes)) = Sent (peer_of number side) bytes
act_item number (act.Called path call) = Called call

-- all acts of a body were given
abbrev pub ended_next :
    Setup → EventName → Handler → List Handler → TraceState → Outcome HostState → Next
ended_next g e b bs l (Ends code st) =
    let after = after_body g e l.finished (link_of l.server) b bs (uncaught_of code) st.host in
    Does (Ran e st.cost) (at after (with_replies st.replies (record l { vars = st.vars })))
ended_next g e b bs l (Stops path call st) = Waits (ForReply call)

-- the next act of a body, or its end
abbrev pub act_next :
    EventName → Handler → List Handler → ℕ → TraceState → Option Act → Next → Next
act_next e b bs n l (Some a) end =
    Does (act_item l.sent.number a) (record l { phase = InEvent e (Running b bs (n + 1)) })
act_next e b bs n l None end = end

abbrev pub body_next :
    Setup → EventName → Handler → List Handler → ℕ → TraceState → Outcome HostState → Next
body_next g e b bs n l o =
    act_next e b bs n l (slice_get (state_after o).acts n) (ended_next g e b bs l o)

abbrev pub bodies_next : Setup → EventName → Bodies → TraceState → Next
bodies_next g e (Gated b bs) l =
    Does (Opened BeforeBodies) (record l { phase = InEvent e (Running b bs 0) })
bodies_next g e (Running b bs n) l = body_next g e b bs n l (run_body g b l)
bodies_next g e (Failing kind line bs) l =
    Does (Logged line) (at (after_fault g e l.finished (link_of l.server) kind bs l.host) l)
