-- What a connection is followed by, from its own fields: whatever may still come, its trace is what
-- was given, and then this.
use Rattle.std.specs.Prelude.{◌≡◌, ℕ, ◌+◌, ◌-◌, List, [], ◌∷◌, ◌++◌, length, map, take, drop}
use Rattle.std.specs.Prelude.{Option, Some, None, if◌then◌else◌}
use Rattle.px_bytes.specs.declared.fault.Reply.{Reply}
use Rattle.event_order.specs.declared.event.EventName.{EventName}
use Rattle.rule_model.specs.Laws.{state_after}
use Rattle.rule_model.specs.Outcome.{Act, Outcome}
use Rattle.conn_trace.specs.Bodies.{act_item, ended_next}
use Rattle.conn_trace.specs.Further.{Further, longer, replies_only}
use Rattle.conn_trace.specs.Gates.{Counts, TakenCounts, Met, sent_from}
use Rattle.conn_trace.specs.HeardLaws.{taken_by_items}
use Rattle.conn_trace.specs.Host.{HostState, body_setting}
use Rattle.conn_trace.specs.Item.{Item}
use Rattle.conn_trace.specs.Laws.{TakesMore}
use Rattle.conn_trace.specs.Setup.{Handler, Setup}
use Rattle.conn_trace.specs.State.{Gated, Running, Failing, Phase, InEvent, Stream}
use Rattle.conn_trace.specs.State.{Cut, Answers, TraceState, Next, no_stream, no_answers}
use Rattle.core_events.specs.declared.note.Note.{Note}
use Rattle.conn_trace.specs.State as phase
use Rattle.conn_trace.specs.Trace.{counted, next_item, selected_next, Unfolds, trace_from}
use Rattle.conn_trace.specs.Trace.{trace, start}
use Rattle.frames.specs.Frames.{comes_to}
use Rattle.irule_net.specs.declared.state.NetState.{NetState}
use Rattle.px_bytes.specs.declared.addr.Side.{Side}
use Rattle.conn.specs.declared.connection.Conn.{Conn}
use Rattle.conn.specs.declared.ends.Ends.{Ends}
use Rattle.conn.specs.declared.ends.Link.{Link}
use Rattle.conn.specs.declared.ends.Link.TheVariants as link
use Rattle.conn.specs.declared.stage.Stage.{Stage}
use Rattle.conn.specs.declared.stage.Stage.TheVariants as stage
use Rattle.conn.specs.declared.turn.ConnTurn.{ConnTurn}
use Rattle.conn.specs.Ends.{arrived, behind_of, connects_by, is_taken, server_by}
use Rattle.conn.specs.Calls.{took_more, Takes, Replies}
use Rattle.conn.specs.Events.{event_of}
use Rattle.conn.specs.Holds.{Around, call_of, fresh, Holds}
use Rattle.conn.specs.Hosts.{seen_host}
use Rattle.conn.specs.Runs.{GoesOnWith}
use Rattle.conn.specs.Stages.{has_finished, reason_for}

-- the phase before, in and behind the bodies of an event
abbrev pub gated_phase : EventName → List Handler → Phase
gated_phase e [] = phase.Draining
gated_phase e (b ∷ bs) = InEvent e (Gated b bs)

abbrev pub begun_phase : EventName → List Handler → Phase
begun_phase e [] = phase.Draining
begun_phase e (b ∷ bs) = InEvent e (Running b bs 0)

abbrev pub phase_at : Setup → NetState → Stage → Phase
phase_at g net (stage.Gated at) = gated_phase (event_of at) (g.handlers (event_of at))
phase_at g net (stage.Running at n) = begun_phase (event_of at) (drop n (g.handlers (event_of at)))
phase_at g net (stage.Asking at n) = begun_phase (event_of at) (drop n (g.handlers (event_of at)))
phase_at g net (stage.Failing at n kind line) =
    InEvent (event_of at) (Failing kind line (drop n (g.handlers (event_of at))))
phase_at g net stage.Choosing = phase.Choosing
phase_at g net stage.Selecting = phase.Selecting (call_of g net)
phase_at g net (stage.Chosen addr) = phase.Selecting (call_of g net)
phase_at g net (stage.Connecting to) = phase.Connecting to
phase_at g net (stage.Answering to) = phase.Answering to
phase_at g net stage.Collecting = phase.Collecting
phase_at g net stage.AtHead = phase.AtHead
phase_at g net stage.Continuing = phase.Continuing
phase_at g net (stage.Gathering side wanted reader) = phase.Gathering side wanted reader
phase_at g net stage.AtReuse = phase.AtReuse
phase_at g net (stage.GivingUp b) = phase.GivingUp (behind_of b)
phase_at g net (stage.Retiring b) = phase.Retiring (behind_of b)
phase_at g net (stage.Heading side) = phase.Heading side
phase_at g net (stage.Forwarding side reader standing) = phase.Forwarding side reader standing
phase_at g net stage.AtResponse = phase.AtResponse
phase_at g net (stage.Dropping reader) = phase.Dropping reader
phase_at g net stage.Releasing = phase.Releasing
phase_at g net (stage.Relaying first) = phase.Relaying
phase_at g net (stage.Finishing f) = phase.Finishing (reason_for f)
phase_at g net other = phase.Draining

-- as many server connections as were made, but for one whose answer wasn't taken
abbrev pub made_by : Link → ℕ → ℕ
made_by link.Made n = n - 1
made_by other n = n

-- What was taken, and what waits for a side, was sent to it. Where no server connection is there so
-- much was sent to the one before.
abbrev pub sent_by : (before : ℕ) → Around → Ends → Counts
sent_by before a e = record {
  client = length e.client.queued + a.counted;
  server = if is_taken e.link then length e.server.queued + a.counted_server else before;
  number = made_by e.link (length a.took.servers);
}

-- where its trace stands, by its own fields
abbrev pub own_state : Setup → Around → (before : ℕ) → Conn → TraceState
own_state g a before c = record {
  phase = phase_at g c.host.net c.stage;
  vars = c.vars;
  host = seen_host c.host;
  finished = has_finished c.stage;
  client = arrived c.ends.client;
  server = server_by c.ends.link c.ends.server;
  sent = sent_by before a c.ends;
  answers = record {
    replies = [];
    connects = connects_by c.ends.link c.ends.server;
    choices = [];
    cut = None;
  };
}

-- these items, and then what this says
pub record Ahead : Type 0 where
  pub items : List Item
  pub next : Next

abbrev pub items_of : ℕ → Setup → Ahead → List Item
items_of n g ahead = take n (ahead.items ++ trace_from n g ahead.next)

-- a body that comes to this: these acts are left of it, and then its end or its call
abbrev pub body_ahead : Setup → EventName → Handler → List Handler → TraceState → List Act
    → Outcome HostState → Ahead
body_ahead g e b bs l acts o =
    let items = map (act_item l.sent.number) acts in
    let given = record l { sent = sent_from l.sent items } in
    record { items = items; next = ended_next g e b bs given o }

-- The first of these bodies runs, at this cost so far: its frames end it, and no more of it is
-- evaluated. Where it waits for a reply its call was given.
abbrev pub first_ahead : Setup → Conn → EventName → List Handler → (waiting cost : ℕ) → TraceState
    → Ahead
first_ahead g c e [] waiting cost l = record { items = []; next = next_item g l }
first_ahead g c e (b ∷ bs) waiting cost l =
    let o = comes_to (body_setting g b.procedures) b.body c.body.machine.at c.vars
    (seen_host c.host) l.answers.replies cost [] in
    body_ahead g e b bs l (drop waiting (state_after o).acts) o

-- Where the reply came that selects an address or none, that comes first.
abbrev pub ahead_at : Stage → Setup → Conn → (cost : ℕ) → TraceState → Ahead
ahead_at (stage.Chosen addr) g c cost l =
    record { items = []; next = counted l.sent (selected_next g l l.answers.replies addr) }
ahead_at (stage.Running at n) g c cost l =
    first_ahead g c (event_of at) (drop n (g.handlers (event_of at))) 0 cost l
ahead_at (stage.Asking at n) g c cost l =
    first_ahead g c (event_of at) (drop n (g.handlers (event_of at))) 1 cost l
ahead_at other g c cost l = record { items = []; next = next_item g l }

-- the first n items that follow on this further input, where the body that runs has this cost
abbrev pub rest : Setup → Around → Conn → (before cost : ℕ) → Further → ℕ → List Item
rest g a c before cost f n =
    items_of n g (ahead_at c.stage g c cost (longer f (own_state g a before c)))

-- these items were given, each let through its gate, and it holds what stands behind them
pub record Continues (g : Setup) (a : Around) (l : TraceState) (given : List Item)
    (at : TraceState) (c : Conn) : Type 0 where
  pub passed : Unfolds g l given at
  pub met : Met l.sent a.took given
  pub holds : Holds g a at c

-- a reply came
abbrev pub replied : Reply → TraceState → TraceState
replied reply l = longer (replies_only (reply ∷ [])) l

-- a cut may come with as much taken as now, or more
abbrev pub MayCome : TakenCounts → Option Cut → Type 0
MayCome took None = Unit {0}
MayCome took (Some cut) = TakesMore took cut.took

-- Whatever may still come, its trace is what was given, and then what follows by its own fields.
abbrev pub ConnectionContinues : Type 0
ConnectionContinues =
    (g : Setup) (a : Around) (client : Stream) (answers : Answers) (given : List Item)
    (at : TraceState) (c : Conn)
    → answers.cut ≡ None → Continues g a (start g client answers) given at c
    → (before : ℕ) × (cost : ℕ) × ((f : Further) (n : ℕ) → MayCome a.took f.cut
    → trace (length given + n) g (longer f (start g client answers))
    ≡ given ++ rest g a c before cost f n)

-- Each call keeps it: what a connection gives stands behind what it gave before.
pub record CallsContinue : Type 0 where
  pub begins : (g : Setup) (c : Conn) → Holds g fresh (start g no_stream no_answers) c
      → Continues g fresh (start g no_stream no_answers) [] (start g no_stream no_answers) c
  pub takes : (g : Setup) (a : Around) (l : TraceState) (given : List Item) (at : TraceState)
      (side : Side) (n : ℕ) (old new : Conn) → Takes side n old new
      → Continues g a l given at old → Continues g (took_more side n a) l given at new
  pub replies : (g : Setup) (a : Around) (l : TraceState) (given : List Item) (at : TraceState)
      (reply : Reply) (old new : Conn) → Replies reply old new
      → Continues g a l given at old
      → Continues g a (replied reply l) given (replied reply at) new
  pub runs : (g : Setup) (a : Around) (l : TraceState) (given : List Item) (at : TraceState)
      (c : ℕ) (old new : Conn) (group : List Note) (t : ConnTurn) (steps : ℕ)
      → l.answers.cut ≡ None → (r : GoesOnWith g a at c old new group t steps)
      → Continues g a l given at old
      → Continues g a (longer (taken_by_items a.took r.more) l) (given ++ r.more) r.at new
