-- Where a connection stands between two items, with all that is still to come.
use Rattle.std.specs.Prelude.{ℕ, List, [], ◌∷◌, drop, Bool, false, Option, Some, None}
use Rattle.px_bytes.specs.declared.addr.Addr.{Addr}
use Rattle.px_bytes.specs.declared.addr.Side.{Side}
use Rattle.px_bytes.specs.declared.addr.Side.TheVariants.{Client, Server}
use Rattle.px_bytes.specs.declared.fault.FaultKind.{FaultKind}
use Rattle.px_bytes.specs.declared.fault.Reply.{Reply}
use Rattle.tcl_vars.specs.Scopes.{Scopes}
use Rattle.event_order.specs.declared.event.EventName.{EventName}
use Rattle.core_events.specs.declared.note.CutReason.{CutReason}
use Rattle.conn_trace.specs.Item.{Reason, Choice, Item, Taking, shown}
use Rattle.conn_trace.specs.Gates.{Counts, TakenCounts}
use Rattle.http_frames.specs.declared.state.BodyState.{BodyState}
use Rattle.conn_trace.specs.Setup.{Handler}
use Rattle.conn_trace.specs.Host.{HostState}

-- where the bodies of an event stand
pub data Bodies : Type 0 where
  -- before the first of them, at the gate
  Gated : Handler → List Handler → Bodies
  -- the first of them runs, and so many of its acts were given
  Running : Handler → List Handler → ℕ → Bodies
  -- one left a fault uncaught, whose line is to be logged; these stand behind it
  Failing : FaultKind → (line : List ℕ) → List Handler → Bodies

-- when a server connection is given up: before another is selected, or behind a message
pub data Behind : Type 0 where
  BeforeSelect : Behind
  BehindMessage : Behind

pub data Phase : Type 0 where
  -- the client's next head is read
  AtHead : Phase
  -- the client is told to go on with its request
  Continuing : Phase
  -- so many bytes more of a side's body are gathered
  Gathering : Side → (wanted : ℕ) → BodyState → Phase
  -- the server connection is used again, or not
  AtReuse : Phase
  -- the server connection is given up
  GivingUp : Behind → Phase
  -- its closing event has run
  Retiring : Behind → Phase
  -- the head of a side's message is sent on, with what was gathered
  Heading : Side → Phase
  -- the units of its body go behind that
  Forwarding : Side → BodyState → (standing : Bool) → Phase
  -- what is left of an answered request's body is dropped
  Dropping : BodyState → Phase
  -- the server's next head is read
  AtResponse : Phase
  -- the bodies of an event run
  InEvent : EventName → Bodies → Phase
  -- a server is to be selected
  Choosing : Phase
  -- by this shared call
  Selecting : (call : List (List ℕ)) → Phase
  -- it is to be asked for a connection
  Connecting : Addr → Phase
  -- it was asked
  Answering : Addr → Phase
  -- the client's released bytes go to the server
  Releasing : Phase
  -- bytes are passed on both ways
  Relaying : Phase
  -- the client's bytes are collected
  Collecting : Phase
  -- it finishes for this reason
  Finishing : Reason → Phase
  -- what is queued is taken
  Draining : Phase

-- a side's bytes that weren't read yet, and whether no more follow
pub record Stream : Type 0 where
  pub unread : List ℕ
  pub ended : Bool

pub data ServerSide : Type 0 where
  NoServer : ServerSide
  -- a connection was asked for
  Sought : ServerSide
  There : Stream → ServerSide
  -- its closing event runs before it is given up
  Leaving : Behind → Stream → ServerSide
  -- given up, and still draining
  Retired : Stream → ServerSide

-- the server's side without its bytes
pub data Link : Type 0 where
  Absent : Link
  Asked : Link
  Up : Link
  Left : Behind → Link
  GivenUp : Link

abbrev pub link_of : ServerSide → Link
link_of NoServer = Absent
link_of Sought = Asked
link_of (There s) = Up
link_of (Leaving b s) = Left b
link_of (Retired s) = GivenUp

-- that a connection was cut, and how many bytes were taken then
pub record Cut : Type 0 where
  pub reason : CutReason
  pub took : TakenCounts

-- The recorded answers that weren't taken yet. A connect answer is the stream of the connection
-- that was made, or None.
pub record Answers : Type 0 where
  pub replies : List Reply
  pub connects : List (Option Stream)
  pub choices : List Choice
  pub cut : Option Cut

-- Where a connection stands: its phase, the variables of its rules, the host's state, whether it
-- has finished, what it didn't read yet of both streams, how much was sent, and the answers that it
-- didn't take yet. While a body runs, variables, host and replies are those of its start.
pub record TraceState : Type 0 where
  pub phase : Phase
  pub vars : Scopes
  pub host : HostState
  pub finished : Bool
  pub client : Stream
  pub server : ServerSide
  pub sent : Counts
  pub answers : Answers

-- of a side: its collect is met, or it has bytes to be passed on, or neither
pub data Ready : Type 0 where
  Nothing : Ready
  Passable : Ready
  IsMet : Ready

-- what a connection waits for
pub data WaitKind : Type 0 where
  -- bytes of a side
  ForBytes : Side → WaitKind
  -- whether a server connection is made
  ForConnect : WaitKind
  -- the reply to a shared call
  ForReply : (call : List (List ℕ)) → WaitKind
  -- bytes to pass on or to collect, where the client's and the server's side are so ready
  ForRelay : Ready → Ready → WaitKind
  -- whether the server connection is used again
  ForReuse : WaitKind
  -- nothing but to be cut
  ForCut : WaitKind

-- what comes next: an item, with where it then stands; a wait, where streams and answers give
-- nothing; or nothing any more
pub data Next : Type 0 where
  Does : Item → TraceState → Next
  Waits : WaitKind → Next
  Over : Next

-- nothing arrived, and nothing is recorded
abbrev pub no_stream : Stream
no_stream = record { unread = []; ended = false }

abbrev pub no_answers : Answers
no_answers = record { replies = []; connects = []; choices = []; cut = None }

-- the server's stream, where it has one
abbrev pub server_stream : ServerSide → Stream
server_stream NoServer = no_stream
server_stream Sought = no_stream
server_stream (There s) = s
server_stream (Leaving b s) = no_stream
server_stream (Retired s) = no_stream

abbrev pub stream_of : Side → TraceState → Stream
stream_of Client l = l.client
stream_of Server l = server_stream l.server

-- n bytes were read
abbrev pub read : ℕ → Stream → Stream
read n s = record s { unread = drop n s.unread }

abbrev pub read_server : ℕ → ServerSide → ServerSide
read_server n NoServer = NoServer
read_server n Sought = Sought
read_server n (There s) = There (read n s)
read_server n (Leaving b s) = Leaving b s
read_server n (Retired s) = Retired s

abbrev pub read_side : Side → ℕ → TraceState → TraceState
read_side Client n l = record l { client = read n l.client }
read_side Server n l = record l { server = read_server n l.server }

-- what an item leaves of the client's stream, and what items leave of it
abbrev pub read_of : Side → ℕ → Stream → Stream
read_of Client n s = read n s
read_of Server n s = s

abbrev pub read_part : Option Taking → Stream → Stream
read_part None s = s
read_part (Some t) s = read_of t.side t.amount s

abbrev pub client_left : List Item → Stream → Stream
client_left [] s = s
client_left (i ∷ items) s = client_left items (read_part (shown i).reads s)

-- it is being given up, and it is
abbrev pub leaving : Behind → ServerSide → ServerSide
leaving b (There s) = Leaving b s
leaving b other = other

abbrev pub retired : ServerSide → ServerSide
retired (Leaving b s) = Retired s
retired other = other

abbrev pub with_choices : List Choice → TraceState → TraceState
with_choices choices l = record l { answers = record l.answers { choices = choices } }

abbrev pub with_replies : List Reply → TraceState → TraceState
with_replies replies l = record l { answers = record l.answers { replies = replies } }

abbrev pub with_connects : List (Option Stream) → TraceState → TraceState
with_connects connects l = record l { answers = record l.answers { connects = connects } }
