-- What holds in each phase of a request that is on its way: it isn't answered yet, and what is gathered fits.
use Rattle.std.proofs.Common.{◌≡◌, ap, ◌∙◌, Bool, true, false}
use Rattle.std.specs.Prelude.{⊤, is_some}
use Rattle.px_bytes.specs.declared.addr.Side.TheVariants.{Client, Server}
use Rattle.event_order.specs.declared.event.EventName.{EventName}
use Rattle.event_order.specs.declared.event.EventName.TheVariants.{ClientClosed, ServerClosed, HttpResponse, HttpResponseData}
use Rattle.irule_http.specs.declared.state.Http.{Http}
use Rattle.conn_trace.specs.Host.{http_of}
use Rattle.conn_trace.specs.Places.{Place}
use Rattle.conn_trace.specs.State.{Phase, InEvent, AtHead, Gathering, GivingUp, Retiring, Heading, Forwarding, Dropping, AtResponse, Finishing, Draining}
use Rattle.conn_trace.specs.State.{BehindMessage, Link, Left}
use Rattle.forwarded_requests.proofs.GatherFramed.{Gathers}
use Rattle.forwarded_requests.proofs.HostFramed.{Awaits, Kept, UnlessAnswered}

-- ---- what holds in each phase

abbrev pub Answered : Http → Type 0
Answered h = is_some h.answered_by ≡ true

-- as an event is entered
abbrev pub Enters : EventName → Http → Type 0
Enters HttpResponse h = Answered h
Enters HttpResponseData h = Answered h
Enters ClientClosed h = ⊤
Enters e h = Awaits h

-- a server connection closes as the connection does, behind a message, or before another one is selected
abbrev pub MayClose : (finished : Bool) → Link → Http → Type 0
MayClose true link h = ⊤
MayClose false (Left BehindMessage) h = ⊤
MayClose false link h = Awaits h

-- while the bodies of an event run
abbrev pub Runs : EventName → (finished : Bool) → Link → Http → Type 0
Runs ServerClosed finished link h = MayClose finished link h
Runs e finished link h = Enters e h

abbrev pub InPhase : (finished : Bool) → Link → Phase → Http → Type 0
InPhase finished link (InEvent e bodies) h = Runs e finished link h
InPhase finished link AtHead h = ⊤
InPhase finished link (Gathering Client wanted s) h = Gathers wanted s h
InPhase finished link (Gathering Server wanted s) h = Answered h
InPhase finished link (GivingUp BehindMessage) h = ⊤
InPhase finished link (Retiring BehindMessage) h = ⊤
InPhase finished link (Heading Server) h = ⊤
InPhase finished link (Forwarding side s standing) h = ⊤
InPhase finished link (Dropping s) h = ⊤
InPhase finished link AtResponse h = ⊤
InPhase finished link (Finishing r) h = ⊤
InPhase finished link Draining h = ⊤
InPhase finished link p h = Awaits h

-- whether the connection has finished, and by which server's side
pub record FramedPlace (finished : Bool) (link : Link) (p : Place) : Type 0 where
  pub phase : InPhase finished link p.phase (http_of p.host)
  pub host : UnlessAnswered (http_of p.host)

-- ---- it stays

pub answered_kept : (a b : Http) → Kept a b → Answered a → Answered b
answered_kept a b k is = ap is_some k.answered_by ∙ is

pub enters_kept : (e : EventName) (a b : Http) → Kept a b → Enters e a → Enters e b
enters_kept HttpResponse a b k is = answered_kept a b k is
enters_kept HttpResponseData a b k is = answered_kept a b k is
enters_kept ClientClosed a b k is = tt
enters_kept e a b k is = k.answered_by ∙ is

pub may_close_kept : (finished : Bool) (link : Link) (a b : Http) → Kept a b → MayClose finished link a → MayClose finished link b
may_close_kept true link a b k is = tt
may_close_kept false (Left BehindMessage) a b k is = tt
may_close_kept false link a b k is = k.answered_by ∙ is

pub runs_kept : (e : EventName) (finished : Bool) (link : Link) (a b : Http) → Kept a b → Runs e finished link a → Runs e finished link b
runs_kept ServerClosed finished link a b k is = may_close_kept finished link a b k is
runs_kept e finished link a b k is = enters_kept e a b k is

pub awaits_may_close : (finished : Bool) (link : Link) (h : Http) → Awaits h → MayClose finished link h
awaits_may_close true link h is = tt
awaits_may_close false (Left BehindMessage) h is = tt
awaits_may_close false link h is = is

pub enters_runs : (e : EventName) (finished : Bool) (link : Link) (h : Http) → Enters e h → Runs e finished link h
enters_runs ServerClosed finished link h is = awaits_may_close finished link h is
enters_runs e finished link h is = is
