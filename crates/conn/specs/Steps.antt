-- What a step of a body changes.
use Rattle.std.specs.Prelude.{◌≡◌, ℕ, ◌+◌, List, [], ◌∷◌, ◌++◌, true, Option, Some, None}
use Rattle.px_bytes.specs.Host.{Effect}
use Rattle.px_bytes.specs.declared.fault.TclFault.{TclFault}
use Rattle.rule_model.specs.Outcome.{uncaught_of}
use Rattle.conn_trace.specs.Host.{commands}
use Rattle.conn_trace.specs.Setup.{Handler, uncaught_line}
use Rattle.core_events.specs.declared.note.Note.{Note}
use Rattle.frames.specs.Given.{setting}
use Rattle.frames.specs.Went.{Went, place}
use Rattle.frames.specs.declared.turn.Turn.{Turn}
use Rattle.frames.specs.declared.turn.Turn.TheVariants as turn
use Rattle.conn.specs.declared.body_step.Said.{Said}
use Rattle.conn.specs.declared.body_step.Said.TheVariants as said
use Rattle.conn.specs.declared.connection.Conn.{Conn}
use Rattle.conn.specs.declared.ends.Ends.{Ends}
use Rattle.conn.specs.declared.events.At.{At}
use Rattle.conn.specs.declared.setup.Setup.{Setup}
use Rattle.conn.specs.declared.stage.Stage.TheVariants as stage
use Rattle.conn.specs.declared.turn.Act.{Act}
use Rattle.conn.specs.declared.turn.Act.TheVariants as act
use Rattle.conn.specs.Bodies.{SaidIs}
use Rattle.conn.specs.Changes.{GoesTo, NextBody}
use Rattle.conn.specs.Events.{event_of}
use Rattle.conn.specs.Hosts.{Made, cleared_host, client_bytes, logs_of, made_in, seen_host, server_bytes}
use Rattle.conn.specs.Relaying.{queue_end}
use Rattle.conn.specs.Setups.{body_at}

-- what one command made
abbrev pub one_of : List Effect → List Effect
one_of (e ∷ []) = e ∷ []
one_of es = []

-- bytes are queued to both ends
abbrev pub queue_both : List ℕ → List ℕ → Ends → Ends
queue_both to_client to_server e = record e {
  client = queue_end to_client e.client;
  server = queue_end to_server e.server;
}

-- it is done: a line is noted, and bytes go to a side
pub record DoesMade (c : ℕ) (old new : Conn) (before after : List Note) : Type 0 where
  pub there : new.stage ≡ old.stage
  pub body : new.body ≡ old.body
  pub vars : new.vars ≡ old.vars
  pub host : new.host ≡ old.host
  pub ends : new.ends ≡ queue_both (client_bytes (one_of (made_in old.host)))
      (server_bytes (one_of (made_in old.host))) old.ends
  pub noted : after ≡ before ++ logs_of c (one_of (made_in old.host))

-- what a step said, with the line of a fault that it left uncaught
abbrev pub ended_of : Handler → At → Option TclFault → Said
ended_of h at None = said.Over
ended_of h at (Some fault) = said.Fails fault.kind (uncaught_line h.rule (event_of at) fault.text)

abbrev pub said_of : Handler → At → Turn → Said
said_of h at turn.More = said.More
said_of h at (turn.Asks call) = said.Asks call
said_of h at (turn.Done code) = ended_of h at (uncaught_of code)

-- where it goes on
abbrev pub GoesOn : Setup → At → ℕ → Said → Conn → Conn → Act → Type 0
GoesOn s at number said.More old new a = (a ≡ act.Goes) × (new ≡ old)
GoesOn s at number (said.Asks call) old new a =
    (a ≡ act.Asks call) × (new ≡ record old { stage = stage.Asking at number })
GoesOn s at number said.Over old new a = (a ≡ act.Goes) × NextBody s at (number + 1) old new
GoesOn s at number (said.Fails kind line) old new a =
    (a ≡ act.Goes) × GoesTo (stage.Failing at (number + 1) kind line) old new

-- a body's step with so many ticks, what its command made, and what it led to
pub record BodySteps (s : Setup) (h : Handler) (c : ℕ) (at : At) (number : ℕ) (old new : Conn)
    (before after : List Note) (a : Act) (ticks : ℕ) : Type 0 where
  pub stepped : Conn
  pub mid : Conn
  pub turned : Turn
  pub there : stepped.stage ≡ old.stage
  pub ends : stepped.ends ≡ old.ends
  pub went : old.body.runs ≡ true
      → Went (setting (Some s.statics.now.statics) (commands s.groups.now) h.procedures)
      h.body (place old.body.machine.at old.vars (seen_host old.host))
      (place stepped.body.machine.at stepped.vars (seen_host stepped.host)) turned
      (λ es. Made (cleared_host old.host) es stepped.host) ticks
  pub said_is : old.body.runs ≡ true → SaidIs turned stepped.body
  pub does : DoesMade c stepped mid before after
  pub goes_on : GoesOn s at number (said_of h at turned) mid new a

abbrev pub BodyMovedBy : Setup → Option Handler → ℕ → At → ℕ → Conn → Conn → List Note → List Note
    → Act → (ticks : ℕ) → Type 0
BodyMovedBy s None c at number old new before after a ticks =
    (a ≡ act.Rests) × (new ≡ old) × (after ≡ before)
BodyMovedBy s (Some h) c at number old new before after a ticks =
    BodySteps s h c at number old new before after a ticks

abbrev pub BodyMoved : Setup → ℕ → At → ℕ → Conn → Conn → List Note → List Note → Act → (ticks : ℕ)
    → Type 0
BodyMoved s c at number old new before after a ticks =
    BodyMovedBy s (body_at s at number) c at number old new before after a ticks
