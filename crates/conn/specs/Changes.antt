-- Where a connection goes between bodies, and as it closes.
use Rattle.std.specs.Prelude.{◌≡◌, ℕ, length, nat_lt, false}
use Rattle.std.specs.Bool.{MatchBool}
use Rattle.conn.specs.declared.connection.Conn.{Conn}
use Rattle.conn.specs.declared.ends.Ends.{Ends}
use Rattle.conn.specs.declared.events.At.{At}
use Rattle.conn.specs.declared.events.At.TheVariants.{Accepted, ClientData, Selected, Failed}
use Rattle.conn.specs.declared.events.At.TheVariants.{Connected, Request, RequestData, Response}
use Rattle.conn.specs.declared.events.At.TheVariants.{ResponseData, ServerData}
use Rattle.conn.specs.declared.events.At.TheVariants.{Leaving}
use Rattle.conn.specs.declared.ends.Behind.{Behind}
use Rattle.conn.specs.declared.ends.Link.TheVariants as link
use Rattle.conn.specs.declared.events.At.TheVariants.{ServerClosed, Closed}
use Rattle.conn.specs.declared.host.RuleHost.{RuleHost}
use Rattle.conn.specs.declared.setup.Setup.{Setup}
use Rattle.conn.specs.declared.stage.Stage.{Stage}
use Rattle.conn.specs.declared.stage.Stage.TheVariants as stage
use Rattle.conn.specs.Bodies.{Fresh}
use Rattle.conn.specs.Ends.{is_sought, is_up}
use Rattle.conn.specs.Hosts.{begun_host}
use Rattle.conn.specs.Setups.{places_at}
use Rattle.conn.specs.Stages.{after_stage, entered_stage}

-- only the stage changes
pub record GoesTo (stage : Stage) (old new : Conn) : Type 0 where
  pub there : new.stage ≡ stage
  pub vars : new.vars ≡ old.vars
  pub host : new.host ≡ old.host
  pub ends : new.ends ≡ old.ends

-- the body of this number begins
pub record StartsBody (s : Setup) (at : At) (number : ℕ) (old new : Conn) : Type 0 where
  pub there : new.stage ≡ stage.Running at number
  pub fresh : Fresh new.body s.budget
  pub vars : new.vars ≡ old.vars
  pub host : new.host ≡ old.host
  pub ends : new.ends ≡ old.ends

-- an event begins, behind what was before
pub record Begins (at : At) (old mid : Conn) : Type 0 where
  pub vars : mid.vars ≡ old.vars
  pub host : mid.host ≡ begun_host at (is_up old.ends.link) old.host
  pub ends : mid.ends ≡ old.ends

-- the bodies of CLIENT_CLOSED run, and then what is queued is to be taken
abbrev pub ClosesBodies : Setup → Conn → Conn → Type 0
ClosesBodies s old new = MatchBool (nat_lt 0 (length (places_at s Closed)))
    (StartsBody s Closed 0 old new) (GoesTo stage.Draining old new)

-- CLIENT_CLOSED comes
pub record ClosesClient (s : Setup) (old new : Conn) : Type 0 where
  pub mid : Conn
  pub begins : Begins Closed old mid
  pub goes : ClosesBodies s mid new

-- all bodies of an event have ended
abbrev pub left_stage : At → Conn → Stage
left_stage at c = after_stage at c.ends.link c.host

abbrev pub Leaves : Setup → At → Conn → Conn → Type 0
Leaves s ServerClosed old new = ClosesClient s old new
Leaves s Accepted old new = GoesTo (left_stage Accepted old) old new
Leaves s ClientData old new = GoesTo (left_stage ClientData old) old new
Leaves s Selected old new = GoesTo (left_stage Selected old) old new
Leaves s Failed old new = GoesTo (left_stage Failed old) old new
Leaves s Connected old new = GoesTo (left_stage Connected old) old new
Leaves s Request old new = GoesTo (left_stage Request old) old new
Leaves s RequestData old new = GoesTo (left_stage RequestData old) old new
Leaves s Response old new = GoesTo (left_stage Response old) old new
Leaves s ResponseData old new = GoesTo (left_stage ResponseData old) old new
Leaves s Leaving old new = GoesTo (left_stage Leaving old) old new
Leaves s ServerData old new = GoesTo (left_stage ServerData old) old new
Leaves s Closed old new = GoesTo (left_stage Closed old) old new

-- the body of this number begins where there is one, and else the event is over
abbrev pub NextBody : Setup → At → ℕ → Conn → Conn → Type 0
NextBody s at number old new = MatchBool (nat_lt number (length (places_at s at)))
    (StartsBody s at number old new) (Leaves s at old new)

-- SERVER_CLOSED comes
pub record ClosesServer (s : Setup) (old new : Conn) : Type 0 where
  pub mid : Conn
  pub begins : Begins ServerClosed old mid
  pub goes : NextBody s ServerClosed 0 mid new

-- the closing events come: that of the server where it was asked for or is there
abbrev pub Closes : Setup → Conn → Conn → Type 0
Closes s old new =
    MatchBool (is_sought old.ends.link) (ClosesServer s old new) (ClosesClient s old new)

-- the server connection is given up: its closing event comes
pub record LeavesServer (s : Setup) (b : Behind) (old new : Conn) : Type 0 where
  pub mid : Conn
  pub vars : mid.vars ≡ old.vars
  pub host : mid.host ≡ begun_host Leaving false old.host
  pub ends : mid.ends ≡ record old.ends { link = link.Leaving b }
  pub goes : NextBody s Leaving 0 mid new

-- an event is entered on this host, with these ends
pub record Enters (s : Setup) (at : At) (h : RuleHost) (e : Ends) (old new : Conn)
    : Type 0 where
  pub there : new.stage ≡ entered_stage s at e.link new.host
  pub vars : new.vars ≡ old.vars
  pub host : new.host ≡ begun_host at (is_up e.link) h
  pub ends : new.ends ≡ e
