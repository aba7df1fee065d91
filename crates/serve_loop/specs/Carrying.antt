-- The calls that notes ask for, in order.
use Rattle.std.specs.Prelude.{◌≡◌, ◌⊎◌, ℕ, List, [], ◌∷◌, ◌++◌, Bool, true, false}
use Rattle.std.specs.Prelude.{Option, Some, None, Result, Ok, Err}
use Rattle.px_bytes.specs.declared.addr.Side.{Side}
use Rattle.px_bytes.specs.declared.addr.Side.TheVariants as side
use Rattle.core_events.specs.declared.note.Note.{Note}
use Rattle.core_events.specs.declared.note.Note.TheVariants as note
use Rattle.px_outside.specs.declared.failed.Failed.{Failed}
use Rattle.px_outside.specs.declared.failed.Failed.TheVariants as failed
use Rattle.px_outside.specs.Net.{Call, Connect, Finish, Close, Chain}
use Rattle.serve_loop.specs.declared.links.Links.{Links}
use Rattle.serve_loop.specs.declared.link_owner.LinkOwner.{LinkOwner}
use Rattle.serve_loop.specs.Links.{owner_in, link_in, Opens, Closes}
use Rattle.serve_loop.specs.Fresh.{GivesOnce, OwnersStay, links_given}
use Rattle.serve_loop.specs.declared.carry.Action.{Action}
use Rattle.serve_loop.specs.declared.carry.Action.TheVariants as does

-- what a note asks for
abbrev pub action : Note → Action
action (note.Connect c to) = does.Connects c to
action (note.HalfClose c s) = does.Finishes c s
action (note.CloseClient c) = does.Closes c side.Client
action (note.CloseServer c) = does.Closes c side.Server
action other = does.Nothing

-- the link of the side, if it has one, sends no more
abbrev pub finish_calls : Option ℕ → List Call
finish_calls None = []
finish_calls (Some link) = Finish link ∷ []

-- the link of the side, if it has one, is closed
abbrev pub CloseLink : Option ℕ → ℕ → Side → Links → List Call → Links → Type 0
CloseLink None c s a calls b = (calls ≡ []) × (b ≡ a)
CloseLink (Some link) c s a calls b = (calls ≡ Close link ∷ []) × Closes a b link c s

abbrev pub CarriesOne : Action → Links → List Call → Links → Type 0
CarriesOne does.Nothing a calls b = (calls ≡ []) × (b ≡ a)
CarriesOne (does.Connects c to) a calls b =
    (link : ℕ) × (calls ≡ Connect to (Ok link) ∷ []) × Opens a b link c side.Server
CarriesOne (does.Finishes c s) a calls b = (calls ≡ finish_calls (link_in a c s)) × (b ≡ a)
CarriesOne (does.Closes c s) a calls b = CloseLink (link_in a c s) c s a calls b

abbrev pub Carries : List Note → Links → List Call → Links → Type 0
Carries [] a calls b = (calls ≡ []) × (b ≡ a)
Carries (n ∷ notes) a calls b = (mid : Links) × (first rest : List Call) × (calls ≡ first ++ rest)
    × CarriesOne (action n) a first mid × Carries notes mid rest b

-- each link that has an owner was given by the net
abbrev pub Known : (ℕ → Type 0) → Links → Type 0
Known gave links = (l : ℕ) (r : LinkOwner) → owner_in links l ≡ Some r → gave l

-- what a call on the net asks for became of table and net
pub record Carried {S : Type 0} (did : S → Call → S → Type 0) (gave : S → ℕ → Type 0)
    (R : Links → List Call → Links → Type 0) (old new : Links) (net net' : S) : Type 0 where
  pub calls : List Call
  pub chain : Chain did net calls net'
  pub carried : R old calls new
  pub once : GivesOnce (gave net) (gave net') (links_given calls)
  pub owners : OwnersStay (gave net) old new
  pub known : Known (gave net) old → Known (gave net') new

-- ---- where they break off

-- the answer of a connect at which they may: the net failed; where memory was refused, any answer,
-- since a link may find no room in the table
abbrev pub StopsAt : (short : Bool) → Result ℕ Failed → Type 0
StopsAt true answer = Unit {0}
StopsAt false answer = answer ≡ Err failed.Failed

abbrev pub ConnectStops : (short : Bool) → Action → List Call → Type 0
ConnectStops short (does.Connects c to) calls =
    (answer : Result ℕ Failed) × (calls ≡ Connect to answer ∷ []) × StopsAt short answer
ConnectStops short other calls = ⊥

-- the calls of the notes before a connect, and this one
pub record CarriesUpTo (short : Bool) (notes : List Note) (a : Links) (calls : List Call)
    : Type 0 where
  pub before : List Note
  pub note : Note
  pub after : List Note
  pub notes_are : notes ≡ before ++ note ∷ after
  pub mid : Links
  pub first : List Call
  pub last : List Call
  pub calls_are : calls ≡ first ++ last
  pub carried : Carries before a first mid
  pub stops : ConnectStops short (action note) last

-- they break off at a connect; where memory was refused, all may have been made
abbrev pub CarriesSome : (short : Bool) → List Note → Links → List Call → Type 0
CarriesSome short notes a calls =
    CarriesUpTo short notes a calls ⊎ ((short ≡ true) × ((b : Links) × Carries notes a calls b))

-- what the calls became of the net where they broke off
pub record CarriedSome {S : Type 0} (did : S → Call → S → Type 0) (gave : S → ℕ → Type 0)
    (R : List Call → Type 0) (net net' : S) : Type 0 where
  pub calls : List Call
  pub chain : Chain did net calls net'
  pub carried : R calls
  pub once : GivesOnce (gave net) (gave net') (links_given calls)
