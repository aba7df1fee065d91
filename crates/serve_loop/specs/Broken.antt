-- What was done where a fault came: whole steps, and then at most one that broke off.
use Rattle.std.specs.Prelude.{◌≡◌, ◌⊎◌, ℕ, List, [], ◌∷◌, ◌++◌, Bool, true, Option, Some, None}
use Rattle.std.specs.Prelude.{min}
use Rattle.std.specs.List.{AllByRecursion}
use Rattle.px_outside.specs.Net.{Call, Chain, Wait}
use Rattle.core_events.specs.declared.event.Event.{Event}
use Rattle.core_events.specs.declared.event.Event.TheVariants as event
use Rattle.serve_loop.specs.declared.links.Links.{Links}
use Rattle.serve_loop.specs.declared.serving.Serving.{Serving}
use Rattle.serve_loop.specs.Carrying.{CarriesSome}
use Rattle.serve_loop.specs.Events.{Tells, TellsFront}
use Rattle.core_events.specs.Face.{Face}
use Rattle.serve_loop.specs.Fresh.{GivesOnce, OwnersStay, links_given}
use Rattle.serve_loop.specs.Part.{stand, Ready}
use Rattle.serve_loop.specs.Turn.{tick_limit}
use Rattle.serve_loop.specs.Walk.{Around, Given, Step, Own, Asked, MayCall, AfterCall, IsOwn, Walks}
use Rattle.serve_loop.specs.Walk.{given_calls, given_text, calls_in, text_in}

-- what a step did that broke off: nothing; a call, the event of whose answer wasn't given to the
-- core; an event that was given, not all of whose calls and lines came
pub data Broken : Type 0 where
  Unbegun : Broken
  Ungiven : Call → Event → Broken
  OwnSome : Given → Broken
  AskedSome : Call → Given → Broken

-- what was done of it
abbrev pub steps_of : Broken → List Step
steps_of Unbegun = []
steps_of (Ungiven call e) = Asked call None ∷ []
steps_of (OwnSome g) = Own g ∷ []
steps_of (AskedSome call g) = Asked call (Some g) ∷ []

-- An event that isn't refused moved the core, and its notes' calls were made up to where they broke
-- off.
pub record GivesSome {C : Type 0} (face : Face C) (short : Bool) (e : Event) (a : Around C)
    (g : Given) (core : C) : Type 0 where
  pub event_is : g.event ≡ e
  pub taken : face.takes a.core e
  pub moved : face.moved a.core e g.group core
  pub carried : CarriesSome short g.group a.links g.calls

-- a call, whose answer became such an event
pub record CallsSome {C : Type 0} (face : Face C) (conns : ℕ) (short : Bool) (a : Around C)
    (call : Call) (g : Given) (core : C) : Type 0 where
  pub event : Event
  pub may : MayCall face conns a call (Some event)
  pub links : Links
  pub after : AfterCall face a call links
  pub gives : GivesSome face short event (record { core = a.core; links = links }) g core

-- How a step broke off, and the core that it left. An answer is lost only where memory was refused.
abbrev pub Breaks : {C : Type 0} → Face C → ℕ → (short : Bool) → Around C → Broken → C → Type 0
Breaks face conns short a Unbegun core = core ≡ a.core
Breaks face conns short a (Ungiven call e) core =
    (short ≡ true) × MayCall face conns a call (Some e) × (core ≡ a.core)
Breaks face conns short a (OwnSome g) core = IsOwn g.event × GivesSome face short g.event a g core
Breaks face conns short a (AskedSome call g) core = CallsSome face conns short a call g core

-- Whole steps were made, and one that broke off: the calls of all are the net's, in order. Each
-- link that the net gave is new.
pub record BrokenWalk {C : Type 0} (face : Face C) {S : Type 0} (did : S → Call → S → Type 0)
    (gave : S → ℕ → Type 0) (conns : ℕ) (short : Bool) (a : Around C) (core : C) (net net' : S)
    : Type 0 where
  pub steps : List Step
  pub mid : Around C
  pub walks : Walks face conns a steps mid
  pub broken : Broken
  pub breaks : Breaks face conns short mid broken core
  pub chain : Chain did net (calls_in (steps ++ steps_of broken)) net'
  pub stands : face.stands core
  pub once : GivesOnce (gave net) (gave net') (links_given (calls_in (steps ++ steps_of broken)))
  pub owners : OwnersStay (gave net) a.links mid.links

-- all of them are such steps, and a front of their lines was written down
pub record BrokeBy {C : Type 0} (face : Face C) {S : Type 0} (did : S → Call → S → Type 0)
    (gave : S → ℕ → Type 0) (K : List Step → Type 0) (short : Bool) (old new : Serving C)
    (net net' : S) : Type 0 where
  pub walk : BrokenWalk face did gave old.conns short (stand old) new.core net net'
  pub lines : TellsFront (Tells old.journal new.journal) short
      (text_in (walk.steps ++ steps_of walk.broken))
  pub kinds : K (walk.steps ++ steps_of walk.broken)

-- wherever the loop stood
pub record IsBroken {C : Type 0} (face : Face C) {S : Type 0} (did : S → Call → S → Type 0)
    (gave : S → ℕ → Type 0) (K : List Step → Type 0) (short : Bool) (old new : Serving C)
    (net net' : S) : Type 0 where
  pub from : Ready face (gave net) (stand old) → BrokeBy face did gave K short old new net net'

-- a Tick of this moment of the clock
abbrev pub IsTick : ℕ → Step → Type 0
IsTick now (Own g) = g.event ≡ event.Tick (min now tick_limit)
IsTick now (Asked call given) = ⊥

-- a wait until then
abbrev pub IsWait : ℕ → Step → Type 0
IsWait until (Own g) = ⊥
IsWait until (Asked (Wait at listed answer) given) = at ≡ until
IsWait until (Asked call given) = ⊥

abbrev pub AtMostOne : (Step → Type 0) → List Step → Type 0
AtMostOne P [] = Unit {0}
AtMostOne P (x ∷ []) = P x
AtMostOne P (x ∷ y ∷ steps) = ⊥

-- a listener or a link is asked, what is ready goes on, what is pending is written
abbrev pub IsAsk : Step → Type 0
IsAsk (Own g) = (g.event ≡ event.Run) ⊎ (g.event ≡ event.Turn)
IsAsk (Asked (Wait at listed answer) given) = ⊥
IsAsk (Asked call given) = Unit {0}

abbrev pub AreAsks : List Step → Type 0
AreAsks steps = AllByRecursion IsAsk steps

-- An event wasn't given, since memory was refused, or it was given and not all that follows was
-- done.
abbrev pub GivesOrNot : {C : Type 0} → Face C → (short : Bool) → Event → Around C → Option Given
    → C → Type 0
GivesOrNot face short e a None core = (short ≡ true) × (core ≡ a.core)
GivesOrNot face short e a (Some g) core = GivesSome face short e a g core

pub record GaveSome {C : Type 0} (face : Face C) {S : Type 0} (did : S → Call → S → Type 0)
    (gave : S → ℕ → Type 0) (short : Bool) (e : Event) (old new : Serving C) (net net' : S)
    : Type 0 where
  pub given : Option Given
  pub gives : GivesOrNot face short e (stand old) given new.core
  pub chain : Chain did net (given_calls given) net'
  pub stands : face.stands new.core
  pub once : GivesOnce (gave net) (gave net') (links_given (given_calls given))
  pub lines : TellsFront (Tells old.journal new.journal) short (given_text given)

pub record IsGivenSome {C : Type 0} (face : Face C) {S : Type 0} (did : S → Call → S → Type 0)
    (gave : S → ℕ → Type 0) (short : Bool) (e : Event) (old new : Serving C) (net net' : S)
    : Type 0 where
  pub from : Ready face (gave net) (stand old) → face.takes old.core e
      → GaveSome face did gave short e old new net net'
