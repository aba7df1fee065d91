-- What a part of the loop did, from where it stood to where it stands then.
use Rattle.std.specs.Prelude.{◌≡◌, ℕ, List}
use Rattle.px_outside.specs.Net.{Call, Chain}
use Rattle.core_events.specs.declared.event.Event.{Event}
use Rattle.serve_loop.specs.declared.serving.Serving.{Serving}
use Rattle.serve_loop.specs.Carrying.{Known}
use Rattle.serve_loop.specs.Events.{Tells, group_text}
use Rattle.core_events.specs.Face.{Face}
use Rattle.serve_loop.specs.Fresh.{GivesOnce, OwnersStay, links_given}
use Rattle.serve_loop.specs.Walk.{Around, Given, Step, Gives, calls_in, text_in}

-- where the loop stands
abbrev pub stand : {C : Type 0} → Serving C → Around C
stand s = record { core = s.core; links = s.links }

-- the core stands, and each link was given by the net
pub record Ready {C : Type 0} (face : Face C) (gave : ℕ → Type 0) (a : Around C) : Type 0 where
  pub stands : face.stands a.core
  pub known : Known gave a.links

-- The steps that were made: their calls are the net's, in order; they lead from there to here. Each
-- link that the net gave is new, and no link that it gave before belongs to another connection than
-- then.
pub record Made {C : Type 0} (face : Face C) {S : Type 0} (did : S → Call → S → Type 0)
    (gave : S → ℕ → Type 0) (R : Around C → List Step → Around C → Type 0) (a b : Around C)
    (net net' : S) : Type 0 where
  pub steps : List Step
  pub chain : Chain did net (calls_in steps) net'
  pub leads : R a steps b
  pub ready : Ready face (gave net') b
  pub once : GivesOnce (gave net) (gave net') (links_given (calls_in steps))
  pub owners : OwnersStay (gave net) a.links b.links

-- their events' lines were written down
pub record Happens {C : Type 0} (face : Face C) {S : Type 0} (did : S → Call → S → Type 0)
    (gave : S → ℕ → Type 0) (R : Around C → List Step → Around C → Type 0)
    (old new : Serving C) (net net' : S) : Type 0 where
  pub made : Made face did gave R (stand old) (stand new) net net'
  pub told : Tells old.journal new.journal (text_in made.steps)
  pub conns : new.conns ≡ old.conns

-- wherever the loop stood
pub record Part {C : Type 0} (face : Face C) {S : Type 0} (did : S → Call → S → Type 0)
    (gave : S → ℕ → Type 0) (R : Around C → List Step → Around C → Type 0)
    (old new : Serving C) (net net' : S) : Type 0 where
  pub from : Ready face (gave net) (stand old) → Happens face did gave R old new net net'

-- an event was given to the core, and its notes' calls were made
pub record Gave {C : Type 0} (face : Face C) {S : Type 0} (did : S → Call → S → Type 0)
    (gave : S → ℕ → Type 0) (e : Event) (old new : Serving C) (net net' : S) : Type 0 where
  pub given : Given
  pub gives : Gives face e (stand old) given (stand new)
  pub chain : Chain did net given.calls net'
  pub ready : Ready face (gave net') (stand new)
  pub told : Tells old.journal new.journal (group_text given.event given.group)
  pub once : GivesOnce (gave net) (gave net') (links_given given.calls)
  pub owners : OwnersStay (gave net) old.links new.links
  pub conns : new.conns ≡ old.conns

pub record IsGiven {C : Type 0} (face : Face C) {S : Type 0} (did : S → Call → S → Type 0)
    (gave : S → ℕ → Type 0) (e : Event) (old new : Serving C) (net net' : S) : Type 0 where
  pub from : Ready face (gave net) (stand old) → face.takes old.core e
      → Gave face did gave e old new net net'
