-- What is pending is written.
use Rattle.std.specs.Prelude.{◌≡◌, ◌⊎◌, ℕ, ◌+◌, List, [], ◌∷◌, length, Bool, Option, Some, None}
use Rattle.px_bytes.specs.declared.addr.Side.{Side}
use Rattle.px_outside.specs.declared.answers.WriteAnswer.{WriteAnswer}
use Rattle.px_outside.specs.declared.answers.WriteAnswer.TheVariants as write
use Rattle.px_outside.specs.Net.{Write, WritesWithin}
use Rattle.serve_loop.specs.Events.{write_event}
use Rattle.serve_loop.specs.Links.{link_in}
use Rattle.serve_loop.specs.declared.polled.Polled.{Polled}
use Rattle.serve_loop.specs.declared.polled.Polled.TheVariants as is
use Rattle.core_events.specs.Face.{Face}
use Rattle.serve_loop.specs.Often.{NotAsked, Tried}
use Rattle.serve_loop.specs.Walk.{Around, Given, Step, Asked as Asks, Calls}

-- it takes more, takes no more by now, or is reset
abbrev pub asked_of : WriteAnswer → Polled
asked_of (write.Took n) = is.Again
asked_of write.NotYet = is.Stays
asked_of write.Reset = is.Over

-- a link is asked to take all that is pending to its side
pub record OneWrite {C : Type 0} (face : Face C) (conns c : ℕ) (side : Side) (asked : Polled)
    (a : Around C) (steps : List Step) (b : Around C) : Type 0 where
  pub link : ℕ
  pub bytes : List ℕ
  pub answer : WriteAnswer
  pub given : Option Given
  pub steps_are : steps ≡ Asks (Write link bytes answer) given ∷ []
  pub linked : link_in a.links c side ≡ Some link
  pub queued : face.queue a.core c side bytes
  pub within : WritesWithin (length bytes) answer
  pub asked_is : asked_of answer ≡ asked
  pub calls : Calls face conns a (Write link bytes answer) given b
  pub becomes : calls.event ≡ write_event c side answer

-- the side has no link, or nothing is pending to it
abbrev pub NothingToWrite : {C : Type 0} → Face C → ℕ → Side → Around C → Type 0
NothingToWrite face c side a = (link_in a.links c side ≡ None) ⊎ face.queue a.core c side []

abbrev pub WroteOnce : {C : Type 0} → Face C → (conns c : ℕ) → Side → Polled
    → Around C → List Step → Around C → Type 0
WroteOnce face conns c side is.Over a steps b = OneWrite face conns c side is.Over a steps b
    ⊎ NotAsked (NothingToWrite face c side) a steps b
WroteOnce face conns c side asked a steps b = OneWrite face conns c side asked a steps b

-- written to until it takes no more, or nothing is pending: no oftener than bytes were pending, and
-- once more, which finds nothing
pub record Wrote {C : Type 0} (face : Face C) (conns c : ℕ) (side : Side) (stays : Bool)
    (a : Around C) (steps : List Step) (b : Around C) : Type 0 where
  pub pending : List ℕ
  pub queued : face.queue a.core c side pending
  pub tried : Tried (WroteOnce face conns c side) (length pending + 1) stays a steps b
