-- Pairs of a Run and a Turn, and the connections that ran.
use Rattle.std.specs.Prelude.{◌≡◌, ◌≤◌, ℕ, zero, suc, List, [], ◌∷◌, Bool, true, false}
use Rattle.std.specs.Prelude.{Option, Some, None, nat_eq}
use Rattle.indexmap.specs.IndexSet.{insert_key}
use Rattle.core_events.specs.declared.event.Event.{Event}
use Rattle.core_events.specs.declared.event.Event.TheVariants as event
use Rattle.serve_loop.specs.declared.polled.Polled.{Polled}
use Rattle.serve_loop.specs.declared.polled.Polled.TheVariants as is
use Rattle.core_events.specs.Face.{Face}
use Rattle.serve_loop.specs.Often.{NotAsked}
use Rattle.serve_loop.specs.Walk.{Around, Given, Step, Own, Gives, Then}

-- an event of the loop's own
pub record OwnStep {C : Type 0} (face : Face C) (e : Event) (a : Around C) (steps : List Step)
    (b : Around C) : Type 0 where
  pub given : Given
  pub steps_are : steps ≡ Own given ∷ []
  pub gives : Gives face e a given b

-- the writers, with the connection that is ready
abbrev pub noted : Option ℕ → List ℕ → List ℕ
noted None writers = writers
noted (Some c) writers = insert_key nat_eq writers c

abbrev pub RunAndTurn : {C : Type 0} → Face C → Around C → List Step → Around C → Type 0
RunAndTurn face a steps b = Then (OwnStep face event.Run) (OwnStep face event.Turn) a steps b

-- Something is ready, and a Run and a Turn are given. The connection that runs is noted.
pub record OnePair {C : Type 0} (face : Face C) (before after : List ℕ) (a : Around C)
    (steps : List Step) (b : Around C) : Type 0 where
  pub unsettled : face.settled a.core false
  pub ready : Option ℕ
  pub is_ready : face.ready a.core ready
  pub noted_is : after ≡ noted ready before
  pub events : RunAndTurn face a steps b

-- none is given where nothing is ready
abbrev pub PairOnce : {C : Type 0} → Face C → (before after : List ℕ) → Polled
    → Around C → List Step → Around C → Type 0
PairOnce face before after is.Again a steps b = OnePair face before after a steps b
PairOnce face before after is.Stays a steps b = ⊥
PairOnce face before after is.Over a steps b =
    (after ≡ before) × NotAsked (λ x. face.settled x.core true) a steps b

-- so many pairs
abbrev pub GavePairs : {C : Type 0} → Face C → ℕ → (before after : List ℕ)
    → Around C → List Step → Around C → Type 0
GavePairs face zero before after a steps b = (after ≡ before) × ((steps ≡ []) × (b ≡ a))
GavePairs face (suc n) before after a steps b =
    (mid : List ℕ) × Then (GavePairs face n before mid) (OnePair face mid after) a steps b

-- and then nothing is ready, or so many were given as may be in a turn
abbrev pub RanLast : {C : Type 0} → Face C → (often times : ℕ) → (ready : Bool)
    → (before after : List ℕ) → Around C → List Step → Around C → Type 0
RanLast face often times true before after a steps b =
    (after ≡ before) × NotAsked (λ x. often ≡ times) a steps b
RanLast face often times false before after a steps b = PairOnce face before after is.Over a steps b

pub record Ran {C : Type 0} (face : Face C) (times : ℕ) (ready : Bool) (before after : List ℕ)
    (a : Around C) (steps : List Step) (b : Around C) : Type 0 where
  pub often : ℕ
  pub within : often ≤ times
  pub mid : List ℕ
  pub pairs : Then (GavePairs face often before mid) (RanLast face often times ready mid after)
      a steps b
