-- The phases of a connection, and which of them may follow which (iRules reference: the order in
-- which the events of a connection run; the phases without an event are this project's own).
use Rattle.std.specs.Prelude.{◌≡◌, ◌⊎◌, List, [], ◌∷◌, Contains, Bool, true, false, IsTrue, IsFalse}
use Rattle.event_order.specs.declared.phase.Phase.{Phase}
use Rattle.event_order.specs.declared.phase.Phase.TheVariants.{Accepted, Collect, Request, Gather}
use Rattle.event_order.specs.declared.phase.Phase.TheVariants.{Reuse, Select, Connect, Relay}
use Rattle.event_order.specs.declared.phase.Phase.TheVariants.{Passing, Response, Answered, Finish}
use Rattle.event_order.specs.declared.phase.Phase.TheVariants.{Drain, Over}
use Rattle.event_order.specs.declared.phase.Happening.{Happening}
use Rattle.event_order.specs.declared.phase.Happening.TheVariants.{Goes}

-- where a phase leads when nothing ends the connection early
abbrev pub next_phases : Phase → List Phase
next_phases Accepted = Collect ∷ Select ∷ Request ∷ []
next_phases Collect = Collect ∷ Select ∷ []
next_phases Request = Gather ∷ Answered ∷ Select ∷ Reuse ∷ Finish ∷ []
next_phases Gather = Gather ∷ Answered ∷ Select ∷ Reuse ∷ []
next_phases Reuse = Passing ∷ Select ∷ []
next_phases Select = Connect ∷ Select ∷ Answered ∷ Finish ∷ []
next_phases Connect = Relay ∷ Passing ∷ Connect ∷ Select ∷ Answered ∷ Finish ∷ []
next_phases Relay = Relay ∷ Finish ∷ []
next_phases Passing = Response ∷ []
next_phases Response = Request ∷ Finish ∷ []
next_phases Answered = Request ∷ Finish ∷ []
next_phases Finish = Drain ∷ []
next_phases Drain = Over ∷ []
next_phases Over = []

-- the connection isn't finishing yet
abbrev pub is_live : Phase → Bool
is_live Finish = false
is_live Drain = false
is_live Over = false
is_live _ = true

-- the second may follow the first: a fault, a close or a cut finishes a connection in each phase
-- before Finish
abbrev pub MayFollow : Phase → Phase → Type 0
MayFollow p q = Contains (next_phases p) q ⊎ ((q ≡ Finish) × IsTrue (is_live p))

-- the phase that the conditions of the present one choose
abbrev pub chosen_phase : Happening → Phase
chosen_phase (Goes p) = p

-- a connection that finishes isn't live again
abbrev pub FinishingIsFinal : Type 0
FinishingIsFinal = (p q : Phase) → MayFollow p q → IsFalse (is_live p) → IsFalse (is_live q)
