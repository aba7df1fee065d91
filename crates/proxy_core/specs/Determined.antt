-- Where no Run stops in the middle, memory is found and no Tick wakes two calls, events and recorded
-- choices leave nothing open: the groups and the states are theirs.
use Rattle.std.specs.Prelude.{◌≡◌, ℕ, List, [], ◌∷◌, true, false, None, Some, is_some}
use Rattle.core_events.specs.declared.note.Note.{Note}
use Rattle.core_events.specs.declared.event_kind.EventKind.{EventKind}
use Rattle.core_events.specs.declared.event_kind.EventKind.TheVariants.{Runs, Ticks}
use Rattle.core_events.specs.Kinds.{kind_of}
use Rattle.conn_trace.specs.Gates.{TakenCounts}
use Rattle.conn_trace.specs.Tellings.{choices_told, cut_told, failure_told, notes_about}
use Rattle.proxy_core.specs.Asked.{next_of}
use Rattle.proxy_core.specs.Moves.{Moves, wakes}
use Rattle.record_model.specs.Past.{Happened, Past}
use Rattle.proxy_core.specs.Ready.{is_in}
use Rattle.proxy_core.specs.Refusal.{refused}
use Rattle.proxy_core.specs.Scheduler.{State, no_connections}
use Rattle.run_config.specs.declared.config.Config.{Config}

-- two groups record the same choices and cuts of each connection
pub record SameChoices (one other : List Note) : Type 0 where
  pub choices : (c : ℕ) → choices_told (notes_about c one) ≡ choices_told (notes_about c other)
  pub cuts : (c : ℕ) (took : TakenCounts)
      → cut_told took (notes_about c one) ≡ cut_told took (notes_about c other)

-- no connection finished for want of memory
abbrev pub FoundMemory : List Note → Type 0
FoundMemory group = (c : ℕ) → failure_told (notes_about c group) ≡ false

-- A Run went on until it was over, rested or stopped at a shared call: its connection isn't ready
-- behind it. One that stops in the middle, behind 64 notes or more than 1,990 steps, puts it at the
-- back of the ring.
abbrev pub RunsWhole : EventKind → State → State → Type 0
RunsWhole Runs old new = (c : ℕ) → next_of old ≡ Some c → is_in new.ring c ≡ false
RunsWhole other old new = Unit {0}

-- a Tick wakes one call at most: which of several comes to the queue first is open
abbrev pub WakesOne : EventKind → State → Type 0
WakesOne (Ticks moment) old =
    (c d : ℕ) → is_some (wakes moment (old.asleep c)) ≡ true
    → is_some (wakes moment (old.asleep d)) ≡ true → c ≡ d
WakesOne other old = Unit {0}

pub record MovesWhole (C : Config) (past : Past) (x : Happened) (old new : State) : Type 0 where
  pub moves : Moves C past x old new
  pub found_memory : FoundMemory x.group
  pub runs_whole : RunsWhole (kind_of x.event) old new
  pub wakes_one : WakesOne (kind_of x.event) old

-- a list of states leads through the past, by such moves alone
abbrev pub LeadsWhole : Config → Past → State → Type 0
LeadsWhole C [] s = s ≡ no_connections
LeadsWhole C (x ∷ past) s =
    (before : State) × LeadsWhole C past before
    × (refused C past before (kind_of x.event) ≡ None) × MovesWhole C past x before s

-- the same events, and with each of them the same recorded choices
abbrev pub SameRecord : Past → Past → Type 0
SameRecord [] [] = Unit {0}
SameRecord (x ∷ past) (y ∷ other) =
    (x.event ≡ y.event) × SameChoices x.group y.group × SameRecord past other
SameRecord past other = ⊥

-- they have the same groups, and lead to the same state
abbrev pub ChoicesDetermine : Type 0
ChoicesDetermine =
    (C : Config) (past other : Past) (s t : State) → LeadsWhole C past s → LeadsWhole C other t
    → SameRecord past other → (past ≡ other) × (s ≡ t)
