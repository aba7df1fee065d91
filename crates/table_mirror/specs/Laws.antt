-- The laws of a mirror.
use Rattle.std.specs.Prelude.{◌≡◌, ◌⊎◌, ℕ, ◌+◌, ◌≤◌, List, [], ◌∷◌, length, slice_get}
use Rattle.std.specs.Prelude.{Option, Some, None, Result, Ok, Err}
use Rattle.std.proofs.Math.ListN.{take}
use Rattle.table_mirror.specs.Mirrored.{differs, mirrored}
use Rattle.table_mirror.specs.Network.{World, at_first, stepped}
use Rattle.table_mirror.specs.Outcomes.{ComesTo, mirrored_text}
use Rattle.table_mirror.specs.Pushed.{Entry}
use Rattle.table_mirror.specs.declared.outcome.MirrorOutcome.{MirrorOutcome}
use Rattle.table_mirror.specs.declared.outcome.MirrorOutcome.TheVariants.{Mirrored, Stopped}
use Rattle.table_mirror.specs.declared.packet.MirrorStop.TheVariants.{Differs}
use Rattle.table_mirror.specs.declared.packet.Packet.{Packet}
use Rattle.table_mirror.specs.declared.packet.Packet.TheVariants.{Pushes, Acknowledges}
use Rattle.table_mirror.specs.declared.plan.PlanLine.{PlanLine}

-- no acknowledgement tells more than was applied
abbrev pub ToldWithin : ℕ → List Packet → Type 0
ToldWithin applied [] = Unit {0}
ToldWithin applied (Pushes place ∷ packets) = ToldWithin applied packets
ToldWithin applied (Acknowledges n ∷ packets) = n ≤ applied × ToldWithin applied packets

-- the sender knows of no more than was applied, and no more was applied than was pushed
pub record InOrder (entries : List Entry) (w : World) : Type 0 where
  pub acked : w.acked ≤ w.applied
  pub applied : w.applied ≤ length entries
  pub told : ToldWithin w.applied w.packets

abbrev pub BeginsInOrder : Type 0
BeginsInOrder = (entries : List Entry) → InOrder entries at_first

abbrev pub StaysInOrder : Type 0
StaysInOrder = (limit : ℕ) (entries : List Entry) (line : PlanLine) (w after : World) → InOrder entries w
    → stepped limit entries line w ≡ Ok after → InOrder entries after

-- none is applied, or the entry behind those that were
abbrev pub AppliesNext : Type 0
AppliesNext = (limit : ℕ) (entries : List Entry) (line : PlanLine) (w after : World)
    → stepped limit entries line w ≡ Ok after → (after.applied ≡ w.applied) ⊎ (after.applied ≡ w.applied + 1)

-- each entry has the reply that the table gives behind those before it
abbrev pub IsHistory : (limit : ℕ) → List Entry → Type 0
IsHistory limit entries = (place : ℕ) (e : Entry) → slice_get entries place ≡ Some e
    → differs (mirrored limit (take place entries)) e ≡ None

-- then no reply differs, whatever is lost, repeated or reordered
abbrev pub HistoryIsMirrored : Type 0
HistoryIsMirrored = (limit : ℕ) (entries : List Entry) (line : PlanLine) (w : World) (number : ℕ)
    → IsHistory limit entries → ¬ (stepped limit entries line w ≡ Err (Differs number))

-- a plan comes to one outcome
abbrev pub OneOutcome : Type 0
OneOutcome = (limit : ℕ) (entries : List Entry) (plan : List ℕ) (one other : MirrorOutcome)
    → ComesTo limit entries plan one → ComesTo limit entries plan other → one ≡ other

-- what a whole plan comes to: its rows are those behind so many entries, of which no more are acknowledged and no fewer
-- pushed; and where a reply differs the entries are no history
abbrev pub Holds : (limit : ℕ) → List Entry → MirrorOutcome → Type 0
Holds limit entries (Mirrored text) =
    (w : World) × InOrder entries w × (text ≡ mirrored_text limit entries w)
Holds limit entries (Stopped line (Differs number)) = ¬ (IsHistory limit entries)
Holds limit entries other = Unit {0}

abbrev pub PlanHolds : Type 0
PlanHolds = (limit : ℕ) (entries : List Entry) (plan : List ℕ) (outcome : MirrorOutcome)
    → ComesTo limit entries plan outcome → Holds limit entries outcome
