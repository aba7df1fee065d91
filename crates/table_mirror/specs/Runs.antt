-- What a line of a plan comes to.
use Rattle.std.specs.Prelude.{◌≡◌, ℕ, List, Option, Some, None, Result, Ok, Err}
use Rattle.journal_text.specs.declared.line_kind.LineKind.{LineKind}
use Rattle.table_mirror.specs.Network.{World}
use Rattle.table_mirror.specs.Outcomes.{followed}
use Rattle.table_mirror.specs.Plans.{Reads}
use Rattle.table_mirror.specs.Pushed.{Entry}
use Rattle.table_mirror.specs.Worlds.{Shows}
use Rattle.table_mirror.specs.declared.network.Network.{Network}
use Rattle.table_mirror.specs.declared.outcome.MirrorOutcome.{MirrorOutcome}
use Rattle.table_mirror.specs.declared.plan.PlanLine.{PlanLine}

-- the plan ended there; or the network shows the world behind the line
abbrev pub CameTo : (limit : ℕ) → List Entry → Network → Option MirrorOutcome → Result World MirrorOutcome → Type 0
CameTo limit entries new None (Ok w) = Shows limit entries new w
CameTo limit entries new (Some outcome) (Err due) = outcome ≡ due
CameTo limit entries new None (Err due) = ⊥
CameTo limit entries new (Some outcome) (Ok w) = ⊥

-- what the line says, and what came of it
abbrev pub Followed : (limit : ℕ) → List Entry → (line : ℕ) → List ℕ → World → Network → Option MirrorOutcome → Type 0
Followed limit entries line text w new ended =
    (read : Result (Option PlanLine) LineKind) × Reads text read
    × CameTo limit entries new ended (followed limit entries line read w)
