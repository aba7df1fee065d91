-- What a plan comes to, line by line.
use Rattle.std.specs.Prelude.{◌≡◌, ℕ, ◌+◌, List, [], ◌∷◌, ◌++◌, codes, length}
use Rattle.std.specs.Prelude.{Option, Some, None, Result, Ok, Err}
use Rattle.std.specs.Fmt.{decimal}
use Rattle.std.specs.List.{slice_split}
use Rattle.std.proofs.Math.ListN.{take}
use Rattle.journal_text.specs.declared.line_kind.LineKind.{LineKind}
use Rattle.journal_text.specs.declared.line_kind.LineKind.TheVariants as kind
use Rattle.journal_value.specs.Journal.{is_lf}
use Rattle.session_table.specs.Dump.{dump_text}
use Rattle.table_mirror.specs.Mirrored.{mirrored}
use Rattle.table_mirror.specs.Network.{World, at_first, stepped}
use Rattle.table_mirror.specs.Plans.{Reads}
use Rattle.table_mirror.specs.Pushed.{Entry}
use Rattle.table_mirror.specs.declared.packet.MirrorStop.{MirrorStop}
use Rattle.table_mirror.specs.declared.outcome.MirrorOutcome.{MirrorOutcome}
use Rattle.table_mirror.specs.declared.outcome.MirrorOutcome.TheVariants.{Mirrored, Faulty, Stopped}
use Rattle.table_mirror.specs.declared.plan.PlanLine.{PlanLine}

-- how many entries the standby applied, how many of these the sender knows of, and how many there are
abbrev pub counts_text : (applied acked pushed : ℕ) → List ℕ
counts_text applied acked pushed =
    codes "> mirror applied " ++ decimal applied ++ codes " acked " ++ decimal acked
    ++ codes " of " ++ decimal pushed ++ codes "\n"

abbrev pub mirrored_text : (limit : ℕ) → List Entry → World → List ℕ
mirrored_text limit entries w =
    dump_text (mirrored limit (take w.applied entries)).rows ++ counts_text w.applied w.acked (length entries)

-- ---- line by line

abbrev pub stops_at : (line : ℕ) → Result World MirrorStop → Result World MirrorOutcome
stops_at line (Ok w) = Ok w
stops_at line (Err stop) = Err (Stopped line stop)

-- the world behind a line that was read, or what the plan comes to there
abbrev pub followed : (limit : ℕ) → List Entry → (line : ℕ) → Result (Option PlanLine) LineKind → World
    → Result World MirrorOutcome
followed limit entries line (Err kind) w = Err (Faulty line kind)
followed limit entries line (Ok None) w = Ok w
followed limit entries line (Ok (Some step)) w = stops_at line (stepped limit entries step w)

abbrev pub GoesOn : Result World MirrorOutcome → (World → Type 0) → MirrorOutcome → Type 0
GoesOn (Ok w) goes outcome = goes w
GoesOn (Err due) goes outcome = outcome ≡ due

-- behind the last LF stands nothing
abbrev pub Ends : (limit : ℕ) → List Entry → (line : ℕ) → List ℕ → World → MirrorOutcome → Type 0
Ends limit entries line [] w outcome = outcome ≡ Mirrored (mirrored_text limit entries w)
Ends limit entries line (byte ∷ more) w outcome = outcome ≡ Faulty line kind.NoNewline

-- the lines from this number on, and what stands behind the last LF
abbrev pub Goes : (limit : ℕ) → List Entry → (line : ℕ) → List (List ℕ) → List ℕ → World → MirrorOutcome → Type 0
Goes limit entries line [] rest w outcome = Ends limit entries line rest w outcome
Goes limit entries line (text ∷ lines) rest w outcome =
    (read : Result (Option PlanLine) LineKind) × Reads text read
    × GoesOn (followed limit entries line read w) (λ after. Goes limit entries (line + 1) lines rest after outcome) outcome

-- what the whole plan comes to
pub record ComesTo (limit : ℕ) (entries : List Entry) (plan : List ℕ) (outcome : MirrorOutcome) : Type 0 where
  pub lines : List (List ℕ)
  pub rest : List ℕ
  pub parts : slice_split is_lf plan ≡ lines ++ rest ∷ []
  pub goes : Goes limit entries 1 lines rest at_first outcome
