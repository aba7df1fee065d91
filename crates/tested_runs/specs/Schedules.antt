-- The schedule of a run: its events as lines, which `replay` reads.
use Rattle.std.specs.Prelude.{◌≡◌, ◌⊎◌, ℕ, Bool, true, false, List, [], ◌++◌, flat_map, reverse, Option, Some, None, IfSome}
use Rattle.std.specs.List.{All}
use Rattle.journal_text.specs.Line.{event_line}
use Rattle.proxy.specs.Journal.{HasLine}
use Rattle.proxy.specs.Lines.{Reads, events_of}
use Rattle.proxy.specs.Replayed.{MeetsFault, ReplaysAll}
use Rattle.run_config.specs.declared.config.Config.{Config}
use Rattle.test_orders.specs.declared.cut.Cut.{Cut}
use Rattle.test_past.specs.declared.entry.RunEntry.{RunEntry}
use Rattle.test_past.specs.declared.entry.RunEntry.TheVariants.{Given}
use Rattle.test_run.specs.Stand.{stand}
use Rattle.test_text.specs.declared.test_file.PlacedStep.{PlacedStep}
use Rattle.tested_core.specs.Runs.{events_in}
use Rattle.tested_runs.specs.Runs.{IsJudged, OneOf, is_passed}
use Rattle.tested_runs.specs.declared.runs.JudgedRun.{JudgedRun}

abbrev pub entry_line : RunEntry → List ℕ
entry_line (Given e) = event_line e
entry_line other = []

-- the lines of the events that were given
abbrev pub schedule_text : List RunEntry → List ℕ
schedule_text entries = flat_map entry_line entries

abbrev pub schedule_in : JudgedRun → List ℕ
schedule_in run = schedule_text (stand run.done.run).entries

-- ---- which run is told

-- the schedule of a run that passed is kept where none was; that of one that failed is
abbrev pub Keeps : (passed : Bool) → (old new : Option (List ℕ)) → List ℕ → Type 0
Keeps true None new text = new ≡ Some text
Keeps true (Some old) new text = new ≡ Some old
Keeps false old new text = new ≡ Some text

-- this is the schedule of such a run, which passed or failed
pub record RunTold (told : List ℕ → Option (List ℕ)) (config : List ℕ) (steps : List PlacedStep)
    (orders : List (List ℕ)) (passed : Bool) (text : List ℕ) (cut : Cut) : Type 0 where
  pub run : JudgedRun
  pub judged : IsJudged told config steps cut orders run
  pub comes : is_passed run.verdict ≡ passed
  pub text_is : text ≡ schedule_in run

-- in these orders, by one of the cuts
abbrev pub CutTold : (List ℕ → Option (List ℕ)) → List ℕ → List PlacedStep → List Cut → List (List ℕ) → Bool
    → List ℕ → Type 0
CutTold told config steps cuts orders passed text = OneOf (RunTold told config steps orders passed text) cuts

-- in one of the orders
abbrev pub WayTold : (List ℕ → Option (List ℕ)) → List ℕ → List PlacedStep → List Cut → List (List (List ℕ)) → Bool
    → List ℕ → Type 0
WayTold told config steps cuts ways passed text =
    OneOf (λ orders. CutTold told config steps cuts orders passed text) ways

-- the schedule that was kept before still is, unless a run failed; or there is one of these, or none
abbrev pub Tells : (passed : Bool) → (old new : Option (List ℕ)) → (List ℕ → Type 0) → Type 0
Tells passed old new P = ((passed ≡ true) × (new ≡ old)) ⊎ IfSome new P

-- ---- it is read

-- Where a line can write each of the events, they are what is read of the schedule, the newest first
abbrev pub ScheduleIsRead : Type 0
ScheduleIsRead =
    (entries : List RunEntry) → All HasLine (events_in entries)
    → (number : ℕ) × Reads (schedule_text entries) number (reverse (events_in entries))

-- a replay of it meets no faulty line
abbrev pub ScheduleHasNoFault : Type 0
ScheduleHasNoFault =
    (K : Config) (entries : List RunEntry) → All HasLine (events_in entries) → (old new : Option (List ℕ))
    → MeetsFault K (schedule_text entries) old new → ⊥

-- and where it comes to the end it had exactly these events
abbrev pub ScheduleReplays : Type 0
ScheduleReplays =
    (K : Config) (entries : List RunEntry) → All HasLine (events_in entries) → (old new : Option (List ℕ))
    → (replay : ReplaysAll K (schedule_text entries) old new)
    → events_of replay.past ≡ reverse (events_in entries)
