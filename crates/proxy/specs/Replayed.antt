-- What a replay comes to.
use Rattle.std.specs.Prelude.{◌≡◌, ◌⊎◌, ℕ, ◌+◌, List, ◌++◌, length, Option, Result, Ok, Err}
use Rattle.px_bytes.specs.declared.memory.Memory as want
use Rattle.px_outside.specs.Outside.{told_more, Rose}
use Rattle.proxy_core.specs.Headline.{OutputMatchesEvaluator}
use Rattle.record_model.specs.Past.{Past}
use Rattle.proxy_core.specs.Represents.{Represents}
use Rattle.proxy_core.specs.Scheduler.{State}
use Rattle.run_config.specs.declared.config.Config as configured
use Rattle.proxy_core.specs.declared.core_state.Core.{Core}
use Rattle.core_events.specs.declared.bad_event.BadEvent.{BadEvent}
use Rattle.journal_text.specs.declared.line_kind.LineKind.{LineKind}
use Rattle.proxy.specs.declared.end.End.{End}
use Rattle.proxy.specs.declared.end.End.TheVariants.{Done, Usage, Config, Schedule, ReadFault}
use Rattle.proxy.specs.declared.end.End.TheVariants.{WriteFault, Memory, Differs, SecondText}
use Rattle.proxy.specs.declared.replay.Replay.{Replay}
use Rattle.proxy.specs.Lines.{Reads, Faulty, Refuses, events_of}
use Rattle.proxy.specs.Report.{end_text, text_fault, event_fault}
use Rattle.proxy.specs.Replay.{conns_text, report_text}
use Rattle.proxy.specs.Written.{WritesFront, WritesFrontOf}

-- The report of a past was written, with this last line. A core stands for the past, its events are
-- those of so many lines of text, and every connection's output matches the evaluator's.
pub record Reports (C : configured.Config) (past : Past) (state : State) (text : List ℕ)
    (number : ℕ) (last : List ℕ) (old new : Option (List ℕ)) : Type 0 where
  pub core : Core
  pub represents : Represents C past state core
  pub output_matches_evaluator : OutputMatchesEvaluator C past state
  pub reads : Reads text number (events_of past)
  pub report_bytes : new ≡ told_more old (report_text C past state last)

-- all lines of the schedule spell events, and none is refused
pub record ReplaysAll (C : configured.Config) (schedule : List ℕ)
    (old new : Option (List ℕ)) : Type 0 where
  pub past : Past
  pub state : State
  pub number : ℕ
  pub reports : Reports C past state schedule number (end_text (length past)) old new

-- the first faulty line of the schedule gives no event
pub record MeetsFault (C : configured.Config) (schedule : List ℕ)
    (old new : Option (List ℕ)) : Type 0 where
  pub past : Past
  pub state : State
  pub text : List ℕ
  pub rest : List ℕ
  pub schedule_is : schedule ≡ text ++ rest
  pub number : ℕ
  pub kind : LineKind
  pub faulty : Faulty rest kind
  pub reports : Reports C past state text number (text_fault (number + 1) kind) old new

-- the first faulty line of the schedule gives an event that is refused
pub record MeetsRefusal (C : configured.Config) (schedule : List ℕ)
    (old new : Option (List ℕ)) : Type 0 where
  pub past : Past
  pub state : State
  pub text : List ℕ
  pub rest : List ℕ
  pub schedule_is : schedule ≡ text ++ rest
  pub number : ℕ
  pub why : BadEvent
  pub refuses : Refuses C past state why rest
  pub reports : Reports C past state text number (event_fault (number + 1) why) old new

-- A replay of this configuration and schedule, by its end: the whole report, or one that ends with
-- the first faulty line; or a prefix of a report was written, and the count of write faults rose or
-- memory was refused.
abbrev pub Replayed : configured.Config → List ℕ → Option (List ℕ) → Option (List ℕ) → ℕ → ℕ → End
    → Type 0
Replayed C schedule old new before now Done = ReplaysAll C schedule old new
Replayed C schedule old new before now Usage = ⊥
Replayed C schedule old new before now Config = ⊥
Replayed C schedule old new before now Schedule =
    MeetsFault C schedule old new ⊎ MeetsRefusal C schedule old new
Replayed C schedule old new before now ReadFault = ⊥
Replayed C schedule old new before now WriteFault =
    Rose before now × WritesFront C schedule old new
Replayed C schedule old new before now Memory = (new ≡ old) ⊎ WritesFront C schedule old new
Replayed C schedule old new before now Differs = ⊥
Replayed C schedule old new before now SecondText = ⊥

-- a fault of the end of a report, of which a prefix was written
abbrev pub FinishFault : ℕ → ℕ → End → Type 0
FinishFault before now WriteFault = Rose before now
FinishFault before now Memory = Unit {0}
FinishFault before now end = ⊥

-- The end of a report was written behind what was written before, or a prefix of it; nothing where
-- its last line found no memory.
abbrev pub Finished : Replay → Result (List ℕ) want.Memory → Option (List ℕ) → Option (List ℕ) → ℕ
    → ℕ → Result (Unit {0}) End → Type 0
Finished r (Ok last) old new before now (Ok u) =
    new ≡ told_more old (conns_text r.core r.taken.items ++ last)
Finished r (Ok last) old new before now (Err e) =
    FinishFault before now e × WritesFrontOf (conns_text r.core r.taken.items ++ last) old new
Finished r (Err w) old new before now (Ok u) = ⊥
Finished r (Err w) old new before now (Err e) = (e ≡ Memory) × (new ≡ old)
