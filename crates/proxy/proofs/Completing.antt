-- From what the program promises of its end to when that is the whole text.
use Rattle.std.proofs.Common.{◌≡◌, ◌⊎◌, inl, inr, refl, ap, subst, ◌∙◌, ℕ, List, Option, Some, None, true, false}
use Rattle.config.specs.declared.reader.LoadedConfig as loaded
use Rattle.run_config.specs.declared.config.Config as core
use Rattle.proxy.specs.declared.end.End.{End}
use Rattle.proxy.specs.declared.end.End.TheVariants.{Done, Usage, Config, Schedule, ReadFault}
use Rattle.proxy.specs.declared.end.End.TheVariants.{WriteFault, Memory, Differs, SecondText}
use Rattle.proxy.specs.Command.{Command, Checks as Checking, Explains as Explaining, Migrates as Migrating}
use Rattle.proxy.specs.Complete.{Completes, IsRefused, MayLoad, MayMirror, MayReplay, MayReport, MayTell}
use Rattle.proxy.specs.Migrating.{MigratesFile}
use Rattle.proxy.specs.Mirroring.{IsMirror, MirrorsFiles, MirrorsTo, OfMoments, outcome_end, outcome_text}
use Rattle.proxy.specs.Offline.{ChecksFile, ExplainsFile, IsNotBuilt, IsRefusal, OfCommand, Offline, ReplaysFiles, Runs}
use Rattle.proxy.specs.Says.{TellsFault}
use Rattle.proxy.specs.Replayed.{MeetsFault, MeetsRefusal, Replayed}
use Rattle.proxy.specs.Runnable.{IsBuilt, can_run}
use Rattle.config.proofs.Filling.{is_filled}
use Rattle.proxy.specs.Recorded.{FaultsRecord, ReportsFile}
use Rattle.config.specs.Loading.{IsContents}
use Rattle.journal_value.specs.Journal.{AllFit, IsJournal}
use Rattle.journal_value.specs.declared.journal.JournalLine.{JournalLine}
use Rattle.px_outside.specs.Outside.{told_more}
use Rattle.table_mirror.specs.Pushed.{out_of_order, pushed}
use Rattle.table_mirror.proofs.Once.{one_outcome}
use Rattle.journal_value.proofs.NoJournal.{fault_has_no_journal}
use Rattle.proxy.proofs.OneRun.{told_is, same_run, same_settings, not_faulty}
use Rattle.proxy.proofs.WholeReading.{whole_has_no_fault}

module _ (told : List ℕ → Option (List ℕ)) (rb rn : ℕ) (name : List ℕ) (C : loaded.LoadedConfig) (m : MayLoad told name C) where
  loads_rightly : (text : List ℕ) → TellsFault told rb rn name text → ⊥
  loads_rightly text t = not_faulty told name C m rb rn t.fault t.faulty.was_read t.faulty.answers

  pub no_refusal : IsBuilt C → (text : List ℕ) → IsRefusal told rb rn name text → ⊥
  no_refusal built text (inl t) = loads_rightly text t
  no_refusal built text (inr n) = runs_rightly n.0
    where
      runs_rightly : IsNotBuilt told name → ⊥
      runs_rightly n =
          let fills = is_filled told m.top C m.faultless m.configures in
          let can : can_run n.K ≡ true = same_run told name C m n.C n.loads fills.0 n.K fills.1 n.fills ∙ built fills.0 fills.1 in
          let cannot : can_run n.K ≡ false = n.not_built in
          cc

-- a record that is a journal has no faulty line
journal_has_no_fault : (record_text text : List ℕ) (lines : List JournalLine) → IsJournal record_text lines → AllFit lines → FaultsRecord record_text text → ⊥
journal_has_no_fault record_text text lines journal fit f = f.found_memory (fault_has_no_journal record_text f.fault lines f.first journal fit)

module _ (words : List (List ℕ)) (told : List ℕ → Option (List ℕ)) (old new : Option (List ℕ)) (rb rn b n : ℕ) where
  checks : (end : End) (m : MayTell Checking words told rb rn b n) → ChecksFile m.name told old new rb rn b n end → (end ≡ Done) ⊎ (end ≡ Memory)
  checks Done m k = inl refl
  checks Usage m k = absurd k
  checks Config m k = absurd (loads_rightly told rb rn m.name m.C m.loads k.0 k.1)
  checks Schedule m k = absurd k
  checks ReadFault m k = absurd (m.no_read_fault k.0)
  checks WriteFault m k = absurd (m.no_write_fault k.0)
  checks Memory m k = inr refl
  checks Differs m k = absurd k
  checks SecondText m k = absurd k

  explains : (end : End) (m : MayTell Explaining words told rb rn b n) → ExplainsFile m.name told old new rb rn b n end → (end ≡ Done) ⊎ (end ≡ Memory)
  explains Done m k = inl refl
  explains Usage m k = absurd k
  explains Config m k = absurd (not_faulty told m.name m.C m.loads rb rn k.0 k.1.was_read k.1.answers)
  explains Schedule m k = absurd k
  explains ReadFault m k = absurd (m.no_read_fault k.0)
  explains WriteFault m k = absurd (m.no_write_fault k.0)
  explains Memory m k = inr refl
  explains Differs m k = absurd k
  explains SecondText m k = absurd k

  migrates : (end : End) (m : MayTell Migrating words told rb rn b n) → MigratesFile m.name told old new rb rn b n end → (end ≡ Done) ⊎ (end ≡ Memory)
  migrates Done m k = inl refl
  migrates Usage m k = absurd k
  migrates Config m k = absurd (loads_rightly told rb rn m.name m.C m.loads k.0 k.1)
  migrates Schedule m k = absurd k
  migrates ReadFault m k = absurd (m.no_read_fault k.0)
  migrates WriteFault m k = absurd (m.no_write_fault k.0)
  migrates Memory m k = inr refl
  migrates Differs m k = absurd k
  migrates SecondText m k = absurd k

  no_fault : (m : MayReport words told rb rn b n) (record_text text : List ℕ) → IsContents told m.name record_text → FaultsRecord record_text text → ⊥
  no_fault m record_text text contents f =
      let same : record_text ≡ m.record_text = told_is (told m.name) record_text m.record_text m.record_is contents in
      journal_has_no_fault m.record_text text m.lines m.journal m.fit (subst (λ t. FaultsRecord t text) same f)

  reports : (end : End) (m : MayReport words told rb rn b n) → ReportsFile m.name told old new rb rn b n end → (end ≡ Done) ⊎ (end ≡ Memory)
  reports Done m k = inl refl
  reports Usage m k = absurd k.tells
  reports Config m k = absurd k.tells
  reports Schedule m k = absurd (no_fault m k.record_text k.tells.0 k.contents k.tells.1)
  reports ReadFault m k = absurd (m.no_read_fault k.0)
  reports WriteFault m k = absurd (m.no_write_fault k.tells.0)
  reports Memory m k = inr refl
  reports Differs m k = absurd k.tells
  reports SecondText m k = absurd k.tells

  -- a record that is a journal whose moments are in order comes to what its plan does
  module _ (m : MayMirror words told rb rn b n) where
    abbrev Due : List ℕ → End → Type 0
    Due text end = (end ≡ outcome_end m.outcome) × (text ≡ outcome_text m.outcome)

    moments_due : (place : Option ℕ) (text : List ℕ) (end : End) → place ≡ None → OfMoments place m.C.settings.rows m.record_text m.lines m.plan text end → Due text end
    moments_due (Some place) text end is c = absurd (let h = is in cc)
    moments_due None text end is c =
        let same : c.outcome ≡ m.outcome = one_outcome m.C.settings.rows (pushed m.lines) m.plan c.outcome m.outcome c.comes m.comes in
        (c.end_is ∙ ap outcome_end same, c.text_is ∙ ap outcome_text same)

    mirror_due : (text : List ℕ) (end : End) → MirrorsTo m.C.settings.rows m.record_text m.plan text end → Due text end
    mirror_due text end (inl f) = absurd (journal_has_no_fault m.record_text text m.lines m.journal m.fit f.0)
    mirror_due text end (inr j) =
        let same : j.told ≡ m.lines = j.is_one.one m.lines m.fit m.journal in
        moments_due (out_of_order 0 m.lines) text end m.in_order (subst (λ t. OfMoments (out_of_order 0 t) m.C.settings.rows m.record_text t m.plan text end) same j.comes)

    is_due : (text : List ℕ) (end : End) → IsMirror told m.names text end → Due text end
    is_due text end k =
        let record_same : k.texts.record_text ≡ m.record_text = told_is (told m.names.record_file) k.texts.record_text m.record_text m.record_is k.are_texts.record_text in
        let plan_same : k.texts.plan ≡ m.plan = told_is (told m.names.plan) k.texts.plan m.plan m.plan_is k.are_texts.plan in
        let rows_same : k.texts.rows ≡ m.C.settings.rows = k.are_texts.rows_are ∙ k.has_rows.rows_are ∙ ap (λ s. s.rows) (same_settings told m.names.config m.C m.loads k.has_rows.C k.has_rows.loads) in
        mirror_due text end (subst (λ p. MirrorsTo m.C.settings.rows m.record_text p text end) plan_same
        (subst (λ r. MirrorsTo m.C.settings.rows r k.texts.plan text end) record_same (subst (λ n. MirrorsTo n k.texts.record_text k.texts.plan text end) rows_same k.comes)))

    written_due : (text : List ℕ) (end : End) → IsMirror told m.names text end → new ≡ told_more old text → (end ≡ outcome_end m.outcome) × (new ≡ told_more old (outcome_text m.outcome))
    written_due text end is written = let due = is_due text end is in (due.0, written ∙ ap (told_more old) due.1)

  mirrors : (end : End) (m : MayMirror words told rb rn b n) → MirrorsFiles m.names told old new rb rn b n end
      → ((end ≡ outcome_end m.outcome) × (new ≡ told_more old (outcome_text m.outcome))) ⊎ (end ≡ Memory)
  mirrors Done m k = inl (written_due m k.0 Done k.1 k.2)
  mirrors Usage m k = absurd k
  mirrors Config m k = absurd (loads_rightly told rb rn m.names.config m.C m.loads k.0 k.1)
  mirrors Schedule m k = inl (written_due m k.0 Schedule k.1 k.2)
  mirrors ReadFault m k = absurd (m.no_read_fault k.0)
  mirrors WriteFault m k = absurd (m.no_write_fault k.0)
  mirrors Memory m k = inr refl
  mirrors Differs m k = inl (written_due m k.0 Differs k.1 k.2)
  mirrors SecondText m k = absurd k

  -- a schedule of which each line spells an event has no faulty line
  module _ (m : MayReplay words told rb rn b n) (K : core.Config) (runs : Runs told m.named K m.schedule) where
    refusal : MeetsFault K m.schedule old new ⊎ MeetsRefusal K m.schedule old new → (Schedule ≡ Done) ⊎ (Schedule ≡ Memory) ⊎ ((Schedule ≡ Schedule) × IsRefused told m.named m.schedule old new)
    refusal (inl f) = absurd (whole_has_no_fault m.schedule f.text f.rest m.number f.number m.events _ f.kind m.reads f.schedule_is f.reports.reads f.faulty)
    refusal (inr r) = inr (inr (refl, (K, runs, r)))

  replays : (end : End) (m : MayReplay words told rb rn b n) → ReplaysFiles m.named told old new rb rn b n end → (end ≡ Done) ⊎ (end ≡ Memory) ⊎ ((end ≡ Schedule) × IsRefused told m.named m.schedule old new)
  replays Done m k = inl refl
  replays Usage m k = absurd k
  replays Config m k = absurd (no_refusal told rb rn m.named.config m.C m.loads m.built k.0 k.1)
  replays Schedule m k =
      let same : k.schedule ≡ m.schedule = told_is (told m.named.schedule) k.schedule m.schedule m.schedule_is k.runs.schedule_contents in
      refusal m k.K (subst (λ s. Runs told m.named k.K s) same k.runs) (subst (λ s. Replayed k.K s old new b n Schedule) same k.replayed)
  replays ReadFault m k = absurd (m.no_read_fault k.0)
  replays WriteFault m k = absurd (m.no_write_fault k.0)
  replays Memory m k = inr (inl refl)
  replays Differs m k = absurd k
  replays SecondText m k = absurd k

  pub completes : (end : End) → Offline words told old new rb rn b n end → Completes words told old new rb rn b n end
  completes end k =
      let P : Option Command → Type 0 = λ o. OfCommand o told old new rb rn b n end in
      record { check = λ m. checks end m (subst P m.command k); explain = λ m. explains end m (subst P m.command k); migrate = λ m. migrates end m (subst P m.command k); report = λ m. reports end m (subst P m.command k); mirror = λ m. mirrors end m (subst P m.command k); replay = λ m. replays end m (subst P m.command k) }
