-- What a command comes to, from what it said.
use Rattle.std.proofs.Common.{◌≡◌, ◌⊎◌, ℕ, Bool, true, false, if◌then◌else◌, List, Option, None, inl, inr, refl, sym, subst}
use Rattle.std.specs.Prelude.{Result, Ok, Err}
use Rattle.config.specs.Outcomes.{Answers}
use Rattle.config.specs.declared.fault.ConfigError.{ConfigError}
use Rattle.config.specs.declared.fault.ConfigError.TheVariants as refused
use Rattle.config.specs.declared.fault.ConfigFault.{ConfigFault}
use Rattle.config.specs.declared.reader.LoadedConfig as loaded
use Rattle.px_outside.specs.Outside.{told_more, Rose}
use Rattle.px_outside.specs.declared.failed.Failed.{Failed}
use Rattle.px_outside.specs.declared.failed.Failed.TheVariants as failed
use Rattle.run_config.specs.declared.config.Config as core
use Rattle.proxy.specs.declared.end.End.{End}
use Rattle.proxy.specs.declared.end.End.TheVariants.{Done, Usage, Config, Schedule, ReadFault}
use Rattle.proxy.specs.declared.end.End.TheVariants.{WriteFault, Memory, Differs, SecondText}
use Rattle.proxy.specs.Command.{Named}
use Rattle.proxy.specs.End.{end_of_read, end_unless}
use Rattle.proxy.specs.Loads.{IsUnread, Loads, LoadsSome, is_read_fault}
use Rattle.proxy.specs.Offline.{ChecksFile, Explains, ExplainsFile, IsCheck, IsDue, IsExplanation, IsNotBuilt, ReplaysFiles, Runs, not_built_text}
use Rattle.proxy.specs.Replayed.{Replayed}
use Rattle.proxy.specs.Report.{ok_text}
use Rattle.proxy.specs.Runnable.{IsRun, run_of}
use Rattle.proxy.proofs.Building.{not_run}
use Rattle.proxy.specs.Explain.{explanation, loads_text}
use Rattle.proxy.specs.Says.{Refuses, Says, Tells, TellsBy, TellsFault, fault_text}
use Rattle.proxy.specs.Written.{WritesDue, WritesFrontOf}
use Rattle.proxy.proofs.ConfigAnswers.{loads, read_rose}

-- an end that says a text, by what was said
module _ (text : List ℕ) (usual : End) (old new : Option (List ℕ)) (before now : ℕ) (P : End → Type 0)
    (done : new ≡ told_more old text → P usual) (cut : Rose before now → WritesFrontOf text old new → P WriteFault)
    (none : (new ≡ old) ⊎ WritesFrontOf text old new → P Memory) where
  by_said : (res : Result (Unit {0}) End) → Says text old new before now res → P (end_unless usual res)
  by_said (Ok u) s = done s
  by_said (Err Done) s = absurd s
  by_said (Err Usage) s = absurd s
  by_said (Err Config) s = absurd s
  by_said (Err Schedule) s = absurd s
  by_said (Err ReadFault) s = absurd s
  by_said (Err WriteFault) s = cut s.0 s.1
  by_said (Err Memory) s = none s
  by_said (Err Differs) s = absurd s
  by_said (Err SecondText) s = absurd s

  pub by_end : (end : End) → Tells text usual old new before now end → P end
  by_end end t = subst P (sym t.ends) (by_said t.said t.says)

-- a prefix of a text that is due, or nothing
pub cut_due : (text : List ℕ) (IsDue : List ℕ → Type 0) (old new : Option (List ℕ)) → IsDue text → (new ≡ old) ⊎ WritesFrontOf text old new → (new ≡ old) ⊎ WritesDue IsDue old new
cut_due text due old new is (inl same) = inl same
cut_due text due old new is (inr front) = inr (text, is, front)

-- an end of a command whose configuration doesn't load, by what was said
module _ (told : List ℕ → Option (List ℕ)) (old new : Option (List ℕ)) (rb rn b n : ℕ) (name : List ℕ) (P : End → Type 0)
    (faulty : (text : List ℕ) → TellsFault told rb rn name text → new ≡ told_more old text → P Config)
    (cut : (text : List ℕ) → TellsFault told rb rn name text → Rose b n → WritesFrontOf text old new → P WriteFault)
    (part : (text : List ℕ) → TellsFault told rb rn name text → (new ≡ old) ⊎ WritesFrontOf text old new → P Memory)
    (unread : Rose rb rn → IsUnread told rb rn name → new ≡ old → P ReadFault) (none : new ≡ old → P Memory) where
  by_fault : (f : ConfigFault) (is : Bool) → is_read_fault f.kind ≡ is → Answers told rb rn name (Err (refused.Fault f)) → (end : End) → TellsBy is f old new b n end → P end
  by_fault f true is answers end t =
      subst P (sym t.0) (unread (read_rose told rb rn name f is answers) (record { fault = f; answers = answers; unread = is }) t.1)
  by_fault f false is answers end t =
      let text = fault_text f in
      let tells : TellsFault told rb rn name text = record { fault = f; faulty = record { answers = answers; was_read = is }; text_is = refl } in
      by_end text Config old new b n P (faulty text tells) (cut text tells) (part text tells) end t

  pub by_refusal : (why : ConfigError) → Answers told rb rn name (Err why) → (end : End) → Refuses why old new b n end → P end
  by_refusal (refused.Fault f) answers end t = by_fault f (is_read_fault f.kind) refl answers end t
  by_refusal refused.Memory answers end t = subst P (sym t.0) (none t.1)

module _ (told : List ℕ → Option (List ℕ)) (old new : Option (List ℕ)) (rb rn b n : ℕ) where
  -- `check`
  module _ (name : List ℕ) where
    pub checked : (C : loaded.LoadedConfig) → Answers told rb rn name (Ok C) → (end : End) → Tells ok_text Done old new b n end → ChecksFile name told old new rb rn b n end
    checked C answers end tells =
        let some : LoadsSome told name = (C, loads told rb rn name C answers) in
        by_end ok_text Done old new b n (λ e. ChecksFile name told old new rb rn b n e)
        (λ written. (some, written)) (λ rose front. (rose, (ok_text, inr (some, refl), front)))
        (λ part. cut_due ok_text (IsCheck told rb rn name) old new (inr (some, refl)) part) end tells

    pub check_refused : (why : ConfigError) → Answers told rb rn name (Err why) → (end : End) → Refuses why old new b n end → ChecksFile name told old new rb rn b n end
    check_refused why answers end t =
        by_refusal told old new rb rn b n name (λ e. ChecksFile name told old new rb rn b n e)
        (λ text is written. (text, is, written)) (λ text is rose front. (rose, (text, inl is, front)))
        (λ text is part. cut_due text (IsCheck told rb rn name) old new (inl is) part)
        (λ rose unread same. (rose, unread, same)) (λ same. inl same) why answers end t

  -- `explain`
  module _ (name : List ℕ) where
    pub explained : (C : loaded.LoadedConfig) → Answers told rb rn name (Ok C) → (end : End) → Tells (loads_text name C.settings.virtuals) Done old new b n end → ExplainsFile name told old new rb rn b n end
    explained C answers end tells =
        let is = loads told rb rn name C answers in
        let text = loads_text name C.settings.virtuals in
        let due : IsExplanation told rb rn name text = inr (C, is, refl) in
        by_end text Done old new b n (λ e. ExplainsFile name told old new rb rn b n e)
        (λ written. (C, is, written)) (λ rose front. (rose, (text, due, front)))
        (λ part. cut_due text (IsExplanation told rb rn name) old new due part) end tells

    explained_by : (f : ConfigFault) (is : Bool) → is_read_fault f.kind ≡ is → Answers told rb rn name (Err (refused.Fault f)) → (end : End) → Tells (explanation name f) (if is then ReadFault else Config) old new b n end → ExplainsFile name told old new rb rn b n end
    explained_by f true is answers end t =
        let due : IsExplanation told rb rn name (explanation name f) = inl (f, answers, refl) in
        by_end (explanation name f) ReadFault old new b n (λ e. ExplainsFile name told old new rb rn b n e)
        (λ written. (read_rose told rb rn name f is answers, (record { fault = f; answers = answers; unread = is }, written)))
        (λ rose front. (rose, (explanation name f, due, front)))
        (λ part. cut_due (explanation name f) (IsExplanation told rb rn name) old new due part) end t
    explained_by f false is answers end t =
        let due : IsExplanation told rb rn name (explanation name f) = inl (f, answers, refl) in
        by_end (explanation name f) Config old new b n (λ e. ExplainsFile name told old new rb rn b n e)
        (λ written. (f, record { answers = answers; was_read = is }, written))
        (λ rose front. (rose, (explanation name f, due, front)))
        (λ part. cut_due (explanation name f) (IsExplanation told rb rn name) old new due part) end t

    pub explained_why : (why : ConfigError) → Answers told rb rn name (Err why) → (end : End) → Explains name why old new b n end → ExplainsFile name told old new rb rn b n end
    explained_why (refused.Fault f) answers end t = explained_by f (is_read_fault f.kind) refl answers end t
    explained_why refused.Memory answers end t = subst (λ e. ExplainsFile name told old new rb rn b n e) (sym t.0) (inl t.1)

  -- `replay`
  module _ (named : Named) where
    pub replay_refused : (why : ConfigError) → Answers told rb rn named.config (Err why) → (end : End) → Refuses why old new b n end → ReplaysFiles named told old new rb rn b n end
    replay_refused why answers end t =
        by_refusal told old new rb rn b n named.config (λ e. ReplaysFiles named told old new rb rn b n e)
        (λ text is written. (text, inl is, written)) (λ text is rose front. (rose, (text, inl (inl is), front)))
        (λ text is part. cut_due text (IsDue told rb rn named) old new (inl (inl is)) part)
        (λ rose unread same. (rose, inl unread, same)) (λ same. inl same) why answers end t

    pub not_built : (C : loaded.LoadedConfig) → Answers told rb rn named.config (Ok C) → run_of C ≡ None → (end : End) → Tells not_built_text Config old new b n end → ReplaysFiles named told old new rb rn b n end
    not_built C answers none end t =
        let is : IsNotBuilt told named.config = not_run told named.config C (loads told rb rn named.config C answers) none in
        by_end not_built_text Config old new b n (λ e. ReplaysFiles named told old new rb rn b n e)
        (λ written. (not_built_text, inr (is, refl), written)) (λ rose front. (rose, (not_built_text, inl (inr (is, refl)), front)))
        (λ part. cut_due not_built_text (IsDue told rb rn named) old new (inl (inr (is, refl))) part) end t

    -- the schedule can't be read
    pub unread : (C : loaded.LoadedConfig) (K : core.Config) → Loads told named.config C → IsRun C K → (why : Failed) → (why ≡ failed.Failed → Rose rb rn) → new ≡ old → ReplaysFiles named told old new rb rn b n (end_of_read why)
    unread C K loaded is failed.Failed rose same = (rose refl, inr (C, K, loaded, is), same)
    unread C K loaded is failed.Memory rose same = inl same

    module _ (K : core.Config) (schedule : List ℕ) (runs : Runs told named K schedule) where
      pub replayed : (end : End) → Replayed K schedule old new b n end → ReplaysFiles named told old new rb rn b n end
      replayed Done r = record { K = K; schedule = schedule; runs = runs; replayed = r }
      replayed Usage r = absurd r
      replayed Config r = absurd r
      replayed Schedule r = record { K = K; schedule = schedule; runs = runs; replayed = r }
      replayed ReadFault r = absurd r
      replayed WriteFault r = (r.0, (r.1.0, inr (K, schedule, runs, r.1.1), r.1.2))
      replayed Memory (inl same) = inl same
      replayed Memory (inr w) = inr (w.0, inr (K, schedule, runs, w.1), w.2)
      replayed Differs r = absurd r
      replayed SecondText r = absurd r
