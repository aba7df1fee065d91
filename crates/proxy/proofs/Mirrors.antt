-- What `mirror` comes to, from what it said.
use Rattle.std.proofs.Common.{◌≡◌, ◌⊎◌, ℕ, ◌<◌, ◌+◌, Bool, true, false, List, [], ◌∷◌, length, Option, Some, None, inl, inr, refl, sym, subst, arith}
use Rattle.std.specs.Prelude.{Err, IfOk, Ok, Result, if◌then◌else◌, option_map}
use Rattle.config.specs.Outcomes.{Answers}
use Rattle.config.specs.declared.fault.ConfigError.{ConfigError}
use Rattle.journal_value.specs.Journal.{FirstFault, IsJournal}
use Rattle.journal_value.specs.declared.journal.JournalLine.{JournalLine}
use Rattle.journal_value.specs.declared.journal.LineFault.{LineFault}
use Rattle.px_bytes.specs.declared.memory.Memory as want
use Rattle.px_outside.specs.Outside.{told_more, Rose}
use Rattle.px_outside.specs.declared.failed.Failed.{Failed}
use Rattle.px_outside.specs.declared.failed.Failed.TheVariants as failed
use Rattle.table_mirror.specs.Outcomes.{ComesTo}
use Rattle.table_mirror.specs.Pushed.{is_out, later, moment_of, out_of_order, pushed}
use Rattle.table_mirror.proofs.Holding.{plan_holds}
use Rattle.table_mirror.specs.declared.outcome.MirrorOutcome.{MirrorOutcome}
use Rattle.table_mirror.specs.declared.outcome.MirrorOutcome.TheVariants.{Mirrored, Faulty, Stopped}
use Rattle.table_mirror.specs.declared.packet.MirrorStop.TheVariants.{NotSent, Differs as Other}
use Rattle.proxy.specs.declared.end.End.{End}
use Rattle.proxy.specs.declared.end.End.TheVariants.{Done, Schedule, Memory, Differs}
use Rattle.proxy.specs.declared.mirror_command.MirrorTexts.{MirrorTexts}
use Rattle.proxy.specs.Command.{MirrorNames}
use Rattle.proxy.specs.Loads.{LoadsSome}
use Rattle.proxy.specs.Mirroring.{AreTexts, FollowsPlan, HasRows, IsMirror, IsMirrorText, IsOneJournal, MirrorsFiles, MirrorsTo, NamesMoment, OfMoments, TellsMade, TellsSome, outcome_end, outcome_text}
use Rattle.proxy.specs.End.{end_of_read}
use Rattle.proxy.specs.Recorded.{FaultsRecord, TellsLineFault}
use Rattle.proxy.specs.Report.{text_fault}
use Rattle.proxy.specs.Says.{Refuses}
use Rattle.proxy.proofs.Ends.{by_end, by_refusal, cut_due}

-- a place that is named is one of the journal's
pub named_within : (last : ℕ) (told : List JournalLine) (place : ℕ) → out_of_order last told ≡ Some place → place < length told
named_within last [] place is = absurd (let h = is in cc)
named_within last (line ∷ told) place is =
    by_line (is_out last (moment_of line)) (λ n at. named_within (later last (moment_of line)) told n at) is
  where
    behind : (o : Option ℕ) → ((n : ℕ) → o ≡ Some n → n < length told) → option_map (λ n. n + 1) o ≡ Some place → place < length (line ∷ told)
    behind None within e = absurd (let h = e in cc)
    behind (Some n) within e = let same : n + 1 ≡ place = let h = e in cc in omega (arith, same, within n refl)

    by_line : (b : Bool) → ((n : ℕ) → out_of_order (later last (moment_of line)) told ≡ Some n → n < length told)
        → (if b then Some 0 else option_map (λ n. n + 1) (out_of_order (later last (moment_of line)) told)) ≡ Some place → place < length (line ∷ told)
    by_line true within e = let same : 0 ≡ place = let h = e in cc in omega (arith, same)
    by_line false within e = behind (out_of_order (later last (moment_of line)) told) within e

-- it ends in one of three ways
abbrev IsUsual : End → Type 0
IsUsual end = (end ≡ Done) ⊎ (end ≡ Schedule) ⊎ (end ≡ Differs)

outcome_usual : (outcome : MirrorOutcome) → IsUsual (outcome_end outcome)
outcome_usual (Mirrored text) = inl refl
outcome_usual (Faulty line kind) = inr (inl refl)
outcome_usual (Stopped line NotSent) = inr (inl refl)
outcome_usual (Stopped line (Other number)) = inr (inr refl)

moments_usual : (place : Option ℕ) (rows : ℕ) (record_text : List ℕ) (told : List JournalLine) (plan text : List ℕ) (end : End) → OfMoments place rows record_text told plan text end → IsUsual end
moments_usual (Some place) rows record_text told plan text end m = inr (inl m.end_is)
moments_usual None rows record_text told plan text end m = subst IsUsual (sym m.end_is) (outcome_usual m.outcome)

usual_end : (rows : ℕ) (record_text plan text : List ℕ) (end : End) → MirrorsTo rows record_text plan text end → IsUsual end
usual_end rows record_text plan text end (inl f) = inr (inl f.1)
usual_end rows record_text plan text end (inr m) = moments_usual _ rows record_text m.told plan text end m.comes

module _ (told : List ℕ → Option (List ℕ)) (old new : Option (List ℕ)) (rb rn b n : ℕ) (names : MirrorNames) where
  abbrev Ends : End → Type 0
  Ends end = MirrorsFiles names told old new rb rn b n end

  pub mirror_refused : (why : ConfigError) → Answers told rb rn names.config (Err why) → (end : End) → Refuses why old new b n end → Ends end
  mirror_refused why answers end t =
      by_refusal told old new rb rn b n names.config Ends
      (λ text is written. (text, is, written)) (λ text is rose front. (rose, (text, inl is, front)))
      (λ text is part. cut_due text (IsMirrorText told rb rn names) old new (inl is) part)
      (λ rose unread same. (rose, inl unread, same)) (λ same. inl same) why answers end t

  pub texts_unread : LoadsSome told names.config → (why : Failed) → (why ≡ failed.Failed → Rose rb rn) → new ≡ old → Ends (end_of_read why)
  texts_unread loads failed.Failed rose same = (rose refl, inr loads, same)
  texts_unread loads failed.Memory rose same = inl same

  written : (text : List ℕ) (usual : End) → IsUsual usual → IsMirror told names text usual → new ≡ told_more old text → Ends usual
  written text usual (inl is) m now = subst Ends (sym is) (text, subst (IsMirror told names text) is m, now)
  written text usual (inr (inl is)) m now = subst Ends (sym is) (text, subst (IsMirror told names text) is m, now)
  written text usual (inr (inr is)) m now = subst Ends (sym is) (text, subst (IsMirror told names text) is m, now)

  pub mirrored : (rows : ℕ) → HasRows told names.config rows → (texts : MirrorTexts) → AreTexts told names rows texts → (end : End) → TellsSome (MirrorsTo texts.rows texts.record_text texts.plan) old new b n end → Ends end
  mirrored rows has texts are end (inl t) =
      let is : IsMirror told names t.text t.usual = record { rows = rows; has_rows = has; texts = texts; are_texts = are; comes = t.due } in
      let usual = usual_end texts.rows texts.record_text texts.plan t.text t.usual t.due in
      by_end t.text t.usual old new b n Ends (written t.text t.usual usual is)
      (λ rose front. (rose, (t.text, inr (t.usual, is), front)))
      (λ part. cut_due t.text (IsMirrorText told rb rn names) old new (inr (t.usual, is)) part) end t.tells
  mirrored rows has texts are end (inr t) = subst Ends (sym t.0) (inl t.1)

-- of a record with a faulty line, and of one without
module _ (rows : ℕ) (record_text plan : List ℕ) (old new : Option (List ℕ)) (before now : ℕ) where
  pub fault_mirrored : (fault : LineFault) → FirstFault record_text fault → (end : End) → TellsLineFault fault old new before now end → TellsSome (MirrorsTo rows record_text plan) old new before now end
  fault_mirrored fault first end (inl t) =
      let text = text_fault fault.line fault.kind in
      let is : FaultsRecord record_text text = record { fault = fault; found_memory = t.0; first = first; text_is = refl } in
      inl (record { text = text; usual = Schedule; due = inl (is, refl); tells = t.1 })
  fault_mirrored fault first end (inr t) = inr t

  pub journal_mirrored : (told : List JournalLine) → IsOneJournal record_text told → (end : End) → TellsSome (OfMoments (out_of_order 0 told) rows record_text told plan) old new before now end → TellsSome (MirrorsTo rows record_text plan) old new before now end
  journal_mirrored told is_one end (inl t) =
      inl (record { text = t.text; usual = t.usual; due = inr (record { told = told; is_one = is_one; comes = t.due }); tells = t.tells })
  journal_mirrored told is_one end (inr t) = inr t

-- ---- of a text that was made

module _ (old new : Option (List ℕ)) (before now : ℕ) where
  pub made_told : (IsDue : List ℕ → End → Type 0) (usual : End) (line : Result (List ℕ) want.Memory) → IfOk line (λ text. IsDue text usual) → (end : End) → TellsMade line usual old new before now end → TellsSome IsDue old new before now end
  made_told IsDue usual (Ok text) due end t = inl (record { text = text; usual = usual; due = due; tells = t })
  made_told IsDue usual (Err w) due end t = inr t

  module _ (rows : ℕ) (told : List JournalLine) (plan : List ℕ) where
    follows : (outcome : MirrorOutcome) (usual : End) → ComesTo rows (pushed told) plan outcome → usual ≡ outcome_end outcome → (line : Result (List ℕ) want.Memory) → IfOk line (λ text. text ≡ outcome_text outcome) → IfOk line (λ text. FollowsPlan rows told plan text usual)
    follows outcome usual comes end_is (Ok text) text_is = record {
      outcome = outcome;
      comes = comes;
      holds = plan_holds rows (pushed told) plan outcome comes;
      text_is = text_is;
      end_is = end_is;
    }
    follows outcome usual comes end_is (Err w) text_is = _

    pub outcome_told : (outcome : MirrorOutcome) (usual : End) → ComesTo rows (pushed told) plan outcome → usual ≡ outcome_end outcome → (line : Result (List ℕ) want.Memory) → IfOk line (λ text. text ≡ outcome_text outcome) → (end : End) → TellsMade line usual old new before now end → TellsSome (FollowsPlan rows told plan) old new before now end
    outcome_told outcome usual comes end_is line text_is end t =
        made_told (FollowsPlan rows told plan) usual line (follows outcome usual comes end_is line text_is) end t

    module _ (record_text : List ℕ) where
      pub plan_told : out_of_order 0 told ≡ None → (end : End) → TellsSome (FollowsPlan rows told plan) old new before now end → TellsSome (OfMoments (out_of_order 0 told) rows record_text told plan) old new before now end
      plan_told none end t = subst (λ place. TellsSome (OfMoments place rows record_text told plan) old new before now end) (sym none) t

      names_moment : (place : ℕ) (line : Result (List ℕ) want.Memory) → IsJournal record_text told → place < length told
          → IfOk line (λ text. (of : List JournalLine) → IsJournal record_text of → place < length of → NamesMoment record_text place text Schedule)
          → IfOk line (λ text. NamesMoment record_text place text Schedule)
      names_moment place (Ok text) journal within names = names told journal within
      names_moment place (Err w) journal within names = _

      pub moment_told : (place : ℕ) (line : Result (List ℕ) want.Memory) → IsJournal record_text told → out_of_order 0 told ≡ Some place
          → IfOk line (λ text. (of : List JournalLine) → IsJournal record_text of → place < length of → NamesMoment record_text place text Schedule)
          → (end : End) → TellsMade line Schedule old new before now end → TellsSome (OfMoments (out_of_order 0 told) rows record_text told plan) old new before now end
      moment_told place line journal some names end t =
          let named = names_moment place line journal (named_within 0 told place some) names in
          subst (λ at. TellsSome (OfMoments at rows record_text told plan) old new before now end) (sym some)
          (made_told (λ text e. OfMoments (Some place) rows record_text told plan text e) Schedule line named end t)
