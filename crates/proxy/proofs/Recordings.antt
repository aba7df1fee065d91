-- What `report` comes to, from what it said.
use Rattle.std.proofs.Common.{◌≡◌, ◌⊎◌, ℕ, List, Option, inl, inr, refl, sym, subst}
use Rattle.access_report.specs.Table.{ReportsRecord}
use Rattle.config.specs.Loading.{IsContents}
use Rattle.journal_value.specs.Journal.{FirstFault}
use Rattle.px_outside.specs.Outside.{Rose}
use Rattle.px_outside.specs.declared.failed.Failed.{Failed}
use Rattle.px_outside.specs.declared.failed.Failed.TheVariants as failed
use Rattle.proxy.specs.End.{end_of_read}
use Rattle.journal_value.specs.declared.journal.LineFault.{LineFault}
use Rattle.proxy.specs.declared.end.End.{End}
use Rattle.proxy.specs.declared.end.End.TheVariants.{Done, Usage, Config, Schedule, ReadFault, WriteFault, Memory, Differs, SecondText}
use Rattle.proxy.specs.Recorded.{FaultsRecord, IsRecordText, ReportsFile, TellsLineFault, TellsRecord, WritesRecordText}
use Rattle.proxy.specs.Report.{text_fault}
use Rattle.proxy.specs.Says.{Tells}
use Rattle.proxy.specs.Written.{WritesFrontOf}
use Rattle.proxy.proofs.Ends.{by_end}

module _ (record_text : List ℕ) (old new : Option (List ℕ)) (before now : ℕ) where
  due : (text : List ℕ) → IsRecordText record_text text → (new ≡ old) ⊎ WritesFrontOf text old new → (new ≡ old) ⊎ WritesRecordText record_text old new
  due text is (inl same) = inl same
  due text is (inr front) = inr (text, is, front)

  pub report_told : (text : List ℕ) → ReportsRecord record_text text → (end : End) → Tells text Done old new before now end → TellsRecord record_text old new before now end
  report_told text is end tells =
      by_end text Done old new before now (λ e. TellsRecord record_text old new before now e)
      (λ written. (text, is, written)) (λ rose front. (rose, (text, inl is, front)))
      (λ part. due text (inl is) part) end tells

  pub fault_told : (fault : LineFault) → FirstFault record_text fault → (end : End) → TellsLineFault fault old new before now end → TellsRecord record_text old new before now end
  fault_told fault first end (inl t) =
      let text = text_fault fault.line fault.kind in
      let is : FaultsRecord record_text text = record { fault = fault; found_memory = t.0; first = first; text_is = refl } in
      by_end text Schedule old new before now (λ e. TellsRecord record_text old new before now e)
      (λ written. (text, is, written)) (λ rose front. (rose, (text, inr is, front)))
      (λ part. due text (inr is) part) end t.1
  fault_told fault first end (inr t) = subst (λ e. TellsRecord record_text old new before now e) (sym t.0) (inl t.1)

module _ (told : List ℕ → Option (List ℕ)) (old new : Option (List ℕ)) (rb rn b n : ℕ) (name : List ℕ) where
  pub record_read : (record_text : List ℕ) → IsContents told name record_text → (end : End) → TellsRecord record_text old new b n end → ReportsFile name told old new rb rn b n end
  record_read record_text is Done t = record { record_text = record_text; contents = is; tells = t }
  record_read record_text is Usage t = absurd t
  record_read record_text is Config t = absurd t
  record_read record_text is Schedule t = record { record_text = record_text; contents = is; tells = t }
  record_read record_text is ReadFault t = absurd t
  record_read record_text is WriteFault t = record { record_text = record_text; contents = is; tells = t }
  record_read record_text is Memory t = inr (record { record_text = record_text; contents = is; tells = t })
  record_read record_text is Differs t = absurd t
  record_read record_text is SecondText t = absurd t

  pub record_unread : (why : Failed) → (why ≡ failed.Failed → Rose rb rn) → new ≡ old → ReportsFile name told old new rb rn b n (end_of_read why)
  record_unread failed.Failed rose same = (rose refl, same)
  record_unread failed.Memory rose same = inl same
