use Rattle.std.proofs.Common.{ℕ, arith, sym, subst}
use Rattle.px_bytes.specs.declared.fault.FaultKind.{FaultKind}
use Rattle.journal_text.specs.Notes.{fault_number}
use Rattle.journal_value.specs.Exact.{Anything, Exact}
use Rattle.journal_value.specs.Words.{every_kind}
use Rattle.journal_value.proofs.Found.{by_number, numbered}
use Rattle.journal_value.proofs.EachWord.{each_kind, small_kind}
use Rattle.journal_value.proofs.choices.kind_of.Goals as goal

pub returns : goal.returns
returns c =
    let n = c.in_ok-read_decimal.field-0 in
    let is = c.in_ok-read_decimal.ensures.found in
    let exact = by_number FaultKind fault_number every_kind each_kind n in
    numbered FaultKind fault_number small_kind n (omega (arith, is.1)) c.args.word.now is.0 c.kind_at.result (subst (Exact FaultKind ℕ fault_number Anything n) (sym c.kind_at.ensures) exact)
