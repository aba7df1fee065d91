use Rattle.std.proofs.Common.{ℕ, arith, sym, subst}
use Rattle.px_bytes.specs.declared.fault.HttpFault.{HttpFault}
use Rattle.journal_text.specs.Notes.{http_number}
use Rattle.journal_value.specs.Exact.{Anything, Exact}
use Rattle.journal_value.specs.Words.{every_http}
use Rattle.journal_value.proofs.Found.{by_number, numbered}
use Rattle.journal_value.proofs.EachWord.{each_http, small_http}
use Rattle.journal_value.proofs.choices.http_of.Goals as goal

pub returns : goal.returns
returns c =
    let n = c.in_ok-read_decimal.field-0 in
    let is = c.in_ok-read_decimal.ensures.found in
    let exact = by_number HttpFault http_number every_http each_http n in
    numbered HttpFault http_number small_http n (omega (arith, is.1)) c.args.word.now is.0 c.http_at.result (subst (Exact HttpFault ℕ http_number Anything n) (sym c.http_at.ensures) exact)
