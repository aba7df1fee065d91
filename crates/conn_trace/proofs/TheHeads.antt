-- Heads as every connection that speaks HTTP reads and writes them keep their limits.
use Rattle.std.proofs.Common.{◌≤◌, sym, ap, ◌∙◌, length, arith}
use Rattle.px_bytes.specs.declared.fault.HttpFault.{HttpFault}
use Rattle.std.specs.Fmt.{digits}
use Rattle.httparse.specs.Grammar.{print_response}
use Rattle.px_bytes.specs.declared.fault.HttpFault.TheVariants.{BadHead, LongHead, Host, Framing, BadChunk, ShortBody, Switching, Method}
use Rattle.http_answers.specs.Answers.{reason_of}
use Rattle.http_answers.specs.Refusals.{refusal}
use Rattle.http_messages.proofs.Short.{requests_short, responses_short}
use Rattle.irule_http.proofs.SentHeads.{interim_fits, sent_fits}
use Rattle.conn_trace.specs.Bounds.{TheHeadsFit, read_limit, refusal_limit}
use Rattle.conn_trace.specs.Http.{Heads}

refused : (f : HttpFault) → length (refusal f) ≤ refusal_limit
unfolding reason_of print_response digits
refused BadHead = omega arith
refused LongHead = omega arith
refused Host = omega arith
refused Framing = omega arith
refused BadChunk = omega arith
refused ShortBody = omega arith
refused Switching = omega arith
refused Method = omega arith

pub the_heads_fit : TheHeadsFit
the_heads_fit g is = record {
  request = λ bytes r short read. (let few = requests_short bytes r (sym (ap (λ (h : Heads). h.request bytes) is) ∙ read) in (few.0, omega (arith, few.1, short)));
  response = λ came bytes r short read. (let few = responses_short came bytes r (sym (ap (λ (h : Heads). h.response came bytes) is) ∙ read) in (few.0, omega (arith, few.1, short)));
  sent = λ side h few. (let e = ap (λ (x : Heads). length (x.sent side h)) is in omega (arith, e, sent_fits read_limit side h few));
  interim = λ r few. (let e = ap (λ (x : Heads). length (x.interim r)) is in omega (arith, e, interim_fits read_limit r few.1));
  refusal = λ f. (let e = ap (λ (x : Heads). length (x.refusal f)) is in omega (arith, e, refused f));
}
