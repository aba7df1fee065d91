-- An edit that would make fields too long makes its head too long.
use Rattle.std.proofs.Common.{◌≡◌, ℕ, ◌+◌, ◌≤◌, Bool, true, false, ◌&&◌, List, [], length, refl, arith, ap₂, sym, subst}
use Rattle.std.proofs.Common.{Option, Some, None, Err}
use Rattle.std.specs.Prelude.{sum_by}
use Rattle.std.proofs.lemmas.Bool.{and_parts, le-leb, leb-true}
use Rattle.px_bytes.specs.FaultText.{too_long}
use Rattle.px_bytes.specs.Host.{Faults}
use Rattle.px_bytes.specs.declared.fault.Raise.{Raise}
use Rattle.px_bytes.specs.declared.fault.Raise.TheVariants.{Fault, Memory}
use Rattle.event_order.specs.declared.event.EventName.{EventName}
use Rattle.http_heads.specs.Fields.{Pair, fit, line_length}
use Rattle.http_heads.specs.Written.{written_request, written_response}
use Rattle.http_heads.specs.declared.request.RequestHead.{RequestHead}
use Rattle.http_heads.specs.declared.response.ResponseHead.{ResponseHead}
use Rattle.irule_http.specs.Commands.{Leaves}
use Rattle.irule_http.specs.Edits.{Edited, Step, changes_some, within}
use Rattle.irule_http.specs.Heads.{holds, holds_by, left_with, request_holds, request_with}
use Rattle.irule_http.specs.Heads.{response_holds, response_with}
use Rattle.irule_http.specs.State.{is_response}
use Rattle.irule_http.specs.declared.state.Http.{Http}
use Rattle.http_heads.proofs.WrittenLengths.{request_length, response_length}

-- what fits into a head fits together
fits_alone : (fs : List Pair) → length fs ≤ 100 → sum_by line_length fs ≤ 65536 → fit fs ≡ true
fits_alone fs few short =
    ap₂ (λ s t. s && t) (le-leb (length fs) 100 few) (le-leb (sum_by line_length fs) 65536 short)

request_alone : (fs : List Pair) (o : Option RequestHead) → request_holds fs o ≡ true → fit fs ≡ true
request_alone fs None e = cc
request_alone fs (Some head) e =
    let parts = and_parts _ _ e in
    let short = leb-true (length (written_request (request_with fs head))) 65536 parts.1 in
    let size : length (written_request (request_with fs head)) ≡ length head.method + length head.target + sum_by line_length fs + 14 =
    request_length (request_with fs head) in
    fits_alone fs (leb-true _ _ parts.0) (omega (arith, short, size))

response_alone : (fs : List Pair) (o : Option ResponseHead) → response_holds fs o ≡ true → fit fs ≡ true
response_alone fs None e = cc
response_alone fs (Some head) e =
    let parts = and_parts _ _ e in
    let short = leb-true (length (written_response (response_with fs head))) 65536 parts.1 in
    let size : length (written_response (response_with fs head)) ≡ length head.reason + sum_by line_length fs + 17 =
    response_length (response_with fs head) in
    fits_alone fs (leb-true _ _ parts.0) (omega (arith, short, size))

alone : (response : Bool) (fs : List Pair) (h : Http) → holds_by response fs h ≡ true → fit fs ≡ true
alone true fs h e = response_alone fs h.response e
alone false fs h e = request_alone fs h.request e

too_long_by : (b : Bool) (event : EventName) (name : List ℕ) (fs : List Pair) (h : Http) → fit fs ≡ false → holds event fs h ≡ b
    → within b name h (left_with event fs h) ≡ Faults too_long h []
too_long_by true event name fs h long e =
    let fits : fit fs ≡ true = alone (is_response event) fs h e in cc
too_long_by false event name fs h long e = refl

is_refused : (event : EventName) (name : List ℕ) (fs : List Pair) (h : Http) → fit fs ≡ false
    → changes_some event name (Some fs) h ≡ Faults too_long h []
is_refused event name fs h long =
    let b = holds event fs h in too_long_by b event name fs h long refl

-- a fault that an edit of fields raises is the command's
pub refused : (event : EventName) (name : List ℕ) (wanted : Option (List Pair)) (h : Http) (e : Raise)
    → Edited (Err e) wanted → Leaves (changes_some event name wanted h) (Err e) h
refused event name None h (Fault f) is = (is, refl, refl)
refused event name (Some fs) h (Fault f) is =
    subst (λ step. Leaves step (Err (Fault f)) h) (sym (is_refused event name fs h is.1)) (is.0, refl, refl)
refused event name None h Memory is = tt
refused event name (Some fs) h Memory is = memory (changes_some event name (Some fs) h) h
  where
    memory : (step : Step) (h : Http) → Leaves step (Err Memory) h
    memory step h = tt
