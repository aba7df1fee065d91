-- The limits of heads, by the lengths of their parts.
use Rattle.std.proofs.Common.{◌≡◌, ℕ, ◌+◌, ◌≤◌, not, ◌&&◌, List, length, arith, ap, sym, ◌∙◌}
use Rattle.std.specs.Prelude.{nat_le, sum_by}
use Rattle.std.proofs.lemmas.Bool.{le-leb}
use Rattle.std.proofs.lemmas.Bool.Decides.{nat_tests}
use Rattle.http_heads.specs.Fields.{Pair, is_named, line_length, without}
use Rattle.http_heads.specs.Written.{written_request, written_response}
use Rattle.http_heads.specs.declared.request.RequestHead.{RequestHead}
use Rattle.http_heads.specs.declared.response.ResponseHead.{ResponseHead}
use Rattle.http_heads.proofs.FilterFields.{few_left}
use Rattle.http_heads.proofs.ShorterFields.{shorter_filter}
use Rattle.http_heads.proofs.WrittenLengths.{request_length, response_length}
use Rattle.irule_http.specs.Heads.{request_fits}
use Rattle.http_answers.specs.Limits.{response_fits}

shifted : (n k m : ℕ) → nat_le n m ≡ nat_le (n + k) (m + k)
shifted n k m = grind (arith, nat_tests)

pub request_room : (head : RequestHead) → length head.fields ≤ 100
    → nat_le (length head.method + length head.target + sum_by line_length head.fields) 65522 ≡ request_fits head
request_room head few =
    let n = length head.method + length head.target + sum_by line_length head.fields in
    shifted n 14 65522 ∙ ap (λ m. nat_le m 65536) (sym (request_length head))
    ∙ ap (λ t. t && nat_le (length (written_request head)) 65536) (sym (le-leb (length head.fields) 100 few))

pub response_room : (head : ResponseHead) → length head.fields ≤ 100
    → nat_le (length head.reason + 0 + sum_by line_length head.fields) 65519 ≡ response_fits head
response_room head few =
    let n = length head.reason + 0 + sum_by line_length head.fields in
    let same : n + 17 ≡ length (written_response head) = omega (arith, response_length head) in
    shifted n 17 65519 ∙ ap (λ m. nat_le m 65536) same
    ∙ ap (λ t. t && nat_le (length (written_response head)) 65536) (sym (le-leb (length head.fields) 100 few))

-- fewer fields are no longer
pub fewer : (name : List ℕ) (fs : List Pair) → length (without name fs) ≤ length fs
fewer name fs = few_left (λ f. not (is_named name f)) fs

pub shorter : (name : List ℕ) (fs : List Pair) → sum_by line_length (without name fs) ≤ sum_by line_length fs
shorter name fs = shorter_filter (λ f. not (is_named name f)) fs
