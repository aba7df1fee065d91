-- A refusal is an answer.
use Rattle.std.proofs.Common.{◌≡◌, ℕ, ◌≤◌, true, Some, None, List, [], length, codes, refl, sym, ap, subst, ◌∙◌, arith}
use Rattle.std.specs.Fmt.{digits}
use Rattle.httparse.specs.Grammar.{print_response}
use Rattle.px_bytes.specs.declared.fault.HttpFault.{HttpFault}
use Rattle.px_bytes.specs.declared.fault.HttpFault.TheVariants.{BadHead, LongHead, Host, Framing, BadChunk, ShortBody, Switching, Method}
use Rattle.http_heads.specs.declared.line.Version.TheVariants.{Http10}
use Rattle.http_answers.specs.Answers.{Answer, answer_text, reason_of}
use Rattle.http_answers.specs.Laws.{IsAnswer}
use Rattle.http_answers.specs.Refusals.{RefusalsAreAnswers, refusal, refusal_code, refusal_most}
use Rattle.http_answers.proofs.Answering.{is_answer}

abbrev with_code : ℕ → Answer
with_code code = record { version = Http10; code = code; given = []; server = true; closes = true; content = [] }

abbrev text_of : ℕ → List ℕ
text_of code = answer_text None (with_code code)

abbrev IsRefusal : ℕ → Type 0
IsRefusal code = IsAnswer None (text_of code) × (length (text_of code) ≤ refusal_most)

bad_request : IsRefusal 400
unfolding reason_of print_response digits
bad_request =
    (is_answer None (with_code 400) (record { given = refl; least = omega arith; most = omega arith; few = omega arith }) (text_of 400) refl, omega arith)

not_implemented : IsRefusal 501
unfolding reason_of print_response digits
not_implemented =
    (is_answer None (with_code 501) (record { given = refl; least = omega arith; most = omega arith; few = omega arith }) (text_of 501) refl, omega arith)

pub refused : RefusalsAreAnswers
refused BadHead = bad_request
refused LongHead = bad_request
refused Host = bad_request
refused Framing = bad_request
refused BadChunk = bad_request
refused ShortBody = bad_request
refused Switching = bad_request
refused Method = not_implemented

-- ---- their bytes

pub method_text : codes "HTTP/1.0 501 Not Implemented\r\nServer: BigIP\r\nConnection: close\r\nContent-Length: 0\r\n\r\n" ≡ refusal Method
unfolding reason_of print_response digits
method_text = refl

bad_text : codes "HTTP/1.0 400 Bad Request\r\nServer: BigIP\r\nConnection: close\r\nContent-Length: 0\r\n\r\n" ≡ text_of 400
unfolding reason_of print_response digits
bad_text = refl

other_code : (f : HttpFault) → ¬ (f ≡ Method) → 400 ≡ refusal_code f
other_code BadHead other = refl
other_code LongHead other = refl
other_code Host other = refl
other_code Framing other = refl
other_code BadChunk other = refl
other_code ShortBody other = refl
other_code Switching other = refl
other_code Method other = absurd (other refl)

pub other_text : (f : HttpFault) → ¬ (f ≡ Method)
    → codes "HTTP/1.0 400 Bad Request\r\nServer: BigIP\r\nConnection: close\r\nContent-Length: 0\r\n\r\n" ≡ refusal f
other_text f other = bad_text ∙ ap text_of (other_code f other)
