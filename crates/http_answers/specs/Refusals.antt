-- What a client is sent that no rule answers: to a faulty request an answer in the form of `HTTP::respond` without
-- options, behind which the connection closes (RFC 9110, 15.5.1 and 15.6.2), and to one that waits for it that it may
-- go on (RFC 9110, 10.1.1).
use Rattle.std.specs.Prelude.{◌≡◌, ℕ, ◌≤◌, true, List, [], length, codes, None}
use Rattle.px_bytes.specs.declared.fault.HttpFault.{HttpFault}
use Rattle.px_bytes.specs.declared.fault.HttpFault.TheVariants as fault
use Rattle.http_heads.specs.declared.line.Version.TheVariants.{Http10}
use Rattle.http_answers.specs.Answers.{Answer, answer_text}
use Rattle.http_answers.specs.Laws.{IsAnswer}

-- a method that isn't served is told; all else is a bad request
abbrev pub refusal_code : HttpFault → ℕ
refusal_code fault.Method = 501
refusal_code f = 400

abbrev pub refusal_of : HttpFault → Answer
refusal_of f = record {
  version = Http10;
  code = refusal_code f;
  given = [];
  server = true;
  closes = true;
  content = [];
}

abbrev pub refusal : HttpFault → List ℕ
refusal f = answer_text None (refusal_of f)

abbrev pub continue_text : List ℕ
continue_text = codes "HTTP/1.1 100 Continue\r\n\r\n"

abbrev pub refusal_most : ℕ
refusal_most = 128

-- A refusal is an answer as any other, of at most 128 bytes.
abbrev pub RefusalsAreAnswers : Type 0
RefusalsAreAnswers = (f : HttpFault) → IsAnswer None (refusal f) × (length (refusal f) ≤ refusal_most)
