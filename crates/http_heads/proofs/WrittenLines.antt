-- Heads as they are written line by line.
use Rattle.std.proofs.Common.{◌≡◌, ℕ, List, [], ◌∷◌, ◌++◌, map, refl}
use Rattle.std.proofs.lemmas.List.{append_assoc}
use Rattle.httparse.specs.Grammar.{crlf, print_request, print_response, print_section}
use Rattle.httparse.proofs.GrammarLemmas.{cons-append}
use Rattle.http_heads.specs.Written.{line_of, request_line, status_line, written_request, written_response}
use Rattle.http_heads.specs.declared.request.RequestHead.{RequestHead}
use Rattle.http_heads.specs.declared.response.ResponseHead.{ResponseHead}

pub request_text : (head : RequestHead)
    → request_line head ++ print_section (map line_of head.fields) crlf ≡ written_request head
unfolding print_request
request_text head = simp (append_assoc, cons-append)

pub response_text : (head : ResponseHead)
    → status_line head ++ print_section (map line_of head.fields) crlf ≡ written_response head
unfolding print_response
response_text head = simp (append_assoc, cons-append)

-- parts that were put one behind another
pub six_joined : (out a b c d e f : List ℕ) → (((((out ++ a) ++ b) ++ c) ++ d) ++ e) ++ f ≡ out ++ (a ++ b ++ c ++ d ++ e ++ f)
six_joined out a b c d e f = simp append_assoc
