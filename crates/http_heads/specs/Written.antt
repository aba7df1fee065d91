-- A head as it is written: each line ended by CRLF, a blank behind each colon (RFC 9112, 3 to 5), a blank behind
-- the code of a status line, also where no reason follows.
use Rattle.std.specs.Prelude.{ℕ, ◌+◌, ◌/◌, ◌%◌, List, [], ◌∷◌, ◌++◌, codes, flat_map, map, Some}
use Rattle.httparse.specs.Grammar as grammar
use Rattle.httparse.specs.Grammar.{crlf, print_field, print_request, print_response, print_version}
use Rattle.http_heads.specs.Fields.{Pair}
use Rattle.http_heads.specs.Lines.{minor_of}
use Rattle.http_heads.specs.declared.request.RequestHead.{RequestHead}
use Rattle.http_heads.specs.declared.response.ResponseHead.{ResponseHead}

-- the name, `: `, the value, CRLF
abbrev pub line_of : Pair → grammar.Field
line_of f = record { name = f.0; raw = 32 ∷ f.1; end = crlf }

-- the lines of fields
abbrev pub lines_of : List Pair → List ℕ
lines_of fields = flat_map print_field (map line_of fields)

abbrev pub request_of : RequestHead → grammar.RequestHead
request_of head = record {
  blank = [];
  method = head.method;
  target = head.target;
  minor = minor_of head.version;
  line_end = crlf;
  fields = map line_of head.fields;
  last = crlf;
}

abbrev pub written_request : RequestHead → List ℕ
written_request head = print_request (request_of head)

-- three decimal digits
abbrev pub code_digits : ℕ → List ℕ
code_digits code = (48 + code / 100) ∷ (48 + code / 10 % 10) ∷ (48 + code % 10) ∷ []

abbrev pub response_of : ResponseHead → grammar.ResponseHead
response_of head = record {
  blank = [];
  minor = minor_of head.version;
  digits = code_digits head.status;
  reason = Some head.reason;
  line_end = crlf;
  fields = map line_of head.fields;
  last = crlf;
}

abbrev pub written_response : ResponseHead → List ℕ
written_response head = print_response (response_of head)

-- the first lines
abbrev pub request_line : RequestHead → List ℕ
request_line head =
    head.method ++ codes " " ++ head.target ++ codes " " ++ print_version (minor_of head.version)
    ++ codes "\r\n"

abbrev pub status_line : ResponseHead → List ℕ
status_line head =
    print_version (minor_of head.version) ++ codes " " ++ code_digits head.status ++ codes " "
    ++ head.reason ++ codes "\r\n"
