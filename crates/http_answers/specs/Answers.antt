-- What an answer sends (iRules: HTTP::respond; RFC 9110, 15; RFC 9112, 6.3: a response to HEAD, a 204 and a 304 have no
-- content, and the latter two no length).
use Rattle.std.specs.Prelude.{ℕ, ◌==◌, Bool, true, false, not, ◌&&◌, ◌||◌, List, [], ◌∷◌}
use Rattle.std.specs.Prelude.{◌++◌, length, codes, Option, Some, None}
use Rattle.std.specs.Prelude.{if◌then◌else◌}
use Rattle.std.specs.Fmt.{decimal}
use Rattle.std.specs.List.{list_any}
use Rattle.std.specs.Str.{bytes_eq}
use Rattle.px_bytes.specs.Letters.{lowered}
use Rattle.http_heads.specs.Fields.{Pair, is_named}
use Rattle.http_heads.specs.Written.{written_response}
use Rattle.http_heads.specs.declared.line.Version.{Version}
use Rattle.http_heads.specs.declared.request.RequestHead.{RequestHead}
use Rattle.http_heads.specs.declared.response.ResponseHead.{ResponseHead}
use Rattle.http_answers.specs.Limits.{response_fits}

-- the reason of a code; any other has `Status`
abbrev pub reasons : List (ℕ × List ℕ)
reasons =
    (200, codes "OK") ∷ (201, codes "Created") ∷ (202, codes "Accepted") ∷ (204, codes "No Content")
    ∷ (301, codes "Moved Permanently") ∷ (302, codes "Found") ∷ (303, codes "See Other")
    ∷ (304, codes "Not Modified") ∷ (307, codes "Temporary Redirect")
    ∷ (308, codes "Permanent Redirect") ∷ (400, codes "Bad Request")
    ∷ (401, codes "Unauthorized") ∷ (403, codes "Forbidden") ∷ (404, codes "Not Found")
    ∷ (405, codes "Method Not Allowed") ∷ (429, codes "Too Many Requests")
    ∷ (500, codes "Internal Server Error") ∷ (501, codes "Not Implemented")
    ∷ (502, codes "Bad Gateway") ∷ (503, codes "Service Unavailable")
    ∷ (504, codes "Gateway Timeout") ∷ []

abbrev pub reason_in : List (ℕ × List ℕ) → ℕ → List ℕ
reason_in [] code = codes "Status"
reason_in (row ∷ rows) code = if row.0 == code then row.1 else reason_in rows code

unfoldable pub reason_of : ℕ → List ℕ
reason_of code = reason_in reasons code

-- `Connection: close`
abbrev pub is_close : Pair → Bool
is_close field =
    is_named (codes "connection") field && bytes_eq (lowered field.1) (lowered (codes "close"))

-- a length or a coding, of which the answer has its own
abbrev pub is_framing : Pair → Bool
is_framing field =
    is_named (codes "content-length") field || is_named (codes "transfer-encoding") field

-- a given field is written, by whether a `Connection: close` was: no length or coding, and `Connection: close` once
abbrev pub is_written : Bool → Pair → Bool
is_written closed field = not (is_framing field) && not (closed && is_close field)

-- the given fields that are written, by whether a `Connection: close` was
abbrev pub written_given : Bool → List Pair → List Pair
written_given closed [] = []
written_given closed (field ∷ fields) =
    if is_written closed field then field ∷ written_given (closed || is_close field) fields
    else written_given (closed || is_close field) fields

-- What an answer is made of: what its command says, and whether the connection closes behind it.
pub record Answer : Type 0 where
  pub version : Version
  pub code : ℕ
  pub given : List Pair
  pub server : Bool
  pub closes : Bool
  pub content : List ℕ

abbrev pub is_bodiless : ℕ → Bool
is_bodiless code = code == 204 || code == 304

abbrev pub server_field : Bool → List Pair
server_field true = (codes "Server", codes "BigIP") ∷ []
server_field false = []

abbrev pub closes_text : Bool → List ℕ
closes_text true = codes "close"
closes_text false = codes "Keep-Alive"

-- where `Connection: close` is given the answer has no Connection field of its own
abbrev pub connection_field : Bool → Bool → List Pair
connection_field true closes = []
connection_field false closes = (codes "Connection", closes_text closes) ∷ []

abbrev pub length_field : Bool → ℕ → List Pair
length_field true size = []
length_field false size = (codes "Content-Length", decimal size) ∷ []

abbrev pub gives_close : List Pair → Bool
gives_close given = list_any is_close given

abbrev pub answer_fields : Answer → List Pair
answer_fields a =
    written_given false a.given ++ server_field a.server
    ++ connection_field (gives_close a.given) a.closes
    ++ length_field (is_bodiless a.code) (length a.content)

abbrev pub answer_head : Answer → ResponseHead
answer_head a = record {
  version = a.version;
  status = a.code;
  reason = reason_of a.code;
  fields = answer_fields a;
}

abbrev pub is_head_request : Option RequestHead → Bool
is_head_request None = false
is_head_request (Some head) = bytes_eq head.method (codes "HEAD")

-- the content that goes out, by the request
abbrev pub content_sent : Option RequestHead → Answer → List ℕ
content_sent request a =
    if is_bodiless a.code || is_head_request request then [] else a.content

abbrev pub answer_text : Option RequestHead → Answer → List ℕ
answer_text request a = written_response (answer_head a) ++ content_sent request a

-- the bytes of an answer, where its head is within its limits
abbrev pub composed : Option RequestHead → Answer → Option (List ℕ)
composed request a =
    if response_fits (answer_head a) then Some (answer_text request a) else None
