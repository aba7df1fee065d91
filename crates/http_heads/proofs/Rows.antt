-- Rows: heads that are read, and texts that are none.
use Rattle.std.proofs.Common.{◌≡◌, ℕ, List, [], ◌∷◌, codes, true, false, refl, Result, Ok, Err}
use Rattle.std.specs.Str.{chars, is_utf8}
use Rattle.httparse.specs.Grammar.{is_token_byte, trim_ows}
use Rattle.px_bytes.specs.declared.fault.HttpFault.{HttpFault}
use Rattle.px_bytes.specs.declared.fault.HttpFault.TheVariants.{BadHead, Host}
use Rattle.memchr.specs.Find.{first_of, matches_from}
use Rattle.http_heads.specs.Fields.{Pair}
use Rattle.http_heads.specs.Fronts.{head_part}
use Rattle.http_heads.specs.Passed.{passed_response}
use Rattle.http_heads.specs.Reading.{read_request, read_response}
use Rattle.http_heads.specs.Received.{received_request}
use Rattle.http_heads.specs.declared.front.HeadPart.TheVariants.{HeadOf, NoHead, StreamEnds, Faulty}
use Rattle.http_heads.specs.declared.line.Version.{Version}
use Rattle.http_heads.specs.declared.line.Version.TheVariants.{Http10, Http11}
use Rattle.http_heads.specs.declared.request.RequestHead.{RequestHead}
use Rattle.http_heads.specs.declared.response.ResponseHead.{ResponseHead}

-- RFC 9112, 3 and 5: values without the white space around them
a_get : read_request (codes "\r\nGET /a HTTP/1.1\r\nHost:  h \nX: y\r\n\r\n")
    ≡ Ok (record { method = codes "GET"; target = codes "/a"; version = Http11; fields = (codes "Host", codes "h") ∷ (codes "X", codes "y") ∷ [] })
unfolding is_token_byte trim_ows is_utf8 chars lib.Utf8.encode
a_get = refl

-- RFC 9112, 4: a reason may be empty, or absent with its blank
a_status : read_response (codes "HTTP/1.0 042\r\n\r\n") ≡ Ok (record { version = Http10; status = 42; reason = []; fields = [] })
a_status = refl

a_reason : read_response (codes "HTTP/1.1 204 No Content\r\n\r\n") ≡ Ok (record { version = Http11; status = 204; reason = codes "No Content"; fields = [] })
a_reason = refl

-- bytes behind the head, a folded line, and no such version
bytes_behind : read_response (codes "HTTP/1.1 200 OK\r\n\r\nx") ≡ Err BadHead
bytes_behind = refl

folded : read_response (codes "HTTP/1.1 200 OK\r\nA: b\r\n c\r\n\r\n") ≡ Err BadHead
unfolding is_token_byte
folded = refl

no_version : read_request (codes "GET /a HTTP/1.2\r\n\r\n") ≡ Err BadHead
unfolding is_token_byte is_utf8 chars lib.Utf8.encode
no_version = refl

-- ---- heads as rules see them

abbrev asked : List ℕ → List ℕ → Version → List Pair → RequestHead
asked method target version fields = record { method = method; target = target; version = version; fields = fields }

abbrev host : List ℕ → Pair
host value = (codes "Host", value)

abbrev get : List ℕ → List ℕ → Result RequestHead HttpFault
get target value = received_request (asked (codes "GET") target Http11 (host value ∷ []))

abbrev gets : List ℕ → List ℕ → Result RequestHead HttpFault
gets target value = Ok (asked (codes "GET") target Http11 (host value ∷ []))

-- an absolute target (RFC 9112, 3.2.2): what stands behind the authority, which is the Host
same_host : get (codes "http://a/a") (codes "a") ≡ gets (codes "/a") (codes "a")
same_host = refl

other_host : get (codes "HTTPS://b:81/admin?x") (codes "a") ≡ gets (codes "/admin?x") (codes "b:81")
other_host = refl

no_path : get (codes "http://b") (codes "a") ≡ gets (codes "/") (codes "b")
no_path = refl

path_in_the_query : get (codes "http://b?/a") (codes "a") ≡ gets (codes "/?/a") (codes "b")
path_in_the_query = refl

user_information : get (codes "http://a@b/admin") (codes "a") ≡ Err BadHead
user_information = refl

no_authority : get (codes "http:///a") (codes "a") ≡ Err BadHead
no_authority = refl

other_scheme : get (codes "ftp://a/") (codes "a") ≡ Err BadHead
other_scheme = refl

no_scheme : get (codes "a") (codes "a") ≡ gets (codes "a") (codes "a")
no_scheme = refl

-- the fault of the target comes first
two_faults : get (codes "http:///a") (codes "a, b") ≡ Err BadHead
two_faults = refl

an_authority_alone : received_request (asked (codes "CONNECT") (codes "a:80") Http11 (host (codes "a") ∷ []))
    ≡ Ok (asked (codes "CONNECT") (codes "a:80") Http11 (host (codes "a") ∷ []))
an_authority_alone = refl

all_options : received_request (asked (codes "OPTIONS") (codes "http://b") Http11 ((codes "hOST", codes "a") ∷ []))
    ≡ Ok (asked (codes "OPTIONS") (codes "*") Http11 ((codes "hOST", codes "b") ∷ []))
all_options = refl

host_added : received_request (asked (codes "GET") (codes "http://h?q") Http10 [])
    ≡ Ok (asked (codes "GET") (codes "/?q") Http10 (host (codes "h") ∷ []))
host_added = refl

-- Host (RFC 9112, 3.2)
a_list : get (codes "/a") (codes "a, b") ≡ Err Host
a_list = refl

a_user : get (codes "/a") (codes "u@a") ≡ Err Host
a_user = refl

an_odd_port : get (codes "/a") (codes "a:80x") ≡ gets (codes "/a") (codes "a:80x")
an_odd_port = refl

an_empty_host : get (codes "/a") [] ≡ gets (codes "/a") []
an_empty_host = refl

none_in_1_1 : received_request (asked (codes "GET") (codes "/a") Http11 []) ≡ Err Host
none_in_1_1 = refl

two_in_1_0 : received_request (asked (codes "GET") (codes "/a") Http10 (host (codes "a") ∷ host (codes "a") ∷ [])) ≡ Err Host
two_in_1_0 = refl

-- what Connection names goes, but not what belongs to the message (RFC 9110, 7.6.1)
named_goes : received_request
    (asked (codes "GET") (codes "/") Http11 (host (codes "a") ∷ (codes "X-From", codes "1") ∷ (codes "Connection", codes "x-from, host") ∷ (codes "TE", codes "x") ∷ []))
    ≡ Ok (asked (codes "GET") (codes "/") Http11 (host (codes "a") ∷ (codes "Connection", codes "x-from, host") ∷ (codes "TE", codes "x") ∷ []))
named_goes = refl

-- ---- responses that have no body (RFC 9110, 8.6; RFC 9112, 6.1)

abbrev told_both : ℕ → ResponseHead
told_both status = record {
  version = Http11;
  status = status;
  reason = [];
  fields = (codes "Content-Length", codes "5") ∷ (codes "Transfer-Encoding", codes "chunked") ∷ (codes "A", codes "b") ∷ [];
}

abbrev fields_sent : ℕ → List Pair
fields_sent status = (passed_response (told_both status) []).fields

interim : fields_sent 103 ≡ (codes "A", codes "b") ∷ []
interim = refl

no_content : fields_sent 204 ≡ (codes "A", codes "b") ∷ []
no_content = refl

not_modified : fields_sent 304 ≡ (codes "Content-Length", codes "5") ∷ (codes "A", codes "b") ∷ []
not_modified = refl

with_a_body : fields_sent 200 ≡ (told_both 200).fields
with_a_body = refl

-- RFC 9112, 2.1 and 2.2: an empty line ends a head, and those before it are left out
an_open_head : head_part (codes "\r\n\r\nA / HTTP/1.0\r\n\r") false ≡ NoHead
unfolding first_of matches_from
an_open_head = refl

a_head : head_part (codes "\r\n\r\nA / HTTP/1.0\r\n\r\nB") false ≡ HeadOf 20
unfolding first_of matches_from
a_head = refl

a_cut_head : head_part (codes "A / HTTP/1.0\r\n") true ≡ Faulty BadHead
unfolding first_of matches_from
a_cut_head = refl

no_more : head_part (codes "\r\n") true ≡ StreamEnds
unfolding first_of matches_from
no_more = refl
