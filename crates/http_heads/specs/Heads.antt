-- What a head is, by the grammar of `httparse`: RFC 9112, 2 to 5, where a line may end in LF alone and
-- empty lines may stand before the first one.
use Rattle.std.specs.Prelude.{◌≡◌, ℕ, ◌≤◌, List, [], length, map, Result, Ok, Err, ⊤}
use Rattle.httparse.specs.Grammar as grammar
use Rattle.httparse.specs.Grammar.{ReadsRequest, ReadsResponse, reason_phrase, status_code}
use Rattle.httparse.specs.Spans.{name_and_value}
use Rattle.http_heads.specs.Fields.{bare}
use Rattle.http_heads.specs.Lines.{minor_of}
use Rattle.http_heads.specs.declared.fault.HeadFault.{HeadFault}
use Rattle.http_heads.specs.declared.fault.HeadFault.TheVariants.{Fault, Memory}
use Rattle.px_bytes.specs.declared.fault.HttpFault.TheVariants.{BadHead}
use Rattle.http_heads.specs.declared.request.RequestHead.{RequestHead}
use Rattle.http_heads.specs.declared.response.ResponseHead.{ResponseHead}

-- a head as it is seen: values without the white space around them, line ends forgotten
pub record SeesRequest (h : grammar.RequestHead) (head : RequestHead) : Type 0 where
  pub method : head.method ≡ h.method
  pub target : head.target ≡ h.target
  pub version : minor_of head.version ≡ h.minor
  pub fields : head.fields ≡ map name_and_value h.fields

pub record SeesResponse (h : grammar.ResponseHead) (head : ResponseHead) : Type 0 where
  pub version : minor_of head.version ≡ h.minor
  pub status : head.status ≡ status_code h
  pub reason : head.reason ≡ reason_phrase h.reason
  pub fields : head.fields ≡ map name_and_value h.fields

-- a head without the white space around the values of its fields
abbrev pub bare_request : RequestHead → RequestHead
bare_request head = record head { fields = map bare head.fields }

abbrev pub bare_response : ResponseHead → ResponseHead
bare_response head = record head { fields = map bare head.fields }

-- the bytes are this head and no more, with at most 100 fields
abbrev pub IsRequestText : List ℕ → grammar.RequestHead → Type 0
IsRequestText bytes h = ReadsRequest bytes h [] × (length h.fields ≤ 100)

abbrev pub IsResponseText : List ℕ → grammar.ResponseHead → Type 0
IsResponseText bytes h = ReadsResponse bytes h [] × (length h.fields ≤ 100)

-- what is given, beside what the bytes are
abbrev pub GivesRequest : Result RequestHead HeadFault → List ℕ → Type 0
GivesRequest (Ok head) bytes = (h : grammar.RequestHead) × IsRequestText bytes h × SeesRequest h head
GivesRequest (Err (Fault f)) bytes =
    (f ≡ BadHead) × ((h : grammar.RequestHead) → ¬ IsRequestText bytes h)
GivesRequest (Err Memory) bytes = ⊤

abbrev pub GivesResponse : Result ResponseHead HeadFault → List ℕ → Type 0
GivesResponse (Ok head) bytes =
    (h : grammar.ResponseHead) × IsResponseText bytes h × SeesResponse h head
GivesResponse (Err (Fault f)) bytes =
    (f ≡ BadHead) × ((h : grammar.ResponseHead) → ¬ IsResponseText bytes h)
GivesResponse (Err Memory) bytes = ⊤
