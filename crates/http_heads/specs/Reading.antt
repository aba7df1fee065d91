-- Reading of heads as functions: RFC 9112, 2 to 5, as `httparse` reads them, with at most 100 fields. `Heads` has the
-- same as a relation.
use Rattle.std.specs.Prelude.{◌≡◌, ℕ, zero, suc, List, map, Option, Some, None, Result, Ok, Err, ⊤}
use Rattle.std.specs.Str.Parse.{digits_value}
use Rattle.httparse.specs.Grammar.{LineEnd, reason_phrase}
use Rattle.httparse.specs.Lines.{code_digits}
use Rattle.httparse.specs.Spans.{name_and_value}
use Rattle.px_bytes.specs.declared.fault.HttpFault.{HttpFault}
use Rattle.px_bytes.specs.declared.fault.HttpFault.TheVariants.{BadHead}
use Rattle.http_heads.specs.Heads.{GivesRequest, GivesResponse}
use Rattle.http_heads.specs.Readers.{Lines, Reader, alone, blank, both, digit, line_end, lines}
use Rattle.http_heads.specs.Readers.{method, reason, space, target, version}
use Rattle.http_heads.specs.declared.fault.HeadFault.{HeadFault}
use Rattle.http_heads.specs.declared.fault.HeadFault.TheVariants.{Fault, Memory}
use Rattle.http_heads.specs.declared.line.Version.{Version}
use Rattle.http_heads.specs.declared.line.Version.TheVariants.{Http10, Http11}
use Rattle.http_heads.specs.declared.request.RequestHead.{RequestHead}
use Rattle.http_heads.specs.declared.response.ResponseHead.{ResponseHead}

abbrev pub version_of : ℕ → Version
version_of zero = Http10
version_of (suc n) = Http11

-- *empty-line request-line, and the fields
abbrev pub RequestParts : Type 0
RequestParts = (List LineEnd × (List ℕ × (List ℕ × (ℕ × LineEnd)))) × Lines

abbrev pub request : Reader RequestParts
request = both (both blank (both method (both target (both version line_end)))) (lines 100)

-- the head as it is seen: values without the white space around them, line ends forgotten
abbrev pub request_seen : RequestParts → RequestHead
request_seen parts = record {
  method = parts.0.1.0;
  target = parts.0.1.1.0;
  version = version_of parts.0.1.1.1.0;
  fields = map name_and_value parts.1.0;
}

abbrev pub seen_by : {A B : Type 0} → (A → B) → Option A → Result B HttpFault
seen_by see None = Err BadHead
seen_by see (Some parts) = Ok (see parts)

-- the head that bytes are, and no more
abbrev pub read_request : List ℕ → Result RequestHead HttpFault
read_request bytes = seen_by request_seen (alone (request bytes))

-- *empty-line status-line, and the fields
abbrev pub ResponseParts : Type 0
ResponseParts =
    (List LineEnd × (ℕ × (⊤ × ((ℕ × (ℕ × ℕ)) × (Option (List ℕ) × LineEnd))))) × Lines

abbrev pub response : Reader ResponseParts
response =
    both (both blank (both version (both space (both (both digit (both digit digit)) reason))))
    (lines 100)

abbrev pub response_seen : ResponseParts → ResponseHead
response_seen parts = record {
  version = version_of parts.0.1.0;
  status = digits_value 10 (code_digits parts.0.1.1.1.0);
  reason = reason_phrase parts.0.1.1.1.1.0;
  fields = map name_and_value parts.1.0;
}

abbrev pub read_response : List ℕ → Result ResponseHead HttpFault
read_response bytes = seen_by response_seen (alone (response bytes))

-- what the code gives, beside it: out of memory is free
abbrev pub told : {A : Type 0} → Result A HttpFault → Result A HeadFault
told (Ok head) = Ok head
told (Err f) = Err (Fault f)

abbrev pub IsTold : {A : Type 0} → Result A HeadFault → Result A HttpFault → Type 0
IsTold (Err Memory) r = ⊤
IsTold result r = result ≡ told r

-- the function is the grammar's relation: it gives what stands there, and all that is given is what it gives
abbrev pub RequestIsRead : Type 0
RequestIsRead = (bytes : List ℕ)
    → GivesRequest (told (read_request bytes)) bytes
    × ((r : Result RequestHead HeadFault) → GivesRequest r bytes → IsTold r (read_request bytes))

abbrev pub ResponseIsRead : Type 0
ResponseIsRead = (bytes : List ℕ)
    → GivesResponse (told (read_response bytes)) bytes
    × ((r : Result ResponseHead HeadFault) → GivesResponse r bytes → IsTold r (read_response bytes))
