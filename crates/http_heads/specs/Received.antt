-- A head as rules see it: the head that came, without the fields that its Connection fields name (RFC 9110, 7.6.1),
-- and with its target as a server gets it (RFC 9112, 3.2.1, 3.2.2). So what a rule adds goes on whatever a peer's
-- Connection field names, and what it compares is what the server sees.
use Rattle.std.specs.Prelude.{◌≡◌, ℕ, zero, suc, List, [], ◌∷◌, ◌++◌, codes, drop, filter, length, map}
use Rattle.std.specs.Prelude.{nat_lt, Option, Some, None, Result, Ok, Err, if◌then◌else◌, ⊤}
use Rattle.px_bytes.specs.declared.fault.HttpFault.{HttpFault}
use Rattle.px_bytes.specs.declared.fault.HttpFault.TheVariants.{BadHead, Host}
use Rattle.http_heads.specs.Fields.{Pair, last_place, named}
use Rattle.http_heads.specs.Hosts.{host_fits}
use Rattle.http_heads.specs.Passed.{is_kept}
use Rattle.http_heads.specs.Targets.{authority_at, authority_of, path_of, rest_of}
use Rattle.http_heads.specs.declared.fault.HeadFault.{HeadFault}
use Rattle.http_heads.specs.declared.fault.HeadFault.TheVariants.{Fault, Memory}
use Rattle.http_heads.specs.declared.request.RequestHead.{RequestHead}
use Rattle.http_heads.specs.declared.response.ResponseHead.{ResponseHead}

-- the values of the Connection fields
abbrev pub connection_of : List Pair → List (List ℕ)
connection_of fields = map (λ f. f.1) (named (codes "connection") fields)

-- the fields that these don't name, and Host, Cookie, Content-Length and Transfer-Encoding
abbrev pub kept : List Pair → List Pair
kept fields = filter (λ f. is_kept (connection_of fields) f.0) fields

abbrev pub received_response : ResponseHead → ResponseHead
received_response head = record head { fields = kept head.fields }

-- the field at a place with another value
abbrev pub value_set : List Pair → ℕ → List ℕ → List Pair
value_set [] at value = []
value_set (f ∷ fields) zero value = (f.0, value) ∷ fields
value_set (f ∷ fields) (suc at) value = f ∷ value_set fields at value

-- the Host field with this value, or with it behind the others, where these are fewer than 100
abbrev pub host_put : (authority : List ℕ) → List Pair → Option ℕ → Option (List Pair)
host_put authority fields (Some at) = Some (value_set fields at authority)
host_put authority fields None =
    if nat_lt (length fields) 100 then Some (fields ++ (codes "Host", authority) ∷ []) else None

abbrev pub hosted : (authority : List ℕ) → List Pair → Option (List Pair)
hosted authority fields = host_put authority fields (last_place (codes "host") fields)

-- a head with more than 100 fields is none
abbrev pub asked_for : Option (List Pair) → (target : List ℕ) → RequestHead → Result RequestHead HttpFault
asked_for None target head = Err BadHead
asked_for (Some fields) target head = Ok (record head { target = target; fields = fields })

-- with its target taken apart, whose authority is followed by what stands behind a place
abbrev pub apart_by : (text : List ℕ) → RequestHead → Result RequestHead HttpFault
apart_by text head =
    asked_for (hosted (authority_of text) head.fields) (path_of head.method (rest_of text)) head

abbrev pub apart : (from : ℕ) → RequestHead → Result RequestHead HttpFault
apart from head = apart_by (drop from head.target) head

abbrev pub without_options : RequestHead → RequestHead
without_options head = record head { fields = kept head.fields }

abbrev pub placed : Option ℕ → RequestHead → Result RequestHead HttpFault
placed None head = Ok head
placed (Some from) head = apart from head

-- the fault of the target comes before that of Host, which is judged as it came
abbrev pub received_by : Result (Option ℕ) HttpFault → RequestHead → Result RequestHead HttpFault
received_by (Err f) head = Err f
received_by (Ok at) head =
    if host_fits head.version head.fields then placed at (without_options head) else Err Host

abbrev pub received_request : RequestHead → Result RequestHead HttpFault
received_request head = received_by (authority_at head.method head.target) head

-- what a call leaves of a head that is to become this
abbrev pub Becomes : Result (Unit {0}) HeadFault → Result RequestHead HttpFault → (new : RequestHead) → Type 0
Becomes (Ok done) wanted new = wanted ≡ Ok new
Becomes (Err (Fault f)) wanted new = wanted ≡ Err f
Becomes (Err Memory) wanted new = ⊤

-- what it leaves of fields
abbrev pub PutsHost : Result (Unit {0}) HeadFault → Option (List Pair) → (new : List Pair) → Type 0
PutsHost (Ok done) wanted new = wanted ≡ Some new
PutsHost (Err (Fault f)) wanted new = (f ≡ BadHead) × (wanted ≡ None)
PutsHost (Err Memory) wanted new = ⊤
