-- A head as it is forwarded behind the edits of rules (RFC 9110, 7.6): what is passed on of it, with the length
-- that the body has behind them, and in a response what is said of the client's connection (RFC 9112, 9.3).
use Rattle.std.specs.Prelude.{ℕ, Bool, true, false, not, ◌&&◌, ◌||◌, ◌==◌, List, [], ◌∷◌, ◌++◌, codes}
use Rattle.std.specs.Prelude.{map, nat_lt, Option, Some, None, if◌then◌else◌}
use Rattle.std.specs.Fmt.{decimal}
use Rattle.http_heads.specs.Fields.{Pair, is_named}
use Rattle.http_heads.specs.Passed.{goes_on, passed_request, passed_response}
use Rattle.http_heads.specs.declared.forwarded.ConnectionOption.{ConnectionOption}
use Rattle.http_heads.specs.declared.forwarded.ConnectionOption.TheVariants as option
use Rattle.http_heads.specs.declared.forwarded.Omitted.{Omitted}
use Rattle.http_heads.specs.declared.forwarded.Omitted.TheVariants as omitted
use Rattle.http_heads.specs.declared.request.RequestHead.{RequestHead}
use Rattle.http_heads.specs.declared.response.ResponseHead.{ResponseHead}

-- a field with this length, where it tells one
abbrev pub with_length : Option ℕ → Pair → Pair
with_length None f = f
with_length (Some n) f =
    if is_named (codes "content-length") f then (f.0, decimal n) else f

abbrev pub option_text : ConnectionOption → List ℕ
option_text option.Close = codes "close"
option_text option.KeepAlive = codes "Keep-Alive"

abbrev pub connection_field : Option ConnectionOption → List Pair
connection_field None = []
connection_field (Some o) = (codes "Connection", option_text o) ∷ []

-- with another length, where one is given
abbrev pub forwarded_request : Option ℕ → RequestHead → RequestHead
forwarded_request size head = record {
  method = head.method;
  target = head.target;
  version = head.version;
  fields = map (with_length size) (passed_request head []).fields;
}

-- the Connection field stands behind the others
abbrev pub forwarded_response : Option ℕ → Option ConnectionOption → ResponseHead → ResponseHead
forwarded_response size option head = record {
  version = head.version;
  status = head.status;
  reason = head.reason;
  fields = map (with_length size) (passed_response head []).fields ++ connection_field option;
}

-- ---- the same in one walk over the fields

abbrev pub is_omitted : Omitted → Pair → Bool
is_omitted omitted.Expect f = is_named (codes "expect") f
is_omitted omitted.Framing f =
    is_named (codes "content-length") f || is_named (codes "transfer-encoding") f
is_omitted omitted.Coding f = is_named (codes "transfer-encoding") f
is_omitted omitted.Nothing f = false

-- what a response of a status leaves out
abbrev pub omitted_of : ℕ → Omitted
omitted_of status =
    if nat_lt status 200 || status == 204 then omitted.Framing
    else (if status == 304 then omitted.Coding else omitted.Nothing)

abbrev pub is_forwarded : Omitted → Pair → Bool
is_forwarded o f = not (is_omitted o f) && goes_on [] f.0

-- whether a field goes out behind others, by whether one of these told a length
abbrev pub goes_out : Omitted → (told : Bool) → Pair → Bool
goes_out o told f = is_forwarded o f && not (is_named (codes "content-length") f && told)

abbrev pub next_out : Omitted → Option ℕ → (told : Bool) → Pair → List Pair
next_out o size told f = if goes_out o told f then with_length size f ∷ [] else []

abbrev pub told_behind : Omitted → (told : Bool) → Pair → Bool
told_behind o told f = told || (goes_out o told f && is_named (codes "content-length") f)

abbrev pub fields_out : Omitted → Option ℕ → (told : Bool) → List Pair → List Pair
fields_out o size told [] = []
fields_out o size told (f ∷ fields) =
    next_out o size told f ++ fields_out o size (told_behind o told f) fields
