-- A head as it is sent on: RFC 9110, 7.6.1 (what an intermediary takes away: the Connection fields, what they
-- name, and the fields that speak of one connection even where they aren't named), 8.6 (equal lengths are
-- told once) and 10.1.1 (`Expect` is this proxy's own to answer).
use Rattle.std.specs.Prelude.{ℕ, Bool, not, ◌&&◌, ◌||◌, ◌==◌, List, [], ◌∷◌, codes, filter, nat_lt}
use Rattle.std.specs.Prelude.{if◌then◌else◌}
use Rattle.std.specs.List.{list_any, slice_split}
use Rattle.std.specs.Str.{bytes_eq}
use Rattle.px_bytes.specs.Letters.{lowered}
use Rattle.px_bytes.specs.White.{trimmed}
use Rattle.http_heads.specs.Fields.{Pair, is_named, without}
use Rattle.http_heads.specs.declared.request.RequestHead.{RequestHead}
use Rattle.http_heads.specs.declared.response.ResponseHead.{ResponseHead}

-- names are compared without the case of their letters
abbrev pub is_same : List ℕ → List ℕ → Bool
is_same a b = bytes_eq (lowered a) (lowered b)

-- `b','`
abbrev pub is_comma : ℕ → Bool
is_comma byte = byte == 44

-- whether a name is an option of a Connection field: these stand between commas
abbrev pub has_option : (name value : List ℕ) → Bool
has_option name value = list_any (λ option. is_same (trimmed option) name) (slice_split is_comma value)

-- whether it is an option of one of several
abbrev pub is_option : List ℕ → List (List ℕ) → Bool
is_option name connection = list_any (has_option name) connection

-- the fields that speak of one connection alone, whether or not a Connection field names them
abbrev pub is_of_connection : List ℕ → Bool
is_of_connection name =
    is_same name (codes "connection") || is_same name (codes "keep-alive")
    || is_same name (codes "proxy-connection") || is_same name (codes "te")
    || is_same name (codes "upgrade")

-- those that belong to the message, though a Connection field names them
abbrev pub is_of_message : List ℕ → Bool
is_of_message name =
    is_same name (codes "host") || is_same name (codes "cookie")
    || is_same name (codes "content-length") || is_same name (codes "transfer-encoding")

-- whether fields of a name stay, by the values of the Connection fields
abbrev pub is_kept : List (List ℕ) → List ℕ → Bool
is_kept connection name = is_of_message name || not (is_option name connection)

-- whether they are sent on
abbrev pub goes_on : List (List ℕ) → List ℕ → Bool
goes_on connection name = not (is_of_connection name) && is_kept connection name

-- the fields without those of a name, but for the first of these; of a head whose lengths differ nothing is sent
-- on, since how long its body is isn't known
abbrev pub first_alone : List ℕ → List Pair → List Pair
first_alone name [] = []
first_alone name (f ∷ fields) =
    if is_named name f then f ∷ without name fields else f ∷ first_alone name fields

abbrev pub passed : List (List ℕ) → List Pair → List Pair
passed connection fields =
    first_alone (codes "content-length") (filter (λ f. goes_on connection f.0) fields)

-- A response 1xx or 204 tells neither length nor coding of a body that it hasn't (RFC 9110, 8.6; RFC 9112, 6.1). A 304
-- keeps the length, which is that of the body that it stands for, and tells no coding, which would be this
-- connection's own.
abbrev pub unframed : (status : ℕ) → List Pair → List Pair
unframed status fields =
    if nat_lt status 200 || status == 204
    then without (codes "transfer-encoding") (without (codes "content-length") fields)
    else (if status == 304 then without (codes "transfer-encoding") fields else fields)

abbrev pub passed_request : RequestHead → List (List ℕ) → RequestHead
passed_request head connection = record {
  method = head.method;
  target = head.target;
  version = head.version;
  fields = passed connection (without (codes "expect") head.fields);
}

abbrev pub passed_response : ResponseHead → List (List ℕ) → ResponseHead
passed_response head connection = record {
  version = head.version;
  status = head.status;
  reason = head.reason;
  fields = passed connection (unframed head.status head.fields);
}
