-- How the length of a message's body is known: RFC 9112, 6.3, in this profile.
use Rattle.std.specs.Prelude.{ℕ, Bool, true, ◌&&◌, ◌||◌, ◌==◌, List, [], ◌∷◌, length, map, codes}
use Rattle.std.specs.Prelude.{Result, Ok, Err, nat_le, nat_lt, if◌then◌else◌}
use Rattle.std.specs.Char.{is_ascii_digit}
use Rattle.std.specs.List.{list_all}
use Rattle.std.specs.Str.{bytes_eq}
use Rattle.std.specs.Str.Parse.{digits_value}
use Rattle.px_bytes.specs.Letters.{lowered}
use Rattle.http_heads.specs.Fields.{Pair, is_named, named}
use Rattle.px_bytes.specs.declared.fault.HttpFault.{HttpFault}
use Rattle.px_bytes.specs.declared.fault.HttpFault.TheVariants.{Framing}
use Rattle.http_heads.specs.declared.line.Version.{Version}
use Rattle.http_heads.specs.declared.line.Version.TheVariants.{Http10, Http11}
use Rattle.http_heads.specs.declared.request.RequestHead.{RequestHead}
use Rattle.http_heads.specs.declared.response.ResponseHead.{ResponseHead}
use Rattle.http_frames.specs.declared.body.Coding.{Coding}
use Rattle.http_frames.specs.declared.body.Coding.TheVariants as coding
use Rattle.http_frames.specs.declared.body.Size.{Size}
use Rattle.http_frames.specs.declared.body.Size.TheVariants as size
use Rattle.http_frames.specs.declared.state.Body.{Body}
use Rattle.http_frames.specs.declared.state.Body.TheVariants as body

abbrev pub values : List ℕ → List Pair → List (List ℕ)
values name fields = map (λ f. f.1) (named name fields)

-- one `chunked`, in any case
abbrev pub coding_named : List ℕ → Coding
coding_named value =
    if bytes_eq (lowered value) (lowered (codes "chunked")) then coding.Chunked else coding.Other

-- what the Transfer-Encoding fields say
abbrev pub coding_of : List (List ℕ) → Coding
coding_of [] = coding.Absent
coding_of (value ∷ []) = coding_named value
coding_of (value ∷ further ∷ more) = coding.Other

-- a length: 1 to 18 decimal digits
abbrev pub is_size : List ℕ → Bool
is_size value =
    nat_lt 0 (length value) && (nat_le (length value) 18 && list_all is_ascii_digit value)

abbrev pub size_named : List ℕ → Size
size_named value = if is_size value then size.Known (digits_value 10 value) else size.Bad

-- two lengths are one where they are the same number
abbrev pub size_both : Size → Size → Size
size_both (size.Known n) (size.Known m) = if n == m then size.Known n else size.Bad
size_both a b = size.Bad

-- what the Content-Length fields say: the same number each
abbrev pub size_of : List (List ℕ) → Size
size_of [] = size.Absent
size_of (value ∷ []) = size_named value
size_of (value ∷ further ∷ more) = size_both (size_named value) (size_of (further ∷ more))

-- what the fields of a message of this version say of its body; not both, and nothing that isn't clear
abbrev pub framed : Version → Coding → Size → Body → Result Body HttpFault
framed version coding.Absent size.Absent other = Ok other
framed version coding.Absent (size.Known n) other = Ok (body.Length n)
framed Http11 coding.Chunked size.Absent other = Ok body.Chunked
framed version c s other = Err Framing

abbrev pub fields_body : Version → List Pair → Body → Result Body HttpFault
fields_body version fields other =
    framed version (coding_of (values (codes "transfer-encoding") fields))
    (size_of (values (codes "content-length") fields)) other

abbrev pub request_body : RequestHead → Result Body HttpFault
request_body head = fields_body head.version head.fields body.None

-- a response to HEAD and a response 1xx, 204 or 304 has none
abbrev pub is_bodiless : List ℕ → ℕ → Bool
is_bodiless method status =
    bytes_eq method (codes "HEAD") || nat_lt status 200 || status == 204 || status == 304

-- the least version of a message and of the request that it answers: only where both are 1.1 it may be chunked
abbrev pub both : Version → Version → Version
both Http11 Http11 = Http11
both a b = Http10

abbrev pub unless_bodiless : Bool → Result Body HttpFault → Result Body HttpFault
unless_bodiless true (Ok found) = Ok body.None
unless_bodiless b found = found

-- the faults of a head come before the absence of a body; a status below 100 is of no class (RFC 9110, 15), so how
-- long the body behind it is isn't known
abbrev pub response_body : ResponseHead → List ℕ → Version → Result Body HttpFault
response_body head method asked =
    if nat_lt head.status 100 then Err Framing
    else unless_bodiless (is_bodiless method head.status)
    (fields_body (both head.version asked) head.fields body.ToEnd)

-- what one field more makes of what those before it say
abbrev pub coding_with : Coding → List ℕ → Coding
coding_with coding.Absent value = coding_named value
coding_with c value = coding.Other

abbrev pub size_with : Size → List ℕ → Size
size_with size.Absent value = size_named value
size_with s value = size_both s (size_named value)

abbrev pub coding_after : Coding → Pair → Coding
coding_after c f =
    if is_named (codes "transfer-encoding") f then coding_with c f.1 else c

abbrev pub size_after : Size → Pair → Size
size_after s f = if is_named (codes "content-length") f then size_with s f.1 else s
