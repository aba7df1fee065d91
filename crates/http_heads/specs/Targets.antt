-- The target of a request in absolute form: RFC 9112, 3.2.2.
use Rattle.std.specs.Prelude.{ℕ, ◌+◌, Bool, false, not, ◌&&◌, ◌||◌, ◌==◌, List, [], ◌∷◌, codes, take, drop}
use Rattle.std.specs.Prelude.{Option, Some, None, Result, Ok, Err, if◌then◌else◌}
use Rattle.std.specs.Char.{is_ascii_alphabetic, is_ascii_alphanumeric}
use Rattle.std.specs.List.{position_or_len}
use Rattle.std.specs.Str.{bytes_eq}
use Rattle.px_bytes.specs.declared.fault.HttpFault.{HttpFault}
use Rattle.px_bytes.specs.declared.fault.HttpFault.TheVariants.{BadHead}
use Rattle.http_heads.specs.Hosts.{is_authority}
use Rattle.http_heads.specs.Passed.{is_same}

-- scheme = ALPHA *( ALPHA / DIGIT / "+" / "-" / "." ): RFC 3986, 3.1
abbrev pub is_scheme_byte : ℕ → Bool
is_scheme_byte byte = is_ascii_alphanumeric byte || byte == 43 || byte == 45 || byte == 46

abbrev pub ends_scheme : ℕ → Bool
ends_scheme byte = not (is_scheme_byte byte)

abbrev pub scheme_length : List ℕ → ℕ
scheme_length target = position_or_len ends_scheme target

-- whether there is a first byte, which passes the test
abbrev pub begins_by : (ℕ → Bool) → List ℕ → Bool
begins_by test [] = false
begins_by test (byte ∷ text) = test byte

-- `:` and `/`
abbrev pub is_colon : ℕ → Bool
is_colon byte = byte == 58

abbrev pub is_slash : ℕ → Bool
is_slash byte = byte == 47

-- absolute-URI = scheme ":" ..: RFC 3986, 4.3
abbrev pub is_absolute : List ℕ → Bool
is_absolute target =
    begins_by is_ascii_alphabetic target && begins_by is_colon (drop (scheme_length target) target)

-- what a proxy of HTTP is asked for: RFC 9110, 4.2
abbrev pub is_http : List ℕ → Bool
is_http scheme = is_same scheme (codes "http") || is_same scheme (codes "https")

-- `://`
abbrev pub begins_slash : List ℕ → Bool
begins_slash [] = false
begins_slash (byte ∷ text) = if byte == 47 then begins_by is_slash text else false

abbrev pub begins_apart : List ℕ → Bool
begins_apart [] = false
begins_apart (byte ∷ text) = if byte == 58 then begins_slash text else false

-- an authority lasts to a `/` or a `?`: RFC 3986, 3.2
abbrev pub ends_authority : ℕ → Bool
ends_authority byte = byte == 47 || byte == 63

abbrev pub authority_length : List ℕ → ℕ
authority_length text = position_or_len ends_authority text

abbrev pub authority_of : List ℕ → List ℕ
authority_of text = take (authority_length text) text

abbrev pub rest_of : List ℕ → List ℕ
rest_of text = drop (authority_length text) text

-- the place behind a scheme of so many bytes and `://`
abbrev pub behind_scheme : (size : ℕ) → List ℕ → Result (Option ℕ) HttpFault
behind_scheme size target =
    if is_http (take size target) && begins_apart (drop size target)
    && is_authority (authority_of (drop (size + 3) target))
    then Ok (Some (size + 3)) else Err BadHead

-- CONNECT alone has an authority as its target: RFC 9112, 3.2.3
abbrev pub is_connect : List ℕ → Bool
is_connect method = bytes_eq method (codes "CONNECT")

-- the place of the authority in a target, where it is absolute; of no other scheme, and with no other authority
abbrev pub authority_at : (method target : List ℕ) → Result (Option ℕ) HttpFault
authority_at method target =
    if is_connect method || not (is_absolute target) then Ok None
    else behind_scheme (scheme_length target) target

-- what a server is asked for where this stood behind the authority: RFC 9112, 3.2.1 and 3.2.4
abbrev pub path_of : (method rest : List ℕ) → List ℕ
path_of method [] = if bytes_eq method (codes "OPTIONS") then 42 ∷ [] else 47 ∷ []
path_of method (byte ∷ rest) = if byte == 47 then byte ∷ rest else 47 ∷ byte ∷ rest
