-- The cookies of a request (RFC 6265, 4.2.1: cookie-string), of which more is read than the
-- grammar has: blanks may stand around each, one without `=` has no value, and there may be several
-- fields.
use Rattle.std.specs.Prelude.{ℕ, Bool, ◌==◌, List, [], ◌∷◌, ◌++◌, codes, if◌then◌else◌}
use Rattle.std.specs.List.{after_first, before_first, slice_split}
use Rattle.std.specs.Str.{bytes_eq}
use Rattle.px_bytes.specs.Letters.{lowered}
use Rattle.http_cookies.specs.Blanks.{without_blanks}

-- `b';'`
abbrev pub is_semicolon : ℕ → Bool
is_semicolon byte = byte == 59

-- `b'='`
abbrev pub is_equals : ℕ → Bool
is_equals byte = byte == 61

-- a name and a value
abbrev pub Named : Type 0
Named = List ℕ × List ℕ

-- the name ends before the first `=`, and the value is all that stands behind it; none is empty
abbrev pub cookie_in : List ℕ → List Named
cookie_in [] = []
cookie_in (byte ∷ bytes) =
    let piece : List ℕ = byte ∷ bytes in
    (before_first is_equals piece, after_first is_equals piece) ∷ []

abbrev pub pieces : List ℕ → List (List ℕ)
pieces value = slice_split is_semicolon value

abbrev pub cookies_of : List (List ℕ) → List Named
cookies_of [] = []
cookies_of (piece ∷ pieces) = cookie_in (without_blanks piece) ++ cookies_of pieces

-- the cookies of one field stand between semicolons
abbrev pub cookies_in : List ℕ → List Named
cookies_in value = cookies_of (pieces value)

-- names of fields have no case
abbrev pub is_cookie_field : List ℕ → Bool
is_cookie_field name = bytes_eq (lowered name) (codes "cookie")

-- the cookies of a field, where it is one of cookies
abbrev pub field_cookies : Named → List Named
field_cookies field = if is_cookie_field field.0 then cookies_in field.1 else []

-- the cookies of all fields in their order
abbrev pub cookies : List Named → List Named
cookies [] = []
cookies (field ∷ fields) = field_cookies field ++ cookies fields
