-- The cookies of a message (RFC 6265, 4.1 and 4.2), as `HTTP::cookie` sees and changes them: those of a request
-- stand in its Cookie fields, those of a response are the first pair of each Set-Cookie field.
use Rattle.std.specs.Prelude.{ℕ, Bool, true, false, not, List, [], ◌∷◌, ◌++◌, codes, filter, flat_map}
use Rattle.std.specs.Prelude.{Option, Some, None, find, if◌then◌else◌}
use Rattle.std.specs.List.{list_any}
use Rattle.std.specs.Str.{bytes_eq}
use Rattle.http_cookies.specs.Cookies.{cookies, cookies_in}
use Rattle.http_heads.specs.Fields.{Pair, is_named, last_field}

abbrev pub is_set_cookie : Pair → Bool
is_set_cookie field = is_named (codes "set-cookie") field

-- the pairs of a field that sets a cookie: the cookie, and what is said of it
abbrev pub set_pairs : Pair → List Pair
set_pairs field = if is_set_cookie field then cookies_in field.1 else []

abbrev pub first_alone : List Pair → List Pair
first_alone [] = []
first_alone (cookie ∷ more) = cookie ∷ []

-- the cookie that a field sets
abbrev pub set_cookie : Pair → List Pair
set_cookie field = first_alone (set_pairs field)

abbrev pub set_cookies : List Pair → List Pair
set_cookies fields = flat_map set_cookie fields

-- the cookies of a message, by whether it is a response
abbrev pub message_cookies : Bool → List Pair → List Pair
message_cookies true fields = set_cookies fields
message_cookies false fields = cookies fields

-- names of cookies have a case
abbrev pub is_called : List ℕ → Pair → Bool
is_called name cookie = bytes_eq name cookie.0

-- the first of a name
abbrev pub cookie_called : List ℕ → List Pair → Option Pair
cookie_called name found = find (is_called name) found

-- as it is written
abbrev pub cookie_text : Pair → List ℕ
cookie_text cookie = cookie.0 ++ codes "=" ++ cookie.1

-- several, `; ` between them, behind those that are there
abbrev pub joined_with : Option (List ℕ) → Pair → List ℕ
joined_with None cookie = cookie_text cookie
joined_with (Some text) cookie = text ++ codes "; " ++ cookie_text cookie

abbrev pub joined_onto : Option (List ℕ) → List Pair → Option (List ℕ)
joined_onto text [] = text
joined_onto text (cookie ∷ more) = joined_onto (Some (joined_with text cookie)) more

-- a further cookie behind a field's value
abbrev pub with_cookie : List ℕ → List ℕ → List ℕ
with_cookie [] text = text
with_cookie (byte ∷ value) text = (byte ∷ value) ++ codes "; " ++ text

-- the last Cookie field with a cookie more, or one of its own
abbrev pub extended : Option Pair → List ℕ → Pair
extended None text = (codes "Cookie", text)
extended (Some field) text = (field.0, with_cookie field.1 text)

-- the field that a cookie more makes, by whether it is for a response
abbrev pub cookie_field : Bool → List ℕ → List Pair → Pair
cookie_field true text fields = (codes "Set-Cookie", text)
cookie_field false text fields = extended (last_field (codes "cookie") fields) text

-- a Cookie field with this value; no field where no cookie is left
abbrev pub rejoined : List ℕ → Option (List ℕ) → List Pair
rejoined name None = []
rejoined name (Some value) = (name, value) ∷ []

abbrev pub others : List ℕ → List Pair → List Pair
others name found = filter (λ cookie. not (is_called name cookie)) found

abbrev pub has_called : List ℕ → List Pair → Bool
has_called name found = list_any (is_called name) found

-- a Cookie field without the cookies of a name; untouched where it has none of them
abbrev pub cookie_left : List ℕ → Pair → List Pair → List Pair
cookie_left name field found =
    if has_called name found then rejoined field.0 (joined_onto None (others name found)) else field ∷ []

-- what is left of a field of a request, and of a response
abbrev pub request_left : List ℕ → Pair → List Pair
request_left name field =
    if is_named (codes "cookie") field then cookie_left name field (cookies_in field.1)
    else field ∷ []

abbrev pub response_left : List ℕ → Pair → List Pair
response_left name field =
    if has_called name (set_cookie field) then [] else field ∷ []

abbrev pub field_left : Bool → List ℕ → Pair → List Pair
field_left true name field = response_left name field
field_left false name field = request_left name field

-- the fields of a message without the cookies of a name
abbrev pub without_cookie : Bool → List ℕ → List Pair → List Pair
without_cookie response name fields = flat_map (field_left response name) fields
