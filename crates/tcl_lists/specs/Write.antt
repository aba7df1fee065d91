-- How a list is written: Tcl 8.4, list(n), each element in one way.
use Rattle.std.specs.Prelude.{ℕ, zero, suc, ◌+◌, ◌-◌, Bool, false, not, ◌&&◌, ◌||◌, List, [], ◌∷◌}
use Rattle.std.specs.Prelude.{◌++◌, codes, flat_map, ◌==◌, slice_index, if◌then◌else◌}
use Rattle.std.specs.List.{list_any}
use Rattle.px_bytes.specs.White.{is_space}

-- white space, a brace, a bracket, `$`, `;`, `"` and `\`
abbrev pub is_special : ℕ → Bool
is_special b =
    is_space b || ((b == 123 || b == 125) || (b == 91 || b == 93))
    || ((b == 36 || b == 59) || (b == 34 || b == 92))

-- an element that begins so would be a comment where a list is run as a script
abbrev pub begins_comment : List ℕ → Bool
begins_comment text = slice_index text 0 == 35

-- it needs neither braces nor backslashes
abbrev pub stands_bare : List ℕ → Bool
stands_bare text = not (list_any is_special text) && not (begins_comment text)

-- no backslash stands in the bytes, no front of them closes more braces than were open before and
-- in it, and all are closed
abbrev pub fits_braces : ℕ → List ℕ → Bool
fits_braces depth [] = depth == 0
fits_braces depth (b ∷ bs) =
    if b == 92 then false
    else (if b == 123 then fits_braces (depth + 1) bs
    else (if b == 125 then (if depth == 0 then false else fits_braces (depth - 1) bs)
    else fits_braces depth bs))

-- what stands behind the backslash: `t`, `n`, `r`, `v` or `f` for white space other than a blank
abbrev pub escape_letter : ℕ → ℕ
escape_letter b =
    if b == 9 then 116
    else (if b == 10 then 110
    else (if b == 13 then 114
    else (if b == 11 then 118
    else (if b == 12 then 102 else b))))

abbrev pub spelled_byte : ℕ → List ℕ
spelled_byte b = if is_special b then 92 ∷ (escape_letter b ∷ []) else b ∷ []

abbrev pub spelled_bytes : List ℕ → List ℕ
spelled_bytes bytes = flat_map spelled_byte bytes

-- with a backslash before each special byte, and before a `#` that begins it
abbrev pub escaped : List ℕ → List ℕ
escaped [] = []
escaped (b ∷ bs) = (if b == 35 then codes "\\#" else spelled_byte b) ++ spelled_bytes bs

-- an element: as it is, else in braces, else with backslashes
abbrev pub spelled : List ℕ → List ℕ
spelled [] = codes "{}"
spelled (b ∷ bs) =
    if stands_bare (b ∷ bs) then b ∷ bs
    else (if fits_braces 0 (b ∷ bs) then 123 ∷ (b ∷ bs) ++ codes "}" else escaped (b ∷ bs))

-- the elements with a blank between each two
abbrev pub joined : List (List ℕ) → List ℕ
joined [] = []
joined (x ∷ []) = spelled x
joined (x ∷ (y ∷ ys)) = spelled x ++ (32 ∷ joined (y ∷ ys))

-- what stands before an element behind so many
abbrev pub blank_behind : ℕ → List ℕ
blank_behind zero = []
blank_behind (suc n) = codes " "
