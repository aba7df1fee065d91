-- The bytes of a level whose variable gets a value.
use Rattle.std.proofs.Common.{◌≡◌, ℕ, ◌+◌, ◌-◌, ◌≤◌, min, List, [], ◌∷◌, length, Option, Some, None}
use Rattle.std.proofs.Common.{sym, refl, ap, arith, unwrap_or, option_map}
use Rattle.std.specs.Prelude.{sum_by}
use Rattle.std.specs.Option.{option_map_or}
use Rattle.std.specs.List.Sorted.{IsStrictlySortedBy}
use Rattle.std.proofs.lemmas.Cmp.{nat_list_cmp_total}
use Rattle.std.proofs.lemmas.Map.Lookups.{exact_bytes}
use Rattle.tcl_vars.specs.Scopes.{Table, Level, find_in, put_in, elements, value_in, with_value_in}
use Rattle.tcl_vars.specs.Scopes.{level_bytes, take_out, with_elements, without_value_in}
use Rattle.tcl_vars.specs.Tables.{IsInOrder, IsInOrderAt, index_bytes}
use Rattle.tcl_vars.proofs.Inserted.{sum_by-insert}
use Rattle.tcl_vars.proofs.Named.{lookup-at}
use Rattle.tcl_vars.proofs.TakenOut.{sum_by-take_out, sum_by-replace_in}

-- a table's sum: the old value's weight goes and the new one's comes
pub sum_by-put_in : {X : Type 0} (f : List ℕ × X → ℕ) (name : List ℕ) (x : X) (t : Table X) → IsInOrder t
    → sum_by f (put_in name x t) + unwrap_or (option_map (λ v. f (name, v)) (find_in name t)) 0 ≡ sum_by f t + f (name, x)
sum_by-put_in f name x t sorted = rw (lookup-at name t) at (sum_by-insert nat_list_cmp_total name exact_bytes f t x sorted)

-- what a level's bytes are beside those with the value
abbrev pub BytesWith : ℕ → ℕ → ℕ → ℕ → Option (List ℕ) → Type 0
BytesWith new old key text None = new ≡ old + key + text
BytesWith new old key text (Some value) = new + length value ≡ old + text

bytes_with-found : (new old key text : ℕ) (f : List ℕ → ℕ) → ((v : List ℕ) → f v ≡ key + length v) → (found : Option (List ℕ))
    → new + unwrap_or (option_map f found) 0 ≡ old + (key + text) → BytesWith new old key text found
bytes_with-found new old key text f weighs None e = omega arith
bytes_with-found new old key text f weighs (Some v) e = omega (arith, weighs v)

-- where there is no value, the weight of none
unwrap_or-weight : {T : Type 0} (f : T → ℕ) (none : T) → f none ≡ 0 → (found : Option T) → unwrap_or (option_map f found) 0 ≡ f (unwrap_or found none)
unwrap_or-weight f none nothing None = sym nothing
unwrap_or-weight f none nothing (Some t) = refl

pub level_bytes-with : (level : Level) (name : List ℕ) (index : Option (List ℕ)) (text : List ℕ) → IsInOrderAt level name index
    → BytesWith (level_bytes (with_value_in name index text level)) (level_bytes level) (length name + index_bytes index) (length text) (value_in level name index)
level_bytes-with level name None text sorted =
    let f : List ℕ × List ℕ → ℕ = λ e. length e.0 + length e.1 in
    let e = sum_by-put_in f name text level.plain sorted in
    bytes_with-found _ _ _ _ (λ v. f (name, v)) (λ v. omega arith) (find_in name level.plain) (omega arith)
level_bytes-with level name (Some index) text sorted =
    let old = elements name level in
    let f : List ℕ × List ℕ → ℕ = λ e. length name + length e.0 + length e.1 in
    let g : List ℕ × Table (List ℕ) → ℕ = λ a. sum_by (λ e. length a.0 + length e.0 + length e.1) a.1 in
    let inner = sum_by-put_in f index text old sorted.1 in
    let outer = sum_by-put_in g name (put_in index text old) level.arrays sorted.0 in
    let whole = unwrap_or-weight (λ t. sum_by f t) [] refl (find_in name level.arrays) in
    bytes_with-found _ _ _ _ (λ v. f (index, v)) (λ v. refl) (find_in index old) (omega arith)

-- an array that isn't there has no elements
pub in_order-no_elements : (arrays : Table (Table (List ℕ))) (name : List ℕ) → None ≡ find_in name arrays → IsInOrder (unwrap_or (find_in name arrays) [])
unfolding IsStrictlySortedBy
in_order-no_elements arrays name none = rw (← none) tt

-- what a count of the bytes gives: the old value's go, or else the name's and the index's come
pub old_value_fits : (level : Level) (name : List ℕ) (index : Option (List ℕ)) (old : List ℕ) → IsInOrderAt level name index → Some old ≡ value_in level name index
    → length old ≤ level_bytes level
old_value_fits level name index old sorted there =
    let e = rw (← there) at (level_bytes-with level name index [] sorted) in
    omega (arith, e)

pub bytes_with-old : (level : Level) (name : List ℕ) (index : Option (List ℕ)) (old text : List ℕ) (most : ℕ) → IsInOrderAt level name index → Some old ≡ value_in level name index
    → min (level_bytes level - length old + length text) most ≡ min (level_bytes (with_value_in name index text level)) most
bytes_with-old level name index old text most sorted there =
    let e = rw (← there) at (level_bytes-with level name index text sorted) in
    ap (λ n. min n most) (omega (arith, e, old_value_fits level name index old sorted there))

pub bytes_with-new : (level : Level) (name : List ℕ) (index : Option (List ℕ)) (text : List ℕ) (most : ℕ) → IsInOrderAt level name index → None ≡ value_in level name index
    → min (min (min (level_bytes level + length name) most + index_bytes index) most + length text) most ≡ min (level_bytes (with_value_in name index text level)) most
bytes_with-new level name index text most sorted there =
    let e = rw (← there) at (level_bytes-with level name index text sorted) in
    omega (arith, e)

-- ---- what `unset` takes
-- a sum over the elements of all arrays, where r is what is left of those of a name
elements_bytes-left : (f : List ℕ → List ℕ × List ℕ → ℕ) (name : List ℕ) (arrays : Table (Table (List ℕ))) (r es : Table (List ℕ)) (gone : ℕ) → find_in name arrays ≡ Some es
    → sum_by (f name) r + gone ≡ sum_by (f name) es → sum_by (λ a. sum_by (f a.0) a.1) (with_elements name r arrays) + gone ≡ sum_by (λ a. sum_by (f a.0) a.1) arrays
elements_bytes-left f name arrays [] es gone found e =
    omega (arith, rw found at (sum_by-take_out name (λ a. sum_by (f a.0) a.1) arrays))
elements_bytes-left f name arrays (x ∷ r) es gone found e =
    omega (arith, sum_by-replace_in name (λ a. sum_by (f a.0) a.1) arrays es (x ∷ r) found)

elements_bytes-without : (f : List ℕ → List ℕ × List ℕ → ℕ) (name index : List ℕ) (arrays : Table (Table (List ℕ)))
    → sum_by (λ a. sum_by (f a.0) a.1) (with_elements name (take_out index (unwrap_or (find_in name arrays) [])) arrays)
    + option_map_or (λ v. f name (index, v)) (find_in index (unwrap_or (find_in name arrays) [])) 0
    ≡ sum_by (λ a. sum_by (f a.0) a.1) arrays
elements_bytes-without f name index arrays =
    let g : List ℕ × Table (List ℕ) → ℕ = λ a. sum_by (f a.0) a.1 in
    elim (find_in name arrays) as (λ o. find_in name arrays ≡ o → sum_by g (with_elements name (take_out index (unwrap_or o [])) arrays)
    + option_map_or (λ v. f name (index, v)) (find_in index (unwrap_or o [])) 0 ≡ sum_by g arrays) [
      | None ↦ λ none. rw none at (sum_by-take_out name g arrays)
      | Some es ↦ λ found. elements_bytes-left f name arrays (take_out index es) es _ found (sum_by-take_out index (f name) es)
    ] refl

-- how many bytes are left, and go
pub bytes-without_no_element : (level : Level) (name index : List ℕ) → None ≡ find_in index (elements name level)
    → level_bytes (without_value_in name (Some index) level) ≡ level_bytes level
bytes-without_no_element level name index none =
    let e = elements_bytes-without (λ n e. length n + length e.0 + length e.1) name index level.arrays in
    omega (arith, rw (← none) at e)

pub bytes-without_element : (level : Level) (name index old : List ℕ) → Some old ≡ find_in index (elements name level)
    → level_bytes (without_value_in name (Some index) level) + (length name + length index + length old) ≡ level_bytes level
bytes-without_element level name index old there =
    let e = elements_bytes-without (λ n e. length n + length e.0 + length e.1) name index level.arrays in
    omega (arith, rw (← there) at e)

pub bytes-without_no_plain : (level : Level) (name : List ℕ) → None ≡ find_in name level.plain
    → level_bytes (without_value_in name None level) ≡ level_bytes level
bytes-without_no_plain level name none =
    let p = sum_by-take_out name (λ (e : List ℕ × List ℕ). length e.0 + length e.1) level.plain in
    omega (arith, rw (← none) at p)

pub bytes-without_plain : (level : Level) (name old : List ℕ) → Some old ≡ find_in name level.plain
    → level_bytes (without_value_in name None level) + (length name + length old) ≡ level_bytes level
bytes-without_plain level name old there =
    let p = sum_by-take_out name (λ (e : List ℕ × List ℕ). length e.0 + length e.1) level.plain in
    omega (arith, rw (← there) at p)
