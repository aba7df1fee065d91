-- Fields of a head: RFC 9110, 5.1 (names), 5.5 (values), 5.3 (their order).
use Rattle.std.specs.Prelude.{◌≡◌, ℕ, ◌+◌, ◌-◌, ◌≤◌, Bool, true, false, not, ◌&&◌, List, [], ◌∷◌, ◌++◌, length, filter}
use Rattle.std.specs.Prelude.{reverse, sum_by, Option, Some, None, option_map, slice_get, set, nat_le}
use Rattle.std.specs.Prelude.{Result, Ok, Err, if◌then◌else◌}
use Rattle.std.specs.List.{list_all}
use Rattle.std.specs.Str.{bytes_eq}
use Rattle.httparse.specs.Grammar.{is_ows, is_token, is_value_byte, trim_ows}
use Rattle.px_bytes.specs.FaultText.{too_long}
use Rattle.px_bytes.specs.Letters.{lowered}
use Rattle.px_bytes.specs.declared.fault.Raise.{Raise}
use Rattle.px_bytes.specs.declared.fault.Raise.TheVariants as raise

-- a name and a value
abbrev pub Pair : Type 0
Pair = List ℕ × List ℕ

-- no control byte but the tab, so no CR, LF or NUL
abbrev pub is_value : List ℕ → Bool
is_value value = list_all is_value_byte value

abbrev pub is_field : Pair → Bool
is_field f = is_token f.0 && is_value f.1

-- A field as it is read: "A field value does not include leading or trailing whitespace."
abbrev pub bare : Pair → Pair
bare f = (f.0, trim_ows f.1)

-- no white space stands at the front
abbrev pub begins_visible : List ℕ → Bool
begins_visible [] = true
begins_visible (byte ∷ bytes) = not (is_ows byte)

-- nor at either end
abbrev pub is_trimmed : List ℕ → Bool
is_trimmed value = begins_visible value && begins_visible (reverse value)

abbrev pub are_trimmed : List Pair → Bool
are_trimmed fields = list_all (λ f. is_trimmed f.1) fields

-- what a head may hold
pub record AreFields (fields : List Pair) : Type 0 where
  pub are : list_all is_field fields ≡ true
  pub few : length fields ≤ 100

abbrev pub field_made : Pair → Option Pair
field_made f = if is_field f then Some f else None

-- names and values that a head may hold
abbrev pub fields_made : List Pair → Option (List Pair)
fields_made fields =
    if nat_le (length fields) 100 && list_all is_field fields then Some fields else None

-- names are compared without the case of their letters
abbrev pub is_named : List ℕ → Pair → Bool
is_named name f = bytes_eq (lowered f.0) (lowered name)

abbrev pub named : List ℕ → List Pair → List Pair
named name fields = filter (is_named name) fields

-- the place of the last field of a name, from 0
abbrev pub later : Option ℕ → Bool → Option ℕ
later (Some at) here = Some (at + 1)
later None here = if here then Some 0 else None

abbrev pub last_place : List ℕ → List Pair → Option ℕ
last_place name [] = None
last_place name (f ∷ fields) = later (last_place name fields) (is_named name f)

abbrev pub value_at : List Pair → Option ℕ → Option (List ℕ)
value_at fields None = None
value_at fields (Some at) = option_map (λ f. f.1) (slice_get fields at)

-- the value of the last field of a name
abbrev pub last_value : List ℕ → List Pair → Option (List ℕ)
last_value name fields = value_at fields (last_place name fields)

abbrev pub field_at : List Pair → Option ℕ → Option Pair
field_at fields None = None
field_at fields (Some at) = slice_get fields at

-- the last field of a name
abbrev pub last_field : List ℕ → List Pair → Option Pair
last_field name fields = field_at fields (last_place name fields)

-- as it is written: the name, `: `, the value, CRLF
abbrev pub line_length : Pair → ℕ
line_length f = length f.0 + length f.1 + 4

-- what is left of so many bytes beside so many
abbrev pub room_beside : ℕ → ℕ → Option ℕ
room_beside room size = if nat_le size room then Some (room - size) else None

-- at most 100 fields, of at most 65,536 bytes
abbrev pub fit : List Pair → Bool
fit fields = nat_le (length fields) 100 && nat_le (sum_by line_length fields) 65536

-- the field in the place of the last one of its name, or behind the others
abbrev pub placed : Pair → List Pair → Option ℕ → List Pair
placed f fields None = fields ++ f ∷ []
placed f fields (Some at) = set fields at f

abbrev pub replaced : Pair → List Pair → List Pair
replaced f fields = placed f fields (last_place f.0 fields)

-- the fields without those of a name
abbrev pub without : List ℕ → List Pair → List Pair
without name fields = filter (λ f. not (is_named name f)) fields

-- what an edit leaves, where that isn't too long
abbrev pub Edits : Result (Unit {0}) Raise → List Pair → List Pair → (wanted : List Pair) → Type 0
Edits (Ok done) old new wanted = (fit wanted ≡ true) × (new ≡ wanted)
Edits (Err (raise.Fault f)) old new wanted = (fit wanted ≡ false) × (f ≡ too_long) × (new ≡ old)
Edits (Err raise.Memory) old new wanted = new ≡ old
