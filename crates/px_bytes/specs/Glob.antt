-- How a pattern matches a whole text: Tcl 8.4, string(n), `string match`, by bytes. Other than in
-- Tcl, a set that isn't closed has no byte at all, a `-` just before the `]` of a set is itself, and
-- so is a `\` that ends the pattern.
use Rattle.std.specs.Prelude.{◌≡◌, ℕ, zero, suc, Bool, true, false, ◌&&◌, ◌||◌, not, List, [], ◌∷◌}
use Rattle.std.specs.Prelude.{length, drop, Option, Some, None, nat_lt, nat_le, ◌==◌, slice_index}
use Rattle.std.specs.Prelude.{if◌then◌else◌}

-- `*`
abbrev pub is_star : ℕ → Bool
is_star piece = piece == 42

-- a `-` and a further byte other than `]`: an item of a set that goes on so is a range
abbrev pub goes_on_as_range : List ℕ → Bool
goes_on_as_range ps = slice_index ps 0 == 45 && nat_lt 1 (length ps) && not (slice_index ps 1 == 93)

abbrev pub range_has : ℕ → ℕ → ℕ → Bool
range_has a z byte = (nat_le a byte && nat_le byte z) || (nat_le z byte && nat_le byte a)

-- whether the item that begins with `a` and goes on with `ps` has the byte: a range has all from
-- one end to the other, in either order, and another item has itself
abbrev pub item_has : ℕ → List ℕ → ℕ → Bool
item_has a ps byte = if goes_on_as_range ps then range_has a (slice_index ps 1) byte else a == byte

-- how many bytes more an item takes
abbrev pub item_more : List ℕ → ℕ
item_more ps = if goes_on_as_range ps then 2 else 0

-- What stands behind a set, from one of its items on, behind `skip` bytes, where one of its items
-- has the byte, or where `found` says so of those before: it ends at its first `]`.
abbrev pub behind_set : ℕ → Bool → ℕ → List ℕ → Option (List ℕ)
behind_set byte found skip [] = None
behind_set byte found (suc skip) (a ∷ ps) = behind_set byte found skip ps
behind_set byte found zero (a ∷ ps) =
    if a == 93 then (if found then Some ps else None)
    else behind_set byte (found || item_has a ps byte) (item_more ps) ps

-- what stands behind `\x` where x is the byte, or behind a last `\` where that is the byte
abbrev pub behind_escape : ℕ → List ℕ → Option (List ℕ)
behind_escape byte [] = if byte == 92 then Some [] else None
behind_escape byte (x ∷ ps) = if x == byte then Some ps else None

-- What stands behind the first piece, which begins with `p` and isn't `*`, where it stands for the
-- byte: `?` for any byte, a set for one of its own, `\x` for x, and another byte for itself.
abbrev pub behind_piece : ℕ → List ℕ → ℕ → Option (List ℕ)
behind_piece p ps byte =
    if p == 63 then Some ps
    else (if p == 91 then behind_set byte false 0 ps
    else (if p == 92 then behind_escape byte ps
    else (if p == byte then Some ps else None)))

-- The pattern matches the text: nothing matches nothing; `*` stands for some front of the text; and
-- another piece stands for its first byte.
pub data Matches : List ℕ → List ℕ → Type 0 where
  AtEnd : Matches [] []
  Many : {p : ℕ} {ps text : List ℕ} → is_star p ≡ true
      → (front : ℕ) → Matches ps (drop front text) → Matches (p ∷ ps) text
  One : {p byte : ℕ} {ps rest text : List ℕ} → is_star p ≡ false
      → behind_piece p ps byte ≡ Some rest → Matches rest text → Matches (p ∷ ps) (byte ∷ text)
