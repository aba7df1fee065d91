-- The first key of a list at each place of a text, by its number in the list.
use Rattle.std.specs.Prelude.{◌≡◌, ◌<◌, ℕ, suc, List, [], ◌∷◌, length, bytes_eq}
use Rattle.std.specs.Prelude.{Option, Some, None, min, slice_index, if◌then◌else◌}
use Rattle.tcl_strings.specs.Search.{begins_with}
use Rattle.tcl_strings.specs.Automaton.{text_at}

-- the keys of a list of keys and values
abbrev pub keys_of : List (List ℕ) → List (List ℕ)
keys_of [] = []
keys_of (key ∷ []) = []
keys_of (key ∷ value ∷ more) = key ∷ keys_of more

-- the first key and its value
abbrev pub pair_in : List (List ℕ) → Option (List ℕ × List ℕ)
pair_in [] = None
pair_in (key ∷ []) = None
pair_in (key ∷ value ∷ more) = Some (key, value)

-- how many keys come before the first with which the text begins
abbrev pub first_number : List (List ℕ) → List ℕ → ℕ
first_number [] text = 0
first_number (key ∷ keys) text =
    if begins_with key text then 0 else suc (first_number keys text)

-- how many keys come before the first that the text is
abbrev pub same_number : List (List ℕ) → List ℕ → ℕ
same_number [] text = 0
same_number (key ∷ keys) text = if bytes_eq key text then 0 else suc (same_number keys text)

-- for each end of the text, at the index of its length less 1, the number of the first key
abbrev pub IsTable : List (List ℕ) → List ℕ → List ℕ → Type 0
IsTable keys numbers [] = Unit {0}
IsTable keys numbers (c ∷ cs) =
    (length cs < length numbers)
    × (slice_index numbers (length cs) ≡ first_number keys (c ∷ cs))
    × IsTable keys numbers cs

-- for each node the number of the first key that its text is; none for the empty text
pub record IsOwn (texts keys : List (List ℕ)) (own : List ℕ) : Type 0 where
  pub size : length own ≡ length texts
  pub root : slice_index own 0 ≡ length keys
  pub at : (i : ℕ) → 0 < i → i < length texts →
      slice_index own i ≡ same_number keys (text_at texts i)

-- for each node the number of the first key with which its text begins
pub record IsFirst (texts keys : List (List ℕ)) (firsts : List ℕ) : Type 0 where
  pub size : length firsts ≡ length texts
  pub at : (i : ℕ) → i < length texts → slice_index firsts i ≡ first_number keys (text_at texts i)

-- each node but the first has the least of its own number and of its link's
pub record IsLeast (links own least : List ℕ) : Type 0 where
  pub size : length least ≡ length own
  pub root : slice_index least 0 ≡ slice_index own 0
  pub at : (i : ℕ) → 0 < i → i < length own →
      slice_index least i ≡ min (slice_index own i) (slice_index least (slice_index links i))
