-- The texts in an array, and where they stand first.
use Rattle.std.specs.Prelude.{ℕ, ◌+◌, List, Option, Some, None, option_and_then}
use Rattle.std.specs.Prelude.{if◌then◌else◌}
use Rattle.std.specs.Map.{lookup}
use Rattle.std.specs.Option.{option_or}
use Rattle.std.specs.Str.{bytes_eq}
use Rattle.toml.specs.Data.{Data, Items, no_items, item, Members, as_str, as_table, get_member}

abbrev pub text_at : List ℕ → Members → Option (List ℕ)
text_at key ms = option_and_then as_str (get_member key ms)

-- the text at a key of an item, or the item itself
abbrev pub text_in : Option (List ℕ) → Data → Option (List ℕ)
text_in None d = as_str d
text_in (Some key) d = option_and_then (text_at key) (as_table d)

abbrev pub here : Option (List ℕ) → List ℕ → ℕ → Option ℕ
here None asked at = None
here (Some text) asked at = if bytes_eq asked text then Some at else None

-- the first item that has a text, where the first of all has this place
abbrev pub first_from : ℕ → Option (List ℕ) → Items → List ℕ → Option ℕ
first_from at key no_items asked = None
first_from at key (item d ds) asked =
    option_or (here (text_in key d) asked at) (first_from (at + 1) key ds asked)

abbrev pub first_place : Option (List ℕ) → Items → List ℕ → Option ℕ
first_place key ds = first_from 0 key ds

-- ---- texts with places, as they are kept

abbrev pub Places : Type 0
Places = List (List ℕ × ℕ)

abbrev pub place_of : Places → List ℕ → Option ℕ
place_of places asked = lookup (bytes_eq asked) places

-- what is found with one text more, if there is one: what was found before, and else its place
abbrev pub with_text : Places → Option (List ℕ) → ℕ → List ℕ → Option ℕ
with_text places text at asked = option_or (place_of places asked) (here text asked at)
