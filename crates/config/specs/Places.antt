-- The texts of places: the keys of a table stand behind the prefix of its place, and the items of
-- an array behind its key.
use Rattle.std.specs.Prelude.{ℕ, List, ◌++◌, Option, Some, None, codes, decimal}
use Rattle.config.specs.declared.place.Place.{Place}

-- as `virtual[0].pool`
abbrev pub key_place : List ℕ → List ℕ → List ℕ
key_place prefix key = prefix ++ key

-- as `virtual[0].rules[1]`
abbrev pub item_place : List ℕ → List ℕ → ℕ → List ℕ
item_place prefix key at = prefix ++ (key ++ (codes "[" ++ (decimal at ++ codes "]")))

-- as `virtual[0].`, of a table at this place
abbrev pub prefix_of : List ℕ → List ℕ
prefix_of place = place ++ codes "."

abbrev pub text_with : List ℕ → List ℕ → Option ℕ → List ℕ
text_with prefix key None = key_place prefix key
text_with prefix key (Some at) = item_place prefix key at

abbrev pub place_text : Place → List ℕ
place_text p = text_with p.prefix.now p.key.now p.item
