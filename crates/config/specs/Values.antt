-- What is wrong with a value at a key of a kind.
use Rattle.std.specs.Prelude.{ℕ, ℤ, pos, int_le, Bool, true, ◌&&◌, ◌+◌, List, [], ◌∷◌, Option, Some}
use Rattle.std.specs.Prelude.{None, option_map, is_some, nat_le, if◌then◌else◌, suc}
use Rattle.std.specs.Int.{cast_unsigned, w32}
use Rattle.std.specs.Str.{bytes_eq}
use Rattle.toml.specs.Data.{Data, Items, no_items, item, as_array, as_bool, as_integer, as_str}
use Rattle.config.specs.Forms.{has_form}
use Rattle.config.specs.Keys.{KeyKind, whole, truth, text, one_of, array}
use Rattle.config.specs.declared.fault.ConfigFaultKind.{ConfigFaultKind}
use Rattle.config.specs.declared.fault.ConfigFaultKind.TheVariants.{WrongKind, Range}

abbrev pub in_range : ℕ → ℕ → ℤ → Option ℕ
in_range low high n =
    if int_le (pos low) n && int_le n (pos high) then Some (cast_unsigned w32 n) else None

-- the place of a text among words, of which the first has this place
abbrev pub word_from : ℕ → List (List ℕ) → List ℕ → Option ℕ
word_from at [] t = None
word_from at (w ∷ words) t = if bytes_eq w t then Some at else word_from (at + 1) words t

abbrev pub word_place : List (List ℕ) → List ℕ → Option ℕ
word_place words t = word_from 0 words t

abbrev pub items_length : Items → ℕ
items_length no_items = 0
items_length (item d ds) = suc (items_length ds)

abbrev pub few : ℕ → Items → Bool
few most ds = nat_le (items_length ds) most

-- whether the value fits its key, where it is of the key's kind
abbrev pub fits : KeyKind → Data → Option Bool
fits (whole low high usual) d = option_map (λ n. is_some (in_range low high n)) (as_integer d)
fits truth d = option_map (λ _. true) (as_bool d)
fits (text form) d = option_map (has_form form) (as_str d)
fits (one_of words) d = option_map (λ t. is_some (word_place words t)) (as_str d)
fits (array most) d = option_map (few most) (as_array d)

abbrev pub judged : Option Bool → Option ConfigFaultKind
judged None = Some WrongKind
judged (Some b) = if b then None else Some Range

abbrev pub flaw : KeyKind → Data → Option ConfigFaultKind
flaw kind d = judged (fits kind d)
