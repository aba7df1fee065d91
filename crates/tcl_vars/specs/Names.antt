-- How a word names a variable (Tcl 8.4, Tcl(n), variable substitution; array(n)).
use Rattle.std.specs.Prelude.{ℕ, ◌-◌, ◌+◌, List, [], ◌∷◌, length, take, drop, Bool, false, nat_eq}
use Rattle.std.specs.Prelude.{Option, Some, None, if◌then◌else◌, position}

-- a name, and the index of an element
pub record Name : Type 0 where
  pub name : List ℕ
  pub index : Option (List ℕ)

-- the last byte is `)`
abbrev pub ends_with_paren : List ℕ → Bool
ends_with_paren [] = false
ends_with_paren (b ∷ []) = nat_eq b 41
ends_with_paren (b ∷ c ∷ bs) = ends_with_paren (c ∷ bs)

-- the text between the first `(`, which stands at this place, and the last byte
abbrev pub name_split : List ℕ → Option ℕ → Name
name_split text None = record { name = text; index = None }
name_split text (Some at) =
    record { name = take at text; index = Some (drop (at + 1) (take (length text - 1) text)) }

-- A text that has a `(` and ends with `)` names an element: the name is what stands before the
-- first `(`, the index what stands between it and the last byte. Any other text names a plain
-- variable.
abbrev pub name_of : List ℕ → Name
name_of text = if ends_with_paren text then name_split text (position (λ b. nat_eq b 40) text)
    else record { name = text; index = None }
