-- How a stanza and its items are printed.
use Rattle.std.specs.Prelude.{ℕ, ◌==◌, List, [], ◌∷◌, flat_map, codes, if◌then◌else◌}
use Rattle.std.specs.Fmt.{decimal}

abbrev pub joined : List (List ℕ) → List ℕ
joined parts = flat_map (λ part. part) parts

-- `HEAD NAME {`, items on lines of their own, and `}`
abbrev pub stanza : (head name items : List ℕ) → List ℕ
stanza head name items = joined (head ∷ name ∷ codes " {\n" ∷ items ∷ codes "}\n" ∷ [])

abbrev pub item : (word value : List ℕ) → List ℕ
item word value = joined (codes "    " ∷ word ∷ codes " " ∷ value ∷ codes "\n" ∷ [])

-- what has its default isn't written
abbrev pub number_item : List ℕ → (usual number : ℕ) → List ℕ
number_item word usual number = if number == usual then [] else item word (decimal number)

-- the same within a line
abbrev pub short_item : List ℕ → (usual number : ℕ) → List ℕ
short_item word usual number =
    if number == usual then [] else joined (codes " " ∷ word ∷ codes " " ∷ decimal number ∷ [])
