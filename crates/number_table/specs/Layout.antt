-- How a `Table` keeps its values. No public clause cites this module.
use Rattle.std.specs.Prelude.{◌≡◌, ℕ, List, [], ◌∷◌, true, false, length, map}
use Rattle.std.specs.Prelude.{Option, Some, None, IsSome, nat_eq}
use Rattle.std.specs.List.{AllByRecursion, IsDistinct}
use Rattle.slab.specs.Slab.{Slab, get, slab_len}
use Rattle.number_table.specs.Table.{Rises, is_in}
use Rattle.number_table.specs.declared.Entry.{Entry}

abbrev pub numbers_of : List Entry → List ℕ
numbers_of es = map (λ e. e.number) es

-- no two entries have the same key
abbrev pub Apart : List Entry → Type 0
Apart [] = Unit {0}
Apart (e ∷ es) = AllByRecursion (λ x. nat_eq e.key x.key ≡ false) es × Apart es

-- each entry tells whether its number is in the ring
abbrev pub Flagged : List ℕ → List Entry → Type 0
Flagged ring es = AllByRecursion (λ e. e.ready ≡ is_in ring e.number) es

module _ {T : Type 0} where
  abbrev pub put : Option T → List T → List T
  put None rest = rest
  put (Some x) rest = x ∷ rest

  -- the values of these entries
  abbrev pub items_of : Slab T → List Entry → List T
  items_of s [] = []
  items_of s (e ∷ es) = put (get s e.key) (items_of s es)

  -- each entry has a value
  abbrev pub Held : Slab T → List Entry → Type 0
  Held s es = AllByRecursion (λ e. IsSome (get s e.key)) es

  -- each entry has a value of its own, and there are no others; numbers rise; the ring has numbers of
  -- entries, each once, and each entry tells whether it has its
  pub record IsSound (s : Slab T) (es : List Entry) (ring : List ℕ) : Type 0 where
    pub held : Held s es
    pub apart : Apart es
    pub counted : slab_len s ≡ length es
    pub rises : Rises (numbers_of es)
    pub flagged : Flagged ring es
    pub once : IsDistinct nat_eq ring
    pub known : (n : ℕ) → is_in ring n ≡ true → is_in (numbers_of es) n ≡ true
