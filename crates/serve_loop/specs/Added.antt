-- Numbers in the order in which they were added first.
use Rattle.std.specs.Prelude.{ℕ, List, [], ◌∷◌, nat_eq}
use Rattle.indexmap.specs.IndexSet.{insert_key}

-- each of these is added in turn, unless it is there
abbrev pub added : List ℕ → List ℕ → List ℕ
added before [] = before
added before (n ∷ more) = added (insert_key nat_eq before n) more
