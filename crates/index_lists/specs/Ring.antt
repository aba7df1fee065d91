-- What a contract sees of a `Ring`.
use Rattle.std.specs.Prelude.{ℕ, List, [], ◌∷◌, Bool, nat_eq, if◌then◌else◌}
use Rattle.std.specs.List.{list_any}

-- its numbers, each once, the next in front; and how many there is room for
pub record Ring : Type 0 where
  pub items : List ℕ
  pub room : ℕ

abbrev pub is_in : List ℕ → ℕ → Bool
is_in ns n = list_any (nat_eq n) ns

-- the ring without n
abbrev pub without : ℕ → List ℕ → List ℕ
without n [] = []
without n (m ∷ ring) = if nat_eq n m then ring else m ∷ without n ring
