-- The tree of minima over the deadlines of a `Wheel`. No public clause cites this module.
use Rattle.std.specs.Prelude.{◌≡◌, ℕ, ◌+◌, ◌*◌, ◌<◌, ◌≤◌, ◌≢◌, List, Bool, true, false, Option, Some, None}
use Rattle.std.specs.Prelude.{get_or, length, nat_lt, if◌then◌else◌}

-- a deadline comes before another; none comes behind all
abbrev pub is_earlier : Option ℕ → Option ℕ → Bool
is_earlier None b = false
is_earlier (Some a) None = true
is_earlier (Some a) (Some b) = nat_lt a b

abbrev pub earlier : Option ℕ → Option ℕ → Option ℕ
earlier a b = if is_earlier a b then a else b

-- a node has the earlier of its two children
abbrev pub NodeAt : List (Option ℕ) → ℕ → Type 0
NodeAt xs k = get_or xs k None ≡ earlier (get_or xs (2 * k) None) (get_or xs (2 * k + 1) None)

-- so has each inner node of n leaves, but one
pub record IsLeastBut (n j : ℕ) (xs : List (Option ℕ)) : Type 0 where
  pub nodes : (k : ℕ) → 1 ≤ k → k < n → k ≢ j → NodeAt xs k

-- so has each inner node of n leaves
pub record IsLeast (n : ℕ) (xs : List (Option ℕ)) : Type 0 where
  pub nodes : (k : ℕ) → 1 ≤ k → k < n → NodeAt xs k

-- n leaves behind their inner nodes
pub record IsTree (n : ℕ) (xs : List (Option ℕ)) : Type 0 where
  pub least : IsLeast n xs
  pub twice : length xs ≡ 2 * n
