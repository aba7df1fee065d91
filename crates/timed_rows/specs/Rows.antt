-- What a contract sees of `Rows`: its entries by rising key.
use Rattle.std.specs.Prelude.{ℕ, Bool, true, List, Option, Some, None, filter, nat_lt, option_map}
use Rattle.std.specs.declared.cmp.Ordering.{Ordering}
use Rattle.std.specs.Map.{lookup}
use Rattle.std.specs.BTreeMap.{is_at}

-- a value, and its deadline
abbrev pub Timed : Type 0 → Type 0
Timed T = T × Option ℕ

-- whether a deadline is still to come at a moment
abbrev pub is_later : ℕ → Option ℕ → Bool
is_later moment None = true
is_later moment (Some due) = nat_lt moment due

module _ {K T : Type 0} where
  -- the value at the key to which a query compares as equal
  abbrev pub value_at : (K → Ordering) → List (K × Timed T) → Option T
  value_at query es = option_map (λ t. t.0) (lookup (is_at query) es)

  -- the entries whose deadline is still to come
  abbrev pub later_than : ℕ → List (K × Timed T) → List (K × Timed T)
  later_than moment es = filter (λ e. is_later moment e.1.1) es
