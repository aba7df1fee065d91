-- What holds of selections.
use Rattle.std.specs.Prelude.{◌≡◌, ◌↔◌, ℕ, zero, suc, ◌+◌, ◌≤◌, ◌^◌, ◌==◌, Bool, true, List, []}
use Rattle.std.specs.Prelude.{◌∷◌}
use Rattle.std.specs.Prelude.{false, Option, Some, None, count_by, map, slice_get}
use Rattle.px_bytes.specs.declared.addr.Addr.{Addr}
use Rattle.pools.specs.Pools.{AreMembers, PoolState, up_count}
use Rattle.pools.specs.Selection.{after_selection, of_addr, selected, total, weight}
use Rattle.pools.specs.declared.member.Marked.{Marked}
use Rattle.pools.specs.declared.member.Wanted.{Wanted}
use Rattle.pools.specs.declared.member.Wanted.TheVariants.{Any, Wish}

-- the members that n selections of any member take, one after another
abbrev pub in_a_row : ℕ → PoolState → List (Option ℕ)
in_a_row zero pool = []
in_a_row (suc n) pool = selected pool Any ∷ in_a_row n (after_selection pool Any)

-- whether a member was taken
abbrev pub is_at : ℕ → Option ℕ → Bool
is_at at None = false
is_at at (Some taken) = taken == at

-- in a round in which no mark changes and the counter doesn't turn over, each member is taken as
-- often as its weight says
abbrev pub EachRoundIsFair : Type 0
EachRoundIsFair = (pool : PoolState) (at : ℕ) (marked : Marked)
    → pool.counter + total pool ≤ 2 ^ 64 → slice_get pool.members at ≡ Some marked
    → count_by (is_at at) (in_a_row (total pool) pool) ≡ weight pool marked

-- the wish for a member that is up leaves the turn to the others
abbrev pub WishKeepsTurn : Type 0
WishKeepsTurn = (pool : PoolState) (addr : Addr) (at : ℕ) → of_addr pool addr ≡ Some at
    → (selected pool (Wish addr) ≡ Some at) × (after_selection pool (Wish addr) ≡ pool)

-- any member is there exactly where one is up: of those that are up, the ones of the greatest
-- priority are eligible
abbrev pub NoneWhereNoneIsUp : Type 0
NoneWhereNoneIsUp = (pool : PoolState) → AreMembers (map (λ marked. marked.member) pool.members)
    → (selected pool Any ≡ None) ↔ (up_count pool ≡ 0)

-- a member that is selected is up
abbrev pub SelectedIsUp : Type 0
SelectedIsUp = (pool : PoolState) (wanted : Wanted) (at : ℕ) (marked : Marked)
    → selected pool wanted ≡ Some at → slice_get pool.members at ≡ Some marked
    → marked.up ≡ true
