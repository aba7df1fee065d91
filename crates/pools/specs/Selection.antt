-- Which member a selection takes (TMOS concepts: load balancing methods, round robin and ratio
-- (member); priority group activation).
use Rattle.std.specs.Prelude.{ℕ, suc, ◌+◌, ◌-◌, ◌%◌, ◌^◌, Bool, false, ◌&&◌, ◌||◌, ◌==◌, nat_lt}
use Rattle.std.specs.Prelude.{List, [], ◌∷◌, count_by, sum_by, Option, Some, None, is_some, is_none}
use Rattle.std.specs.Prelude.{option_map, position, if◌then◌else◌}
use Rattle.std.specs.Option.{option_or}
use Rattle.px_bytes.specs.declared.addr.Addr.{Addr}
use Rattle.pools.specs.Pools.{PoolState, has_addr}
use Rattle.pools.specs.declared.member.Marked.{Marked}
use Rattle.pools.specs.declared.member.Member.{Member}
use Rattle.pools.specs.declared.member.Method.{Method}
use Rattle.pools.specs.declared.member.Method.TheVariants.{RoundRobin, Ratio}
use Rattle.pools.specs.declared.member.Wanted.{Wanted}
use Rattle.pools.specs.declared.member.Wanted.TheVariants.{Any, Wish, Only}

-- whether a member is up, in a group above one of this priority
abbrev pub is_above : ℕ → Marked → Bool
is_above priority marked = marked.up && nat_lt priority marked.member.priority

-- A group, which is the members of one priority, serves where fewer members than are wanted are up
-- in the groups above it.
abbrev pub group_serves : ℕ → List Marked → ℕ → Bool
group_serves min_active members priority =
    min_active == 0 || nat_lt (count_by (is_above priority) members) min_active

-- whether a member may be taken in its turn: it is up, and its group serves
abbrev pub is_eligible : PoolState → Marked → Bool
is_eligible pool marked =
    marked.up && group_serves pool.min_active pool.members marked.member.priority

-- how often an eligible member is taken in a round
abbrev pub share : Method → Member → ℕ
share RoundRobin member = 1
share Ratio member = member.ratio

-- any other is never taken in its turn
abbrev pub weight : PoolState → Marked → ℕ
weight pool marked = if is_eligible pool marked then share pool.method marked.member else 0

-- how many selections are a round
abbrev pub total : PoolState → ℕ
total pool = sum_by (weight pool) pool.members

-- the first place at which the running sum of the weights passes a number
abbrev pub by_running_sums : (Marked → ℕ) → List Marked → ℕ → Option ℕ
by_running_sums weighs [] n = None
by_running_sums weighs (marked ∷ members) n =
    if nat_lt n (weighs marked) then Some 0
    else option_map suc (by_running_sums weighs members (n - weighs marked))

-- the member whose turn it is, where one is eligible
abbrev pub in_turn : PoolState → Option ℕ
in_turn pool =
    if total pool == 0 then None
    else by_running_sums (weight pool) pool.members (pool.counter % total pool)

-- the member of an address, where it is up, whatever its group
abbrev pub of_addr : PoolState → Addr → Option ℕ
of_addr pool addr = position (λ marked. has_addr addr marked && marked.up) pool.members

-- any member, in turn; the one that is wished where it is up, and else any; or that one only
abbrev pub selected : PoolState → Wanted → Option ℕ
selected pool Any = in_turn pool
selected pool (Wish addr) = option_or (of_addr pool addr) (in_turn pool)
selected pool (Only addr) = of_addr pool addr

-- whether a selection takes a member in its turn
abbrev pub takes_turn : PoolState → Wanted → Bool
takes_turn pool Any = is_some (in_turn pool)
takes_turn pool (Wish addr) = is_none (of_addr pool addr) && is_some (in_turn pool)
takes_turn pool (Only addr) = false

-- the counter of 64 bits goes on, from its greatest value to 0
abbrev pub with_next_turn : PoolState → PoolState
with_next_turn pool = record pool { counter = (pool.counter + 1) % 2 ^ 64 }

-- the pool after a selection
abbrev pub after_selection : PoolState → Wanted → PoolState
after_selection pool wanted = if takes_turn pool wanted then with_next_turn pool else pool
