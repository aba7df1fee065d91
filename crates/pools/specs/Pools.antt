-- Pools (TMOS concepts: local traffic, pools): members, each with a ratio and a priority, that are
-- up or down.
use Rattle.std.specs.Prelude.{◌≡◌, ℕ, ◌≤◌, Bool, true, ◌&&◌, ◌==◌, List, [], ◌∷◌, length, map, not}
use Rattle.std.specs.Prelude.{count_by, nat_le, Option, option_map, slice_get}
use Rattle.std.specs.List.{list_all, list_any}
use Rattle.px_bytes.specs.declared.addr.Addr.{Addr}
use Rattle.px_bytes.specs.First.{with_first}
use Rattle.pools.specs.declared.member.Marked.{Marked}
use Rattle.pools.specs.declared.member.Member.{Member}
use Rattle.pools.specs.declared.member.Method.{Method}

-- The members in the order of the file, each with whether it is up, the counter by which members are
-- taken in turn, and how many members that are up are wanted before a group of a lower priority
-- serves (priority group activation), none where all groups serve.
pub record PoolState : Type 0 where
  pub method : Method
  pub members : List Marked
  pub counter : ℕ
  pub min_active : ℕ

abbrev pub same_addr : Addr → Addr → Bool
same_addr a b = (a.ip == b.ip) && (a.port == b.port)

abbrev pub ratio_fits : Member → Bool
ratio_fits member = nat_le 1 member.ratio && nat_le member.ratio 100

abbrev pub priority_fits : Member → Bool
priority_fits member = nat_le member.priority 100

-- no two members have the same address
abbrev pub are_apart : List Member → Bool
are_apart [] = true
are_apart (member ∷ members) =
    not (list_any (λ other. same_addr member.addr other.addr) members) && are_apart members

-- 1,000 members at most, each with a ratio from 1 to 100 and a priority of 100 at most, and no
-- address twice
pub record AreMembers (members : List Member) : Type 0 where
  pub few : length members ≤ 1000
  pub ratios : list_all ratio_fits members ≡ true
  pub priorities : list_all priority_fits members ≡ true
  pub apart : are_apart members ≡ true

abbrev pub up : Member → Marked
up member = record { member = member; up = true }

-- a pool of these members begins with all up
abbrev pub new_pool : Method → List Member → ℕ → PoolState
new_pool method members min_active = record {
  method = method;
  members = map up members;
  counter = 0;
  min_active = min_active;
}

abbrev pub has_addr : Addr → Marked → Bool
has_addr addr marked = same_addr marked.member.addr addr

-- the members with the mark of one changed
abbrev pub with_mark : Addr → Bool → List Marked → List Marked
with_mark addr mark members =
    with_first (has_addr addr) (λ member. record member { up = mark }) members

-- the address at a place
abbrev pub addr_at : PoolState → ℕ → Option Addr
addr_at pool at = option_map (λ marked. marked.member.addr) (slice_get pool.members at)

abbrev pub up_count : PoolState → ℕ
up_count pool = count_by (λ marked. marked.up) pool.members
