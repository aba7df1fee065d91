-- From which priority on groups serve.
use Rattle.std.specs.Prelude.{◌≡◌, ℕ, ◌≤◌, ◌&&◌, List, nat_le, if◌then◌else◌}
use Rattle.pools.specs.Selection.{group_serves, share}
use Rattle.pools.specs.declared.member.Marked.{Marked}
use Rattle.pools.specs.declared.member.Method.{Method}

-- the groups of this priority and above serve, and no others
abbrev pub IsFloor : ℕ → List Marked → ℕ → Type 0
IsFloor min_active members floor =
    (priority : ℕ) → priority ≤ 100
    → nat_le floor priority ≡ group_serves min_active members priority

-- how often a member is taken in a round, by the least priority of which a group serves
abbrev pub weight_from : Method → ℕ → Marked → ℕ
weight_from method floor marked =
    if marked.up && nat_le floor marked.member.priority then share method marked.member else 0
