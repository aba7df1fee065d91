-- The data groups and pools that rules name (iRules: `class`, `pool`). The first of a name counts.
use Rattle.std.specs.Prelude.{ℕ, Bool, false, ◌&&◌, ◌==◌, List, Option, None, Some, find, option_map}
use Rattle.std.specs.List.{list_any}
use Rattle.std.specs.Str.{bytes_eq}
use Rattle.px_bytes.specs.declared.addr.Addr.{Addr}
use Rattle.data_groups.specs.Groups.{DataGroup}
use Rattle.irule_net.specs.declared.groups.NamedGroup.{NamedGroup}
use Rattle.irule_net.specs.declared.groups.PoolMembers.{PoolMembers}

-- the data group of a name
abbrev pub class_in : List ℕ → List NamedGroup → Option DataGroup
class_in name classes =
    option_map (λ class. class.group) (find (λ class. bytes_eq name class.name) classes)

abbrev pub has_pool : List ℕ → List PoolMembers → Bool
has_pool name pools = list_any (λ pool. bytes_eq name pool.name) pools

-- the addresses of the members of the pool of a name
abbrev pub members_in : List ℕ → List PoolMembers → Option (List Addr)
members_in name pools =
    option_map (λ pool. pool.members) (find (λ pool. bytes_eq name pool.name) pools)

abbrev pub has_addr : Addr → List Addr → Bool
has_addr addr members =
    list_any (λ member. member.ip == addr.ip && member.port == addr.port) members

abbrev pub is_member : Addr → Option (List Addr) → Bool
is_member addr None = false
is_member addr (Some members) = has_addr addr members

-- the pool of a name has a member of this address
abbrev pub has_member : List ℕ → Addr → List PoolMembers → Bool
has_member name addr pools = is_member addr (members_in name pools)
