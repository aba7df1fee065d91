-- The one store that all connections share. Calls are answered one after another: each has a reply
-- and leaves a store.
use Rattle.std.specs.Prelude.{ℕ, Bool, false, List, [], Option, Some, None, find, option_map}
use Rattle.std.specs.List.{list_any}
use Rattle.std.specs.Str.{bytes_eq}
use Rattle.px_bytes.specs.declared.addr.Addr.{Addr}
use Rattle.persistence.specs.Records.{live}
use Rattle.persistence.specs.declared.record.Record.{Record}
use Rattle.px_bytes.specs.First.{with_first}
use Rattle.pools.specs.Pools.{PoolState, has_addr, with_mark}
use Rattle.session_table.specs.Tables.{TableState, expired, new_table}
use Rattle.shared_store.specs.declared.named.NamedPool.{NamedPool}
use Rattle.shared_store.specs.declared.named.VirtualTime.{VirtualTime}

pub record StoreState : Type 0 where
  pub table : TableState
  pub records : List Record
  pub pools : List NamedPool
  pub virtuals : List VirtualTime

-- the session table has at most 65,536 live rows
abbrev pub new_store : List NamedPool → List VirtualTime → ℕ → StoreState
new_store pools virtuals rows =
    record { table = new_table rows; records = []; pools = pools; virtuals = virtuals }

-- rows and records that have run out at a moment are gone for good
abbrev pub at_moment : ℕ → StoreState → StoreState
at_moment moment store =
    record store { table = expired moment store.table; records = live moment store.records }

abbrev pub has_name : List ℕ → NamedPool → Bool
has_name name named = bytes_eq name named.name

-- the pool of a name
abbrev pub pool_of : List ℕ → List NamedPool → Option PoolState
pool_of name pools = option_map (λ named. named.pool) (find (has_name name) pools)

-- the pools with the one of a name changed
abbrev pub with_pool : List ℕ → (PoolState → PoolState) → List NamedPool → List NamedPool
with_pool name change pools =
    with_first (has_name name) (λ named. record named { pool = change named.pool }) pools

abbrev pub with_pool_in : List ℕ → (PoolState → PoolState) → StoreState → StoreState
with_pool_in name change store = record store { pools = with_pool name change store.pools }

-- the pool has a member of this address
abbrev pub has_member : Addr → Option PoolState → Bool
has_member addr None = false
has_member addr (Some pool) = list_any (has_addr addr) pool.members

-- a member of a pool is marked up or down
abbrev pub marked : List ℕ → Addr → Bool → StoreState → StoreState
marked name addr up store =
    with_pool_in name (λ pool. record pool { members = with_mark addr up pool.members }) store
