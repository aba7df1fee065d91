-- The items of each stanza, member and row: their keywords, what stands behind them, and the keys
-- that the table has for them.
use Rattle.std.specs.Prelude.{ℕ, ◌&&◌, nat_lt, List, codes, Option, Some, None, if◌then◌else◌}
use Rattle.std.specs.Fmt.{decimal}
use Rattle.std.specs.Str.{bytes_eq}
use Rattle.std.specs.Str.Parse.{digits_value}
use Rattle.tmsh_read.specs.declared.item.Item.{Item}
use Rattle.tmsh_read.specs.declared.item.Item.TheVariants as item
use Rattle.tmsh_read.specs.declared.next.Next.TheVariants as next
use Rattle.tmsh_read.specs.declared.section.Block.{Block}
use Rattle.tmsh_read.specs.declared.section.Block.TheVariants.{Limits, Server, Pool, Group, Member, Row}
use Rattle.tmsh_read.specs.declared.shape.Shape.{Shape}
use Rattle.tmsh_read.specs.declared.shape.Shape.TheVariants.{Number, Word, Method, Opens}

-- ---- keywords

abbrev pub limits_item : List ℕ → Option Item
limits_item w =
    if bytes_eq w (codes "budget") then Some item.Budget
    else (if bytes_eq w (codes "connections") then Some item.Connections
    else (if bytes_eq w (codes "idle") then Some item.Idle
    else (if bytes_eq w (codes "rows") then Some item.TableRows else None)))

abbrev pub server_item : List ℕ → Option Item
server_item w =
    if bytes_eq w (codes "destination") then Some item.Listen
    else (if bytes_eq w (codes "profiles") then Some item.Http
    else (if bytes_eq w (codes "pool") then Some item.PoolName
    else (if bytes_eq w (codes "persist") then Some item.Persist
    else (if bytes_eq w (codes "persist-timeout") then Some item.PersistTimeout
    else (if bytes_eq w (codes "rules") then Some item.RuleNames else None)))))

abbrev pub pool_item : List ℕ → Option Item
pool_item w =
    if bytes_eq w (codes "load-balancing-mode") then Some item.Method
    else (if bytes_eq w (codes "min-active-members") then Some item.MinActive
    else (if bytes_eq w (codes "members") then Some item.Members else None))

abbrev pub group_item : List ℕ → Option Item
group_item w =
    if bytes_eq w (codes "type") then Some item.Kind
    else (if bytes_eq w (codes "records") then Some item.Rows else None)

abbrev pub member_item : List ℕ → Option Item
member_item w =
    if bytes_eq w (codes "ratio") then Some item.Ratio
    else (if bytes_eq w (codes "priority-group") then Some item.Priority else None)

abbrev pub row_item : List ℕ → Option Item
row_item w = if bytes_eq w (codes "data") then Some item.Data else None

abbrev pub item_of : Block → List ℕ → Option Item
item_of Limits w = limits_item w
item_of Server w = server_item w
item_of Pool w = pool_item w
item_of Group w = group_item w
item_of Member w = member_item w
item_of Row w = row_item w

-- ---- items

abbrev pub block_of : Item → Block
block_of item.Budget = Limits
block_of item.Connections = Limits
block_of item.Idle = Limits
block_of item.TableRows = Limits
block_of item.Listen = Server
block_of item.Http = Server
block_of item.PoolName = Server
block_of item.Persist = Server
block_of item.PersistTimeout = Server
block_of item.RuleNames = Server
block_of item.Method = Pool
block_of item.MinActive = Pool
block_of item.Members = Pool
block_of item.Kind = Group
block_of item.Rows = Group
block_of item.Ratio = Member
block_of item.Priority = Member
block_of item.Data = Row

abbrev pub key_of : Item → List ℕ
key_of item.Budget = codes "budget"
key_of item.Connections = codes "connections"
key_of item.Idle = codes "idle"
key_of item.TableRows = codes "rows"
key_of item.Listen = codes "listen"
key_of item.Http = codes "http"
key_of item.PoolName = codes "pool"
key_of item.Persist = codes "persist"
key_of item.PersistTimeout = codes "persist_timeout"
key_of item.RuleNames = codes "rules"
key_of item.Method = codes "method"
key_of item.MinActive = codes "min_active"
key_of item.Members = codes "members"
key_of item.Kind = codes "type"
key_of item.Rows = codes "rows"
key_of item.Ratio = codes "ratio"
key_of item.Priority = codes "priority"
key_of item.Data = codes "data"

-- what stands behind a keyword
abbrev pub shape_of : Item → Shape
shape_of item.Budget = Number
shape_of item.Connections = Number
shape_of item.Idle = Number
shape_of item.TableRows = Number
shape_of item.Listen = Word
shape_of item.Http = Opens next.Http
shape_of item.PoolName = Word
shape_of item.Persist = Word
shape_of item.PersistTimeout = Number
shape_of item.RuleNames = Opens next.Names
shape_of item.Method = Method
shape_of item.MinActive = Number
shape_of item.Members = Opens next.Members
shape_of item.Kind = Word
shape_of item.Rows = Opens next.Rows
shape_of item.Ratio = Number
shape_of item.Priority = Number
shape_of item.Data = Word

-- ---- values

-- the number of 18 digits at most whose decimal without needless zeros the word is
abbrev pub number_with : List ℕ → ℕ → Option ℕ
number_with w n = if nat_lt n 1000000000000000000 && bytes_eq w (decimal n) then Some n else None

abbrev pub number : List ℕ → Option ℕ
number w = number_with w (digits_value 10 w)

abbrev pub method : List ℕ → Option (List ℕ)
method w =
    if bytes_eq w (codes "round-robin") then Some (codes "round_robin")
    else (if bytes_eq w (codes "ratio-member") then Some (codes "ratio") else None)
