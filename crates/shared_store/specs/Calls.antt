-- The shared calls, as lists of words: what each replies, and the store that it leaves.
use Rattle.std.specs.Prelude.{ℕ, ◌/◌, ℤ, pos, List, [], ◌∷◌, codes, Option, Some, None}
use Rattle.std.specs.Prelude.{option_map, option_and_then, if◌then◌else◌}
use Rattle.std.specs.Fmt.{decimal}
use Rattle.std.specs.Str.{bytes_eq}
use Rattle.px_bytes.specs.Address.{addr_text}
use Rattle.px_bytes.specs.Whole.{whole}
use Rattle.px_bytes.specs.declared.addr.Addr.{Addr}
use Rattle.px_bytes.specs.declared.fault.Reply.{Reply}
use Rattle.px_bytes.specs.declared.fault.Reply.TheVariants.{Ok as Replied}
use Rattle.persistence.specs.Records.{kept, member_of}
use Rattle.persistence.specs.declared.record.Record.{Record}
use Rattle.pools.specs.Pools.{PoolState, addr_at, up_count}
use Rattle.pools.specs.Selection.{after_selection, of_addr, selected}
use Rattle.pools.specs.declared.member.Wanted.{Wanted}
use Rattle.pools.specs.declared.member.Wanted.TheVariants.{Any, Wish, Only}
use Rattle.session_table.specs.Tables as tables
use Rattle.tcl_encodings.specs.Addr.{addr_of}
use Rattle.shared_store.specs.Store.{StoreState, at_moment, pool_of, with_pool_in}
use Rattle.shared_store.specs.Sources.{source_in}
use Rattle.shared_store.specs.declared.source.Source.{Source}
use Rattle.shared_store.specs.declared.words.Call.{Call}
use Rattle.shared_store.specs.declared.words.Call.TheVariants as call

pub record Answered : Type 0 where
  pub reply : Reply
  pub after : StoreState

-- a text is replied, and nothing changes
abbrev pub replied : List ℕ → StoreState → Answered
replied text store = record { reply = Replied text; after = store }

-- what isn't a call has an empty reply
abbrev pub no_call : StoreState → Answered
no_call store = replied [] store

-- `any`, `wish ADDR` or `only ADDR`
abbrev pub wanted_by : List ℕ → Option Addr → Option Wanted
wanted_by word None = None
wanted_by word (Some addr) =
    if bytes_eq word (codes "wish") then Some (Wish addr)
    else (if bytes_eq word (codes "only") then Some (Only addr) else None)

abbrev pub wanted_of : List (List ℕ) → Option Wanted
wanted_of [] = None
wanted_of (word ∷ []) = if bytes_eq word (codes "any") then Some Any else None
wanted_of (word ∷ (addr ∷ [])) = wanted_by word (addr_of addr)
wanted_of (word ∷ (addr ∷ (other ∷ more))) = None

-- how many members of a pool are up
abbrev pub active_members_of : Option PoolState → StoreState → Answered
active_members_of None store = no_call store
active_members_of (Some pool) store = replied (decimal (up_count pool)) store

-- `active_members POOL`
abbrev pub active_members : List (List ℕ) → StoreState → Answered
active_members [] store = no_call store
active_members (name ∷ []) store = active_members_of (pool_of name store.pools) store
active_members (name ∷ (other ∷ more)) store = no_call store

-- an address, or nothing where there is none
abbrev pub member_text : Option Addr → List ℕ
member_text None = []
member_text (Some addr) = addr_text addr

-- the address of the member that a selection takes
abbrev pub selected_addr : PoolState → Wanted → Option Addr
selected_addr pool wanted = option_and_then (addr_at pool) (selected pool wanted)

-- a selection that no record bears on
abbrev pub selects : List ℕ → PoolState → Wanted → StoreState → Answered
selects name pool wanted store = record {
  reply = Replied (member_text (selected_addr pool wanted));
  after = with_pool_in name (λ p. after_selection p wanted) store;
}

abbrev pub select_wanted : List ℕ → Option PoolState → Wanted → StoreState → Answered
select_wanted name None wanted store = no_call store
select_wanted name (Some pool) wanted store = selects name pool wanted store

-- the record of a choice for a client's address at a moment
abbrev pub chosen : Source → Addr → ℕ → Record
chosen s member moment = record {
  virtual_server = s.virtual_server;
  ip = s.ip;
  member = member;
  timeout = s.timeout;
  touched = moment;
}

-- the choice is kept, or touched
abbrev pub keeps : Source → Addr → ℕ → StoreState → StoreState
keeps s member moment store =
    record store { records = kept (chosen s member moment) store.records }

abbrev pub keeps_selected : Option Addr → Source → ℕ → StoreState → StoreState
keeps_selected None s moment store = store
keeps_selected (Some member) s moment store = keeps s member moment store

-- the member of a record, where it is in the pool and up
abbrev pub up_member : PoolState → Option Addr → Option Addr
up_member pool None = None
up_member pool (Some member) = option_map (λ at. member) (of_addr pool member)

-- a record answers where its member is up, and is touched; else what is selected is kept
abbrev pub by_record : List ℕ → PoolState → Source → Option Addr → ℕ → StoreState → Answered
by_record name pool s (Some member) moment store =
    record { reply = Replied (addr_text member); after = keeps s member moment store }
by_record name pool s None moment store =
    selects name pool Any (keeps_selected (selected_addr pool Any) s moment store)

abbrev pub by_source : List ℕ → Option PoolState → Source → ℕ → StoreState → Answered
by_source name None s moment store = no_call store
by_source name (Some pool) s moment store =
    let member = member_of s.virtual_server s.ip store.records in
    by_record name pool s (up_member pool member) moment store

abbrev pub select_any : List ℕ → Option PoolState → Option Source → ℕ → StoreState → Answered
select_any name pool None moment store = select_wanted name pool Any store
select_any name pool (Some s) moment store = by_source name pool s moment store

-- records bear on `any` alone
abbrev pub select_by : List ℕ → Option PoolState → Option Source → Option Wanted → ℕ → StoreState
    → Answered
select_by name pool source None moment store = no_call store
select_by name pool source (Some Any) moment store = select_any name pool source moment store
select_by name pool source (Some (Wish addr)) moment store =
    select_wanted name pool (Wish addr) store
select_by name pool source (Some (Only addr)) moment store =
    select_wanted name pool (Only addr) store

-- `select VIRTUAL POOL IP any`, `select VIRTUAL POOL IP wish ADDR`, `select VIRTUAL POOL IP only ADDR`
abbrev pub select : List (List ℕ) → ℕ → StoreState → Answered
select (virtual ∷ (name ∷ (ip ∷ wanted))) moment store =
    select_by name (pool_of name store.pools)
    (source_in (virtual ∷ (name ∷ (ip ∷ wanted))) store.virtuals) (wanted_of wanted) moment store
select _ moment store = no_call store

-- `table` and its words
abbrev pub table : List (List ℕ) → ℕ → StoreState → Answered
table words moment store = record {
  reply = tables.live_reply store.table moment words;
  after = record store { table = tables.live_after store.table moment words };
}

-- `clock seconds`: the moment in whole seconds
abbrev pub clock : List (List ℕ) → ℕ → StoreState → Answered
clock (word ∷ []) moment store =
    if bytes_eq word (codes "seconds") then replied (decimal (moment / 1000)) store
    else no_call store
clock words moment store = no_call store

abbrev pub call_of : List ℕ → Call
call_of name =
    if bytes_eq name (codes "active_members") then call.ActiveMembers
    else (if bytes_eq name (codes "select") then call.Select
    else (if bytes_eq name (codes "table") then call.Table
    else (if bytes_eq name (codes "clock") then call.Clock else call.Other)))

-- `after MS` has an empty reply when its time has come, as what isn't a call has
abbrev pub reply_by : Call → List (List ℕ) → ℕ → StoreState → Answered
reply_by call.ActiveMembers words moment store = active_members words store
reply_by call.Select words moment store = select words moment store
reply_by call.Table words moment store = table words moment store
reply_by call.Clock words moment store = clock words moment store
reply_by call.Other words moment store = no_call store

-- the reply to a call at a moment, and the store after it, where all in the store is live
abbrev pub live_reply : StoreState → ℕ → List (List ℕ) → Answered
live_reply store moment [] = no_call store
live_reply store moment (name ∷ words) = reply_by (call_of name) words moment store

abbrev pub reply : StoreState → ℕ → List (List ℕ) → Answered
reply store moment call = live_reply (at_moment moment store) moment call

-- ---- how long a call sleeps before it is answered

-- a whole number of milliseconds, where it isn't below 0
abbrev pub milliseconds : Option ℤ → ℕ
milliseconds (Some (pos n)) = n
milliseconds other = 0

-- `after MS` sleeps for MS milliseconds, MS being a whole number in any of its forms; no other call
-- sleeps
abbrev pub sleeps_for : List (List ℕ) → ℕ
sleeps_for (name ∷ (word ∷ [])) =
    if bytes_eq name (codes "after") then milliseconds (whole word) else 0
sleeps_for words = 0
