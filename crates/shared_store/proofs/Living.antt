-- Calls leave live rows and records.
use Rattle.std.proofs.Common.{◌≡◌, ℕ, ◌+◌, ◌*◌, ◌^◌, Bool, true, ◌&&◌, List, [], ◌∷◌, length, Option, Some, None, refl, ap, ap₂, nat_lt, codes, if◌then◌else◌, arith}
use Rattle.std.specs.List.{All, AllPass, list_any, position, filter}
use Rattle.std.specs.Prelude.{slice_get}
use Rattle.std.specs.Option.{option_and_then}
use Rattle.std.specs.Str.{bytes_eq}
use Rattle.std.proofs.lemmas.Bool.{and_parts, lt-ltb, ltb-true}
use Rattle.std.proofs.lemmas.List.Elements.{All-head, All-nil, All-push, All-tail, filter_passes}
use Rattle.px_bytes.proofs.Tests.{by_cases, on_if}
use Rattle.px_bytes.specs.declared.addr.Addr.{Addr}
use Rattle.persistence.specs.Records.{is_live, is_of, kept, member_of, record_limit}
use Rattle.persistence.specs.declared.record.Record.{Record}
use Rattle.pools.specs.Pools.{PoolState}
use Rattle.pools.specs.declared.member.Wanted.{Wanted}
use Rattle.pools.specs.declared.member.Wanted.TheVariants.{Any, Wish, Only}
use Rattle.session_table.proofs.Living.{all_with_first, live_rows_stay}
use Rattle.session_table.specs.Rows as rows
use Rattle.tcl_encodings.specs.Addresses.{address_of}
use Rattle.shared_store.specs.Calls.{by_record, call_of, chosen, keeps_selected, reply_by, select, select_any, select_by, selected_addr, up_member, wanted_of}
use Rattle.shared_store.specs.Calls as calls
use Rattle.shared_store.specs.Laws.{ExpiredIsLive, LiveIsKept, LiveStoreStays, StoreIsLive}
use Rattle.shared_store.specs.Sources.{has_name, source_at, source_by, source_of}
use Rattle.shared_store.specs.Store.{StoreState, new_store, pool_of}
use Rattle.shared_store.specs.declared.named.NamedPool.{NamedPool}
use Rattle.shared_store.specs.declared.named.VirtualTime.{VirtualTime}
use Rattle.shared_store.specs.declared.source.Source.{Source}
use Rattle.shared_store.specs.declared.words.Call.{Call}
use Rattle.shared_store.specs.declared.words.Call.TheVariants as call

-- where all pass, a filter keeps all
all_kept : {X : Type 0} (p : X → Bool) (xs : List X) → AllPass p xs → filter p xs ≡ xs
all_kept p [] a = refl
all_kept p (x ∷ xs) a = rw (All-head (λ y. p y ≡ true) x xs a) (ap (λ ys. x ∷ ys) (all_kept p xs (All-tail (λ y. p y ≡ true) x xs a)))

pub expired_is_live : ExpiredIsLive
expired_is_live store m = record {
  rows = filter_passes (rows.is_live m) store.table.rows;
  records = filter_passes (is_live m) store.records;
}

pub live_is_kept : LiveIsKept
live_is_kept store m a = ap₂ (λ ys rs. record store { table = record store.table { rows = ys }; records = rs }) (all_kept (rows.is_live m) store.table.rows a.rows) (all_kept (is_live m) store.records a.records)

pub new_is_live : (m : ℕ) (pools : List NamedPool) (virtuals : List VirtualTime) (rows : ℕ) → StoreIsLive m (new_store pools virtuals rows)
new_is_live m pools virtuals most = record { rows = All-nil (λ row. rows.is_live m row ≡ true); records = All-nil (λ r. is_live m r ≡ true) }

-- ---- sources have a time

abbrev Timed : Option Source → Type 0
Timed None = Unit {0}
Timed (Some s) = nat_lt 0 s.timeout ≡ true

timed_by : (at : ℕ) (v : VirtualTime) (ip : ℕ) → Timed (source_by at v ip)
timed_by at v ip =
    by_cases (λ b. Timed (if b then Some (record { virtual_server = at; timeout = v.timeout; ip = ip }) else None)) (v.by_source && (nat_lt 0 v.timeout && nat_lt at (2 ^ 32)))
    (λ e. (and_parts (nat_lt 0 v.timeout) (nat_lt at (2 ^ 32)) (and_parts v.by_source (nat_lt 0 v.timeout && nat_lt at (2 ^ 32)) e).1).0) (λ e. tt)

timed_at : (at : ℕ) (v : Option VirtualTime) (ip : Option ℕ) → Timed (source_at at v ip)
timed_at at None ip = tt
timed_at at (Some v) None = tt
timed_at at (Some v) (Some ip) = timed_by at v ip

timed_of : (name ip : List ℕ) (virtuals : List VirtualTime) → Timed (source_of name ip virtuals)
timed_of name ip virtuals = by_place (position (has_name name) virtuals)
  where
    by_place : (o : Option ℕ) → Timed (option_and_then (λ at. source_at at (slice_get virtuals at) (address_of ip)) o)
    by_place None = tt
    by_place (Some at) = timed_at at (slice_get virtuals at) (address_of ip)

-- ---- each call

module _ (m : ℕ) where
  abbrev Live : Record → Type 0
  Live r = is_live m r ≡ true

  chosen_live : (s : Source) (member : Addr) → nat_lt 0 s.timeout ≡ true → Live (chosen s member m)
  chosen_live s member e = let some = ltb-true 0 s.timeout e in lt-ltb m (m + 1000 * s.timeout) (omega (arith, some))

  kept_live : (new : Record) (records : List Record) → Live new → All Live records → All Live (kept new records)
  kept_live new records n a =
      on_if (All Live) (list_any (is_of new.virtual_server new.ip) records) (all_with_first Live (is_of new.virtual_server new.ip) new records n a)
      (on_if (All Live) (nat_lt (length records) record_limit) (All-push Live records new a n) a)

  selected_live : (o : Option Addr) (s : Source) (store : StoreState) → Timed (Some s) → StoreIsLive m store → StoreIsLive m (keeps_selected o s m store)
  selected_live None s store t a = a
  selected_live (Some member) s store t a = record { rows = a.rows; records = kept_live (chosen s member m) store.records (chosen_live s member t) a.records }

  record_live : (name : List ℕ) (pool : PoolState) (s : Source) (o : Option Addr) (store : StoreState) → Timed (Some s) → StoreIsLive m store → StoreIsLive m (by_record name pool s o m store).after
  record_live name pool s (Some member) store t a = selected_live (Some member) s store t a
  record_live name pool s None store t a = let k = selected_live (selected_addr pool Any) s store t a in record { rows = k.rows; records = k.records }

  wanted_live : (name : List ℕ) (o : Option PoolState) (w : Wanted) (store : StoreState) → StoreIsLive m store → StoreIsLive m (calls.select_wanted name o w store).after
  wanted_live name None w store a = a
  wanted_live name (Some pool) w store a = record { rows = a.rows; records = a.records }

  any_live : (name : List ℕ) (o : Option PoolState) (s : Option Source) (store : StoreState) → Timed s → StoreIsLive m store → StoreIsLive m (select_any name o s m store).after
  any_live name o None store t a = wanted_live name o Any store a
  any_live name None (Some s) store t a = a
  any_live name (Some pool) (Some s) store t a = record_live name pool s (up_member pool (member_of s.virtual_server s.ip store.records)) store t a

  by_live : (name : List ℕ) (o : Option PoolState) (s : Option Source) (w : Option Wanted) (store : StoreState) → Timed s → StoreIsLive m store → StoreIsLive m (select_by name o s w m store).after
  by_live name o s None store t a = a
  by_live name o s (Some Any) store t a = any_live name o s store t a
  by_live name o s (Some (Wish addr)) store t a = wanted_live name o (Wish addr) store a
  by_live name o s (Some (Only addr)) store t a = wanted_live name o (Only addr) store a

  select_live : (words : List (List ℕ)) (store : StoreState) → StoreIsLive m store → StoreIsLive m (select words m store).after
  select_live [] store a = a
  select_live (v ∷ []) store a = a
  select_live (v ∷ (name ∷ [])) store a = a
  select_live (v ∷ (name ∷ (ip ∷ wanted))) store a = by_live name (pool_of name store.pools) (source_of v ip store.virtuals) (wanted_of wanted) store (timed_of v ip store.virtuals) a

  -- a call that changes nothing
  members_live : (words : List (List ℕ)) (store : StoreState) → StoreIsLive m store → StoreIsLive m (calls.active_members words store).after
  members_live [] store a = a
  members_live (name ∷ []) store a = by_pool (pool_of name store.pools)
    where
      by_pool : (o : Option PoolState) → StoreIsLive m (calls.active_members_of o store).after
      by_pool None = a
      by_pool (Some pool) = a
  members_live (name ∷ (other ∷ more)) store a = a

  clock_live : (words : List (List ℕ)) (store : StoreState) → StoreIsLive m store → StoreIsLive m (calls.clock words m store).after
  clock_live [] store a = a
  clock_live (word ∷ []) store a = on_if (λ (x : calls.Answered). StoreIsLive m x.after) (bytes_eq word (codes "seconds")) a a
  clock_live (word ∷ (other ∷ more)) store a = a

  reply_live : (c : Call) (words : List (List ℕ)) (store : StoreState) → StoreIsLive m store → StoreIsLive m (reply_by c words m store).after
  reply_live call.ActiveMembers words store a = members_live words store a
  reply_live call.Select words store a = select_live words store a
  reply_live call.Table words store a = record { rows = live_rows_stay store.table m words a.rows; records = a.records }
  reply_live call.Clock words store a = clock_live words store a
  reply_live call.Other words store a = a

pub live_store_stays : LiveStoreStays
live_store_stays store m [] a = a
live_store_stays store m (name ∷ words) a = reply_live m (call_of name) words store a
