-- No call leaves more rows than the session table's limit.
use Rattle.std.proofs.Common.{◌≡◌, ℕ, ◌≤◌, Bool, List, [], ◌∷◌, length, Option, Some, None, codes, arith}
use Rattle.std.specs.Str.{bytes_eq}
use Rattle.px_bytes.proofs.Tests.{on_if}
use Rattle.px_bytes.specs.declared.addr.Addr.{Addr}
use Rattle.persistence.specs.Records.{member_of}
use Rattle.pools.specs.Pools.{PoolState}
use Rattle.pools.specs.declared.member.Wanted.{Wanted}
use Rattle.pools.specs.declared.member.Wanted.TheVariants.{Any, Wish, Only}
use Rattle.session_table.proofs.FewRows as tables
use Rattle.session_table.specs.Rows.{is_live}
use Rattle.shared_store.specs.Calls.{by_record, call_of, keeps_selected, live_reply, reply_by, select, select_any, select_by, selected_addr, up_member, wanted_of}
use Rattle.shared_store.specs.Calls as calls
use Rattle.shared_store.specs.Laws.{FewRows, RowsStayFew}
use Rattle.shared_store.specs.Sources.{source_of}
use Rattle.shared_store.specs.Store.{StoreState, at_moment, pool_of}
use Rattle.shared_store.specs.declared.source.Source.{Source}
use Rattle.shared_store.specs.declared.words.Call.{Call}
use Rattle.shared_store.specs.declared.words.Call.TheVariants as call

module _ (limit moment : ℕ) where
  abbrev Few : StoreState → Type 0
  Few store = FewRows limit store.table

  chosen_few : (o : Option Addr) (s : Source) (store : StoreState) → Few store → Few (keeps_selected o s moment store)
  chosen_few None s store k = k
  chosen_few (Some member) s store k = k

  record_few : (name : List ℕ) (pool : PoolState) (s : Source) (o : Option Addr) (store : StoreState) → Few store → Few (by_record name pool s o moment store).after
  record_few name pool s (Some member) store k = k
  record_few name pool s None store k = chosen_few (selected_addr pool Any) s store k

  wanted_few : (name : List ℕ) (o : Option PoolState) (w : Wanted) (store : StoreState) → Few store → Few (calls.select_wanted name o w store).after
  wanted_few name None w store k = k
  wanted_few name (Some pool) w store k = k

  any_few : (name : List ℕ) (o : Option PoolState) (s : Option Source) (store : StoreState) → Few store → Few (select_any name o s moment store).after
  any_few name o None store k = wanted_few name o Any store k
  any_few name None (Some s) store k = k
  any_few name (Some pool) (Some s) store k = record_few name pool s (up_member pool (member_of s.virtual_server s.ip store.records)) store k

  by_few : (name : List ℕ) (o : Option PoolState) (s : Option Source) (w : Option Wanted) (store : StoreState) → Few store → Few (select_by name o s w moment store).after
  by_few name o s None store k = k
  by_few name o s (Some Any) store k = any_few name o s store k
  by_few name o s (Some (Wish addr)) store k = wanted_few name o (Wish addr) store k
  by_few name o s (Some (Only addr)) store k = wanted_few name o (Only addr) store k

  select_few : (words : List (List ℕ)) (store : StoreState) → Few store → Few (select words moment store).after
  select_few [] store k = k
  select_few (v ∷ []) store k = k
  select_few (v ∷ (name ∷ [])) store k = k
  select_few (v ∷ (name ∷ (ip ∷ wanted))) store k = by_few name (pool_of name store.pools) (source_of v ip store.virtuals) (wanted_of wanted) store k

  members_few : (words : List (List ℕ)) (store : StoreState) → Few store → Few (calls.active_members words store).after
  members_few [] store k = k
  members_few (name ∷ []) store k = by_pool (pool_of name store.pools)
    where
      by_pool : (o : Option PoolState) → Few (calls.active_members_of o store).after
      by_pool None = k
      by_pool (Some pool) = k
  members_few (name ∷ (other ∷ more)) store k = k

  clock_few : (words : List (List ℕ)) (store : StoreState) → Few store → Few (calls.clock words moment store).after
  clock_few [] store k = k
  clock_few (word ∷ []) store k = on_if (λ (x : calls.Answered). Few x.after) (bytes_eq word (codes "seconds")) k k
  clock_few (word ∷ (other ∷ more)) store k = k

  table_few : (words : List (List ℕ)) (store : StoreState) → Few store → Few (calls.table words moment store).after
  table_few words store k =
      let few : length store.table.rows ≤ store.table.limit = (let is = k.same in let most = k.few in omega (arith, is, most)) in
      let less = tables.rows_stay_few store.table moment words few in
      record { same = k.same; few = (let is = k.same in omega (arith, is, less)) }

  reply_few : (c : Call) (words : List (List ℕ)) (store : StoreState) → Few store → Few (reply_by c words moment store).after
  reply_few call.ActiveMembers words store k = members_few words store k
  reply_few call.Select words store k = select_few words store k
  reply_few call.Table words store k = table_few words store k
  reply_few call.Clock words store k = clock_few words store k
  reply_few call.Other words store k = k

  call_few : (words : List (List ℕ)) (store : StoreState) → Few store → Few (live_reply store moment words).after
  call_few [] store k = k
  call_few (name ∷ words) store k = reply_few (call_of name) words store k

pub rows_stay_few : RowsStayFew
rows_stay_few limit store moment call k = call_few limit moment call store k

-- nor does what runs out
pub left_few : (limit moment : ℕ) (store : StoreState) → FewRows limit store.table → FewRows limit (at_moment moment store).table
left_few limit moment store k = record { same = k.same; few = (let less = tables.few_left (is_live moment) store.table.rows in let few = k.few in omega (arith, less, few)) }
