-- What holds of the store and its calls.
use Rattle.std.specs.Prelude.{◌≡◌, ◌≤◌, ℕ, List, length}
use Rattle.std.specs.List.{AllPass}
use Rattle.persistence.specs.Records as records
use Rattle.session_table.specs.Rows as rows
use Rattle.session_table.specs.Tables.{TableState}
use Rattle.shared_store.specs.Calls.{live_reply}
use Rattle.shared_store.specs.Store.{StoreState, at_moment}

-- all rows and records are live at a moment
pub record StoreIsLive (moment : ℕ) (store : StoreState) : Type 0 where
  pub rows : AllPass (rows.is_live moment) store.table.rows
  pub records : AllPass (records.is_live moment) store.records

-- at each moment what has run out can be taken away
abbrev pub ExpiredIsLive : Type 0
ExpiredIsLive = (store : StoreState) (moment : ℕ) → StoreIsLive moment (at_moment moment store)

-- where all are live at a moment nothing has run out, and a call leaves live ones alone
abbrev pub LiveIsKept : Type 0
LiveIsKept = (store : StoreState) (moment : ℕ) → StoreIsLive moment store
    → at_moment moment store ≡ store

abbrev pub LiveStoreStays : Type 0
LiveStoreStays = (store : StoreState) (moment : ℕ) (call : List (List ℕ))
    → StoreIsLive moment store → StoreIsLive moment (live_reply store moment call).after

-- a session table has this limit, and no more rows
pub record FewRows (limit : ℕ) (table : TableState) : Type 0 where
  pub same : table.limit ≡ limit
  pub few : length table.rows ≤ limit

-- no call leaves more
abbrev pub RowsStayFew : Type 0
RowsStayFew = (limit : ℕ) (store : StoreState) (moment : ℕ) (call : List (List ℕ))
    → FewRows limit store.table → FewRows limit (live_reply store moment call).after.table
