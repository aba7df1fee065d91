-- The history of the shared calls: entry by entry, each with its moment and reply, and the store
-- that it leaves.
use Rattle.std.specs.Prelude.{◌≡◌, ℕ, Bool, true, false, List, [], ◌∷◌, ◌++◌, map}
use Rattle.std.specs.List.{flat_map}
use Rattle.px_bytes.specs.declared.fault.Reply.{Reply}
use Rattle.core_events.specs.declared.note.Note.{Note}
use Rattle.core_events.specs.declared.note.Note.TheVariants as note
use Rattle.core_events.specs.declared.event_kind.EventKind.{EventKind}
use Rattle.core_events.specs.declared.event_kind.EventKind.TheVariants.{Ticks, Turns, Marks}
use Rattle.shared_store.specs.Calls.{live_reply, reply}
use Rattle.shared_store.specs.Laws.{StoreIsLive}
use Rattle.shared_store.specs.Store.{StoreState, at_moment, marked, new_store}
use Rattle.shared_store.specs.declared.named.VirtualTime.{VirtualTime}
use Rattle.core_events.specs.Kinds.{kind_of}
use Rattle.record_model.specs.Past.{Past, shared}
use Rattle.run_config.specs.declared.config.Config.{Config}
use Rattle.run_config.specs.declared.config.Persist.{Persist}
use Rattle.run_config.specs.declared.config.Persist.TheVariants as persist
use Rattle.run_config.specs.declared.config.Virtual.{Virtual}

-- an entry: whose call it answers, at which moment, its words, and the reply
pub record Entry : Type 0 where
  pub conn : ℕ
  pub moment : ℕ
  pub call : List (List ℕ)
  pub reply : Reply

abbrev pub entry_in : Note → List Entry
entry_in (note.History c moment call r) =
    record { conn = c; moment = moment; call = call; reply = r } ∷ []
entry_in other = []

-- the entries that notes tell of, and their calls
abbrev pub entries_in : List Note → List Entry
entries_in notes = flat_map entry_in notes

abbrev pub called_in : List Note → List (List (List ℕ))
called_in notes = map (λ e. e.call) (entries_in notes)

-- all of a past, the oldest first
abbrev pub history_of : Past → List Entry
history_of [] = []
history_of (x ∷ past) = history_of past ++ entries_in x.group

-- ---- the store

-- what is left where these calls were answered one after another, each at its moment
abbrev pub answered : List Entry → StoreState → StoreState
answered [] store = store
answered (e ∷ es) store = answered es (live_reply store e.moment e.call).after

-- what is answered is kept; a Tick takes away what has run out at its moment
abbrev pub store_after : EventKind → List Note → StoreState → StoreState
store_after Turns group store = answered (entries_in group) store
store_after (Ticks moment) group store = at_moment moment store
store_after (Marks pool member up) group store = marked pool member up store
store_after other group store = store

-- whether a virtual server keeps the member that was chosen for a client's address, and how long
abbrev pub by_source : Persist → Bool
by_source persist.SourceAddr = true
by_source other = false

abbrev pub time_of : Virtual → VirtualTime
time_of v = record { name = v.name; by_source = by_source v.persist; timeout = v.persist_timeout }

abbrev pub times_of : Config → List VirtualTime
times_of C = map time_of C.virtuals

-- The store behind a past: its entries were answered, its members marked, and what ran out by its
-- Ticks was taken away, in this order, from the pools and times of the configuration on.
abbrev pub store_of : Config → Past → StoreState
store_of C [] = new_store C.pools (times_of C) C.rows
store_of C (x ∷ past) = store_after (kind_of x.event) x.group (store_of C past)

-- ---- one history

-- it was answered at the moment of the last Tick, by the store behind all entries, marks and Ticks
-- before it
pub record IsAnswer (C : Config) (past : Past) (e : Entry) : Type 0 where
  pub moment : e.moment ≡ (shared past).moment
  pub reply_is : e.reply ≡ (reply (store_of C past) e.moment e.call).reply

-- an entry stands in the group of a Turn, which has one at most
abbrev pub AreAnswers : Config → Past → EventKind → List Entry → Type 0
AreAnswers C past Turns (e ∷ []) = IsAnswer C past e
AreAnswers C past v [] = Unit {0}
AreAnswers C past v es = ⊥

-- the entries of a past are one history of a sequential store
abbrev pub IsHistory : Config → Past → Type 0
IsHistory C [] = Unit {0}
IsHistory C (x ∷ past) =
    IsHistory C past × AreAnswers C past (kind_of x.event) (entries_in x.group)

-- all that the store behind a history holds is live at the moment of the last Tick
abbrev pub HistoryIsLive : Type 0
HistoryIsLive = (C : Config) (past : Past) → IsHistory C past
    → StoreIsLive (shared past).moment (store_of C past)
