-- The store behind a history holds live rows and records alone.
use Rattle.std.proofs.Common.{ℕ, List, [], ◌∷◌, sym, subst}
use Rattle.core_events.specs.declared.note.Note.{Note}
use Rattle.core_events.specs.declared.event_kind.EventKind.{EventKind}
use Rattle.core_events.specs.declared.event_kind.EventKind.TheVariants.{Accepts, Comes, Ticks}
use Rattle.core_events.specs.declared.event_kind.EventKind.TheVariants.{Turns, Runs, Marks}
use Rattle.core_events.specs.Kinds.{kind_of}
use Rattle.shared_store.proofs.Living.{expired_is_live, live_store_stays, new_is_live}
use Rattle.shared_store.specs.Calls.{live_reply}
use Rattle.shared_store.specs.Laws.{StoreIsLive}
use Rattle.record_model.specs.History.{AreAnswers, Entry, HistoryIsLive, answered, entries_in, store_after, store_of, times_of}
use Rattle.record_model.specs.Past.{Past, moment_after, shared}
use Rattle.run_config.specs.declared.config.Config.{Config}

module _ (C : Config) (past : Past) (live : StoreIsLive (shared past).moment (store_of C past)) where
  turn_lives : (es : List Entry) → AreAnswers C past Turns es → StoreIsLive (shared past).moment (answered es (store_of C past))
  turn_lives [] a = live
  turn_lives (e ∷ []) a =
      let L : ℕ → Type 0 = λ m. StoreIsLive (shared past).moment (live_reply (store_of C past) m e.call).after in
      subst L (sym a.moment) (live_store_stays (store_of C past) (shared past).moment e.call live)
  turn_lives (e ∷ (f ∷ es)) a = absurd a

  lives_on : (v : EventKind) (group : List Note) → AreAnswers C past v (entries_in group) → StoreIsLive (moment_after v (shared past).moment) (store_after v group (store_of C past))
  lives_on Turns group a = turn_lives (entries_in group) a
  lives_on (Ticks moment) group a = expired_is_live (store_of C past) moment
  lives_on (Marks pool member up) group a = record { rows = live.rows; records = live.records }
  lives_on (Accepts c vs from) group a = live
  lives_on (Comes c input) group a = live
  lives_on Runs group a = live

pub history_is_live : HistoryIsLive
history_is_live C [] h = new_is_live 0 C.pools (times_of C) C.rows
history_is_live C (x ∷ past) h = lives_on C past (history_is_live C past h.0) (kind_of x.event) x.group h.1
