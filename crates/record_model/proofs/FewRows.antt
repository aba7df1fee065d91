-- The session table behind a past never has more rows than its limit.
use Rattle.std.proofs.Common.{◌≡◌, ℕ, List, [], ◌∷◌, length, refl, arith}
use Rattle.core_events.specs.Kinds.{kind_of}
use Rattle.core_events.specs.declared.event_kind.EventKind.{EventKind}
use Rattle.core_events.specs.declared.event_kind.EventKind.TheVariants.{Accepts, Comes, Ticks, Turns, Runs, Marks}
use Rattle.core_events.specs.declared.note.Note.{Note}
use Rattle.shared_store.proofs.FewRows.{left_few, rows_stay_few}
use Rattle.shared_store.specs.Calls.{live_reply}
use Rattle.shared_store.specs.Laws.{FewRows}
use Rattle.shared_store.specs.Store.{StoreState}
use Rattle.record_model.specs.History.{Entry, answered, entries_in, store_after, store_of}
use Rattle.record_model.specs.Laws.{RowsAreFew}
use Rattle.record_model.specs.Past.{Past}
use Rattle.run_config.specs.declared.config.Config.{Config}

answered_few : (limit : ℕ) (es : List Entry) (store : StoreState) → FewRows limit store.table → FewRows limit (answered es store).table
answered_few limit [] store k = k
answered_few limit (e ∷ es) store k = answered_few limit es (live_reply store e.moment e.call).after (rows_stay_few limit store e.moment e.call k)

few_on : (limit : ℕ) (v : EventKind) (group : List Note) (store : StoreState) → FewRows limit store.table → FewRows limit (store_after v group store).table
few_on limit Turns group store k = answered_few limit (entries_in group) store k
few_on limit (Ticks moment) group store k = left_few limit moment store k
few_on limit (Marks pool member up) group store k = k
few_on limit (Accepts c vs from) group store k = k
few_on limit (Comes c input) group store k = k
few_on limit Runs group store k = k

few_behind : (C : Config) (past : Past) → FewRows C.rows (store_of C past).table
few_behind C [] = record { same = refl; few = omega arith }
few_behind C (x ∷ past) = few_on C.rows (kind_of x.event) x.group (store_of C past) (few_behind C past)

pub rows_are_few : RowsAreFew
rows_are_few C past = (few_behind C past).few
