-- The answers of shared calls: one history of the store, and what a connection hears of it.
use Rattle.std.proofs.Common.{◌≡◌, refl, sym, ap, subst, ◌∙◌, ◌⊎◌, inl, inr, ℕ, List, [], ◌∷◌, ◌++◌, map, Bool, true, false, nat_eq, if◌then◌else◌}
use Rattle.std.specs.Bool.{MatchBool}
use Rattle.std.proofs.lemmas.List.{map-append}
use Rattle.px_bytes.specs.declared.addr.Side.TheVariants.{Client, Server}
use Rattle.px_bytes.specs.declared.fault.Reply.{Reply}
use Rattle.core_events.specs.declared.note.Cause.TheVariants.{Memory}
use Rattle.core_events.specs.declared.note.Note.{Note}
use Rattle.core_events.specs.declared.note.Note.TheVariants.{Finish}
use Rattle.core_events.specs.declared.event_kind.EventKind.{EventKind}
use Rattle.core_events.specs.declared.event_kind.EventKind.TheVariants.{Accepts, Comes, Ticks}
use Rattle.core_events.specs.declared.event_kind.EventKind.TheVariants.{Turns, Runs, Marks}
use Rattle.core_events.specs.declared.input.Input.{Input}
use Rattle.core_events.specs.declared.input.Input.TheVariants.{Bytes, Ends, Resets, Connects, Takes}
use Rattle.conn_trace.specs.Heard.{Heard, accepts, marks, event_marks, hears}
use Rattle.conn_trace.specs.Item.{Item}
use Rattle.conn_trace.specs.Tellings.{own, replies_told, notes_about}
use Rattle.core_events.specs.declared.edges.Edges.{Edges}
use Rattle.core_events.specs.Edges.{edges_noted}
use Rattle.conn_trace.specs.Heard.{edges_met, taken}
use Rattle.conn_trace.specs.Trace.{next_item}
use Rattle.conn.specs.Settling.{closing, is_over, settling_at, took_all, given_up_at}
use Rattle.shared_store.specs.Calls.{reply}
use Rattle.record_model.specs.History.{entries_in, store_of, IsAnswer, AreAnswers, IsHistory}
use Rattle.proxy_core.specs.Moves.{MovesFailed, MovesLacks, MovesOn, MovesCome, MovesRing, MovesBy, MovesQueue, TurnNotes, RunsOn, RunsOut, RunsFailed, Leads, told_last}
use Rattle.core_events.specs.Kinds.{kind_of}
use Rattle.record_model.specs.Past.{Past, heard, shared}
use Rattle.proxy_core.specs.Scheduler.{State, untaken_all}
use Rattle.record_model.specs.Setup.{setup_of, stand_of}
use Rattle.proxy_core.specs.declared.call.Asked.{Asked}
use Rattle.run_config.specs.declared.config.Config.{Config}
use Rattle.proxy_core.proofs.Besides.{replies_are}
use Rattle.proxy_core.proofs.GroupNotes.{entries_on, due_entries, closing_due, settling_due, whole_notes}
use Rattle.proxy_core.proofs.RunOn.{last_due}
use Rattle.conn.specs.Servers.{run_notes}
use Rattle.conn_trace.specs.Gates.{Counts, TakenCounts}
use Rattle.proxy_core.proofs.RunNotes.{entries_runs, of_runs}

-- ---- one history

none_answered : (C : Config) (past : Past) (v : EventKind) → AreAnswers C past v []
none_answered C past (Accepts c vs from) = tt
none_answered C past (Comes c input) = tt
none_answered C past (Ticks moment) = tt
none_answered C past Turns = tt
none_answered C past Runs = tt
none_answered C past (Marks pool member up) = tt

no_entries : (C : Config) (past : Past) (v : EventKind) (group notes : List Note) → group ≡ notes → entries_in notes ≡ [] → AreAnswers C past v (entries_in group)
no_entries C past v group notes e none = let P : List _ → Type 0 = λ es. AreAnswers C past v es in subst P (sym (ap entries_in e ∙ none)) (none_answered C past v)

run_entries : (c : ℕ) (sent : Counts) (took : TakenCounts) (more : List Item) (behind : List Note) → entries_in behind ≡ [] → entries_in (run_notes c sent took more ++ behind) ≡ []
run_entries c sent took more behind none = entries_on (run_notes c sent took more) behind ∙ ap (λ es. es ++ entries_in behind) (entries_runs c (run_notes c sent took more) (of_runs c sent took more)) ∙ none

ring_answers : (C : Config) (past : Past) (ring : List ℕ) (group : List Note) (old new : State) → MovesRing C past ring group old new → AreAnswers C past Runs (entries_in group)
ring_answers C past [] group old new m = no_entries C past Runs group [] m.0 refl
ring_answers C past (c ∷ rest) group old new m = by_failed (heard c past).failed m
  where
    by_failed : (b : Bool) → MatchBool b (RunsFailed (heard c past) c rest group old new) (RunsOn C (heard c past) (shared past).moment c rest group old new ⊎ RunsOut C (heard c past) c rest group old new) → AreAnswers C past Runs (entries_in group)
    by_failed true k =
        let e = (heard c past).edges in
        let d = untaken_all (heard c past) (old.places c) in
        no_entries C past Runs group (closing c e d) k.notes (due_entries c (closing c e d) (closing_due c e d))
    by_failed false (inl k) =
        let h = heard c past in
        let sent = (stand_of C h (old.places c)).sent in
        let notes = run_notes c sent (taken h) k.more in
        let e = edges_noted notes h.edges in
        let d = untaken_all h (old.places c ++ k.more) in
        let m = (shared past).moment in
        let behind = told_last k.turn (setup_of C h) (taken h) k.at c e d m in
        no_entries C past Runs group (notes ++ behind) (whole_notes k.turn c m group k.told notes _ k.notes k.items.noted) (run_entries c sent (taken h) k.more behind (due_entries c behind (last_due k.turn (setup_of C h) (taken h) k.at c e d m)))
    by_failed false (inr k) =
        let h = heard c past in
        let sent = (stand_of C h (old.places c)).sent in
        let notes = run_notes c sent (taken h) k.more in
        let e = edges_noted notes h.edges in
        let d = untaken_all h (old.places c ++ k.more) in
        no_entries C past Runs group (notes ++ Finish c Memory ∷ closing c e d) k.notes (run_entries c sent (taken h) k.more (Finish c Memory ∷ closing c e d) (due_entries c (closing c e d) (closing_due c e d)))

input_answers : (C : Config) (past : Past) (c : ℕ) (input : Input) (group : List Note) (old new : State) → MovesCome C input (heard c past) (hears c (heard c past) (Comes c input) group) c group old new → AreAnswers C past (Comes c input) (entries_in group)
input_answers C past c input group old new m = by_failed (heard c past).failed m
  where
    now : Heard
    now = hears c (heard c past) (Comes c input) group

    e : Edges
    e = edges_met input (heard c past).edges

    by_failed : (b : Bool) → MatchBool b (MovesFailed c group old new) (MovesOn C now c e group old new ⊎ MovesLacks input c group old new) → AreAnswers C past (Comes c input) (entries_in group)
    by_failed true k = no_entries C past (Comes c input) group [] k.notes refl
    by_failed false (inl k) =
        let at = stand_of C now (old.places c) in
        let d = untaken_all now (old.places c) in
        no_entries C past (Comes c input) group (settling_at (setup_of C now) (taken now) at c e d) k.notes (due_entries c (settling_at (setup_of C now) (taken now) at c e d) (settling_due (is_over (next_item (setup_of C now) at)) (given_up_at at) c e (took_all at (taken now) Server) (took_all at (taken now) Client) d))
    by_failed false (inr k) = no_entries C past (Comes c input) group (Finish c Memory ∷ []) k.notes refl

one_answer : (C : Config) (past : Past) (a : Asked) (r : Reply) → r ≡ (reply (store_of C past) (shared past).moment a.call).reply → IsAnswer C past (record { conn = a.conn; moment = (shared past).moment; call = a.call; reply = r })
one_answer C past a r e = record { moment = refl; reply_is = e }

turn_answers : (C : Config) (past : Past) (a : Asked) (r : Reply) (group : List Note) → r ≡ (reply (store_of C past) (shared past).moment a.call).reply → TurnNotes a (shared past).moment r group → AreAnswers C past Turns (entries_in group)
turn_answers C past a r group e (inl k) = let P : List Note → Type 0 = λ g. AreAnswers C past Turns (entries_in g) in subst P (sym k) (one_answer C past a r e)
turn_answers C past a r group e (inr (inl k)) = let P : List Note → Type 0 = λ g. AreAnswers C past Turns (entries_in g) in subst P (sym k) (one_answer C past a r e)
turn_answers C past a r group e (inr (inr k)) = no_entries C past Turns group (Finish a.conn Memory ∷ []) k refl

queue_answers : (C : Config) (past : Past) (queue : List Asked) (group : List Note) (old new : State) → MovesQueue (store_of C past) (shared past).moment queue group old new → AreAnswers C past Turns (entries_in group)
queue_answers C past [] group old new m = no_entries C past Turns group [] m.0 refl
queue_answers C past (a ∷ rest) group old new m = turn_answers C past a (reply (store_of C past) (shared past).moment a.call).reply group refl m.notes

accept_answers : (C : Config) (past : Past) (c : ℕ) (v : EventKind) (group : List Note) → (group ≡ []) ⊎ (group ≡ Finish c Memory ∷ []) → AreAnswers C past v (entries_in group)
accept_answers C past c v group (inl k) = no_entries C past v group [] k refl
accept_answers C past c v group (inr k) = no_entries C past v group (Finish c Memory ∷ []) k refl

pub are_answers : (C : Config) (past : Past) (v : EventKind) (group : List Note) (old new : State) → MovesBy C past v group old new → AreAnswers C past v (entries_in group)
are_answers C past (Accepts c vs from) group old new m = accept_answers C past c (Accepts c vs from) group m.notes
are_answers C past (Comes c input) group old new m = input_answers C past c input group old new m
are_answers C past (Ticks moment) group old new m = no_entries C past (Ticks moment) group [] m.notes refl
are_answers C past Turns group old new m = queue_answers C past old.queue group old new m
are_answers C past Runs group old new m = ring_answers C past old.ring group old new m
are_answers C past (Marks pool member up) group old new m = no_entries C past (Marks pool member up) group [] m.0 refl

pub one_history : (C : Config) (past : Past) (s : State) → Leads C past s → IsHistory C past
one_history C [] s leads = tt
one_history C (x ∷ past) s (before, leads, accepted, moves) = (one_history C past before leads, are_answers C past (kind_of x.event) x.group before s moves)

-- ---- what a connection heard

abbrev Recorded : Heard → Type 0
Recorded h = h.replies ≡ map (λ e. e.reply) (entries_in h.notes)

marks_recorded : (c : ℕ) (v : EventKind) (h : Heard) → Recorded h → Recorded (event_marks c v h)
marks_recorded c (Accepts d vs from) h e = by_test (nat_eq d c)
  where
    by_test : (b : Bool) → Recorded (if b then accepts vs from h else h)
    by_test true = e
    by_test false = e
marks_recorded c (Comes d input) h e = by_test (nat_eq d c) input
  where
    by_test : (b : Bool) (i : Input) → Recorded (if b then marks i h else h)
    by_test false i = e
    by_test true (Bytes side bytes) = e
    by_test true (Ends side) = e
    by_test true (Resets Client) = e
    by_test true (Resets Server) = e
    by_test true (Connects made) = e
    by_test true (Takes Client n) = e
    by_test true (Takes Server n) = e
marks_recorded c (Ticks moment) h e = e
marks_recorded c Turns h e = e
marks_recorded c Runs h e = e
marks_recorded c (Marks pool member up) h e = e

-- the answers that were recorded are the replies of its entries
pub heard_recorded : (c : ℕ) (past : Past) → Recorded (heard c past)
heard_recorded c [] = refl
heard_recorded c (x ∷ past) =
    let k = event_marks c (kind_of x.event) (heard c past) in
    let mine = own c x.group in
    ap (λ rs. rs ++ replies_told (notes_about c x.group)) (marks_recorded c (kind_of x.event) (heard c past) (heard_recorded c past))
    ∙ ap (λ rs. map (λ e. e.reply) (entries_in k.notes) ++ rs) (replies_are mine)
    ∙ sym (map-append (λ e. e.reply) (entries_in k.notes) (entries_in mine)) ∙ ap (map (λ e. e.reply)) (sym (entries_on k.notes mine))
