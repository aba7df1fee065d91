-- A Turn: from what changed in a core to what the core stands for.
use Rattle.std.proofs.Common.{◌≡◌, inl, inr, refl, sym, ap, subst, ◌∙◌, ℕ, List, [], ◌∷◌, Bool, true, false, Option, Some, None, nat_eq}
use Rattle.std.specs.Prelude.{slice_get, option_and_then}
use Rattle.px_bytes.specs.declared.fault.Reply.{Reply}
use Rattle.core_events.specs.declared.edges.Edges.{Edges}
use Rattle.core_events.specs.declared.note.Note.{Note}
use Rattle.conn_trace.specs.Gates.{TakenCounts}
use Rattle.core_events.specs.declared.event_kind.EventKind.TheVariants.{Turns}
use Rattle.conn_trace.specs.Heard.{hears, taken}
use Rattle.conn_trace.specs.Setup.{Setup}
use Rattle.conn_trace.specs.State.{TraceState}
use Rattle.conn.specs.declared.connection.Conn.{Conn}
use Rattle.shared_store.proofs.Living.{live_is_kept}
use Rattle.shared_store.specs.Calls.{live_reply, reply}
use Rattle.shared_store.specs.Store.{StoreState}
use Rattle.record_model.proofs.LiveHistory.{history_is_live}
use Rattle.proxy_core.specs.Calls.{asker, is_any, sleepers_of}
use Rattle.proxy_core.specs.Changes as code
use Rattle.record_model.specs.History.{store_of}
use Rattle.proxy_core.specs.Live.{LiveAnswers, asks_in, edges_in}
use Rattle.proxy_core.specs.Moves.{MovesQueue, MovesTurn, MovesBy, TurnNotes}
use Rattle.proxy_core.specs.Others.{about}
use Rattle.record_model.specs.Past.{Past, heard, without_all, shared}
use Rattle.proxy_core.specs.Ready.{numbers, is_in, with_ready}
use Rattle.proxy_core.specs.Refusals.{live_at}
use Rattle.proxy_core.specs.Represents.{AgreesAt, ConnectionContinues, Continues, Represents}
use Rattle.proxy_core.specs.Scheduler.{State, Seen, seen, seen_after}
use Rattle.proxy_core.specs.Serving.{Serves}
use Rattle.record_model.specs.Setup.{statics_of, setup_of, stand_of}
use Rattle.proxy_core.specs.Sound.{Served, Spot}
use Rattle.proxy_core.specs.declared.call.Asked.{Asked}
use Rattle.run_config.specs.declared.config.Config.{Config}
use Rattle.proxy_core.specs.declared.core_state.Core.{Core}
use Rattle.proxy_core.specs.declared.live.Live.{Live}
use Rattle.proxy_core.proofs.Answering.{one_history}
use Rattle.proxy_core.proofs.Agreeing.{After, assemble, its, distinct_live, one_changed, is_live_over, serves_still}
use Rattle.proxy_core.proofs.ComesAgrees.{stood_of}
use Rattle.proxy_core.proofs.EdgeNotes.{edges_told}
use Rattle.proxy_core.proofs.Entries.{open_front, open_with}
use Rattle.proxy_core.proofs.Places.{number_at, live_there}
use Rattle.proxy_core.proofs.Resting.{none_turns}
use Rattle.proxy_core.proofs.Standing.{is_served}
use Rattle.proxy_core.proofs.TurnOn.{by_answer}

-- the front's call waits alone, on a live connection that found its memory
record AtCall (failed live : Bool) (more : List (List (List ℕ))) : Type 0 where
  found : failed ≡ false
  is_live : live ≡ true
  one : more ≡ []

spot_call : (failed live : Bool) (ready : List ℕ) (call : List (List ℕ)) (more : List (List (List ℕ))) (g : Setup) (took : TakenCounts) (at : TraceState) (e : Edges) → Spot failed live ready (call ∷ more) g took at e → AtCall failed live more
spot_call false true [] call [] g took at e k = record { found = refl; is_live = refl; one = refl }
spot_call false true [] call (d ∷ more) g took at e k = absurd k
spot_call false true (n ∷ []) call more g took at e k = absurd k
spot_call false true (n ∷ (m ∷ rest)) call more g took at e k = absurd k
spot_call false false [] call more g took at e k = absurd k
spot_call false false (n ∷ rest) call more g took at e k = absurd k
spot_call true true [] call more g took at e k = absurd k
spot_call true true (n ∷ []) call more g took at e k = absurd k
spot_call true true (n ∷ (m ∷ rest)) call more g took at e k = absurd k
spot_call true false [] call more g took at e k = absurd k
spot_call true false (n ∷ rest) call more g took at e k = absurd k

front_call : (C : Config) (past : Past) (a : Asked) (rest : List Asked) (s : State) → s.queue ≡ a ∷ rest → Served C a.conn (seen past s a.conn) → AtCall (heard a.conn past).failed (seen past s a.conn).live (open_with a.conn rest (s.asleep a.conn))
front_call C past a rest s e v =
    let z = seen past s a.conn in
    let asked : z.asked ≡ a.call ∷ open_with a.conn rest (s.asleep a.conn) = open_front a rest s e in
    let S : List (List (List ℕ)) → Type 0 = λ x. Spot z.heard.failed z.live z.ready x (setup_of C z.heard) (taken z.heard) (stand_of C z.heard z.place) z.heard.edges in
    spot_call z.heard.failed z.live z.ready a.call (open_with a.conn rest (s.asleep a.conn)) (setup_of C z.heard) (taken z.heard) (stand_of C z.heard z.place) z.heard.edges (subst S asked v.spot)

-- a live one that waits goes on with its trace
going : (C : Config) (z : Seen) (o : Option Conn) → z.heard.failed ≡ false → ConnectionContinues C z o → (conn : Conn) × (o ≡ Some conn) × Continues C z conn
going C z None found k = absurd (let x : true ≡ false = sym k.failed ∙ found in cc)
going C z (Some conn) found (inl k) = (conn, refl, k)
going C z (Some conn) found (inr k) = absurd (let x : true ≡ false = sym k.failed ∙ found in cc)

-- no one is found at its number, who is live
not_found : (C : Config) (z : Seen) (c : ℕ) (core : Core) → AgreesAt C z (live_at core.live.items c) → live_at core.live.items c ≡ None → z.live ≡ true → ⊥
not_found C z c core k e live = let P : Option Live → Type 0 = λ o. AgreesAt C z o in let n : z.live ≡ false = subst P e k in let x : true ≡ false = sym live ∙ n in cc

turns_at : (C : Config) (past : Past) (s : State) (old new : Core) (a : Asked) (rest : List Asked) (group : List Note) → Represents C past s old → s.queue ≡ a ∷ rest → code.TurnsAt old new a rest group → After C past s Turns group new
turns_at C past s old new a rest group r front_is k =
    let c = a.conn in
    let z = seen past s c in
    let h = heard c past in
    let there = live_there c k.at old.live.items k.before k.place k.found in
    let i = its C z (live_at old.live.items c) k.before (r.agrees.each c) there in
    let v = (is_served C c z (λ u. let n : z.live ≡ false = ap (λ y. y.live) u in let m : true ≡ false = sym i.live ∙ n in cc) (r.sound.each c)).1 in
    let asked : z.asked ≡ a.call ∷ open_with c rest (s.asleep c) = open_front a rest s front_is in
    let call = front_call C past a rest s front_is v in
    let asks : asks_in k.before.conn ≡ true = i.asking ∙ ap is_any asked in
    let go = going C z k.before.conn call.found i.continues in
    let L : Option Conn → Type 0 = λ o. LiveAnswers old.store new.store old.moment a o k.after.conn group in
    let asks' : asks_in (Some go.0) ≡ true = ap asks_in (sym go.1) ∙ asks in
    let w = by_answer C past s a (with_ready s.ring c) rest (stood_of C past s c v) old.store new.store old.moment go.0 go.2 asks' group k.after.conn (subst L go.1 k.answers) in
    let answer : StoreState → ℕ → Reply = λ x m. (live_reply x m a.call).reply in
    let same_reply : answer old.store old.moment ≡ (reply (store_of C past) (shared past).moment a.call).reply =
    ap (λ x. answer x old.moment) r.agrees.store_is ∙ ap (λ x. answer (store_of C past) x.moment) r.agrees.shared
    ∙ ap (λ x. answer x (shared past).moment) (sym (live_is_kept (store_of C past) (shared past).moment (history_is_live C past (one_history C past s r.sound.leads)))) in
    let next : State = record s { ring = with_ready s.ring c; queue = rest } in
    let h' = hears c h Turns group in
    let moment_is : old.moment ≡ (shared past).moment = ap (λ x. x.moment) r.agrees.shared in
    let N : ℕ → Type 0 = λ m. TurnNotes a m (live_reply old.store old.moment a.call).reply group in
    let R : Reply → Type 0 = λ x. TurnNotes a (shared past).moment x group in
    let moved : MovesTurn (store_of C past) (shared past).moment a rest group s next = record { notes = subst R same_reply (subst N moment_is w.noted.notes); state = refl } in
    let M : List Asked → Type 0 = λ q. MovesQueue (store_of C past) (shared past).moment q group s next in
    let moves : MovesBy C past Turns group s next = subst M (sym front_is) moved in
    let number = number_at c k.at old.live.items k.before k.place k.found in
    let o = one_changed c false old.live.items new.live.items k.at k.before k.after (distinct_live C past s old r) k.found number (k.same.number ∙ number) k.live in
    let z' = seen_after past Turns group next c in
    let live : z'.live ≡ true = ap (λ x. is_in (without_all x (shared past).live) c) w.noted.ended ∙ i.live in
    let still : Serves C (statics_of C) k.after.vs (setup_of C z'.heard) = serves_still C k.before k.after (setup_of C h) (setup_of C h') (record { number = k.same.number; vs = k.same.vs }) refl i.serves in
    let ends_are : h'.edges ≡ edges_in k.after = edges_told c h Turns group w.noted.about ∙ w.noted.edges h.edges ∙ i.edges ∙ sym k.same.edges in
    let at : about Turns s ≡ c = ap asker front_is in
    let A : ℕ → Type 0 = λ n. AgreesAt C (seen_after past Turns group next n) (live_at new.live.items n) in
    let B : List (List (List ℕ)) → Type 0 = λ x. asks_in k.after.conn ≡ is_any x in
    assemble C past s next Turns group old new r moves k.keeps k.last k.moment
    (o.numbers_are ∙ sym (ap (λ x. without_all x (numbers old.live.items)) w.noted.ended))
    (k.ring ∙ ap (λ x. with_ready x c) r.agrees.ring) k.queue (λ q. ap (sleepers_of q) k.asleep ∙ r.agrees.asleep q) w.store_is
    (λ q e. o.others q (ap (λ n. nat_eq n q) (sym at) ∙ e))
    (subst A (sym at) (is_live_over c false old.live.items new.live.items k.after z' C o live (λ e. w.continues) (λ e. still) (λ e. ends_are) (λ e. subst B (sym call.one) w.awake)))

pub turns : (C : Config) (past : Past) (s : State) (old new : Core) (queue : List Asked) (group : List Note) → Represents C past s old → s.queue ≡ queue → code.TurnsQueue old new queue group → After C past s Turns group new
turns C past s old new [] group r e k = none_turns C past s old new group r e k
turns C past s old new (a ∷ rest) group r e (inr k) = turns_at C past s old new a rest group r e k
turns C past s old new (a ∷ rest) group r e (inl k) =
    let z = seen past s a.conn in
    let asked : z.asked ≡ a.call ∷ open_with a.conn rest (s.asleep a.conn) = open_front a rest s e in
    let v = (is_served C a.conn z (λ u. let n = sym asked ∙ ap (λ y. y.asked) u in cc) (r.sound.each a.conn)).1 in
    let call = front_call C past a rest s e v in
    absurd (not_found C z a.conn old (r.agrees.each a.conn) (ap (option_and_then (λ at. slice_get old.live.items at)) k) call.is_live)
