-- A Run: from what changed in a core to what the core stands for.
use Rattle.std.proofs.Common.{◌≡◌, refl, sym, ap, subst, ◌∙◌, ℕ, ◌+◌, ◌<◌, List, [], ◌∷◌, ◌++◌, length, Bool, true, false, not, nat_eq, if◌then◌else◌, remove, set}
use Rattle.tcl_vars.specs.Scopes.{Level}
use Rattle.core_events.specs.declared.edges.Edges.{Edges}
use Rattle.core_events.specs.declared.note.Note.{Note}
use Rattle.core_events.specs.Edges.{edges_noted}
use Rattle.conn_trace.specs.Gates.{TakenCounts}
use Rattle.core_events.specs.declared.event_kind.EventKind.TheVariants.{Runs}
use Rattle.conn_trace.specs.Heard.{taken}
use Rattle.conn_trace.specs.Setup.{Setup}
use Rattle.conn_trace.specs.State.{TraceState}
use Rattle.conn_trace.proofs.Hearing.{others_not_heard}
use Rattle.conn.specs.RunsItems.{ends}
use Rattle.proxy_core.specs.Changes as code
use Rattle.proxy_core.specs.Calls.{queue_behind, sleep_note, sleepers_behind, sleepers_of}
use Rattle.proxy_core.specs.Live.{edges_in}
use Rattle.proxy_core.specs.Moves.{MovesRing}
use Rattle.record_model.specs.Past.{Past, ended_in, shared, without_all}
use Rattle.proxy_core.specs.Ready.{numbers}
use Rattle.proxy_core.specs.Refusals.{live_at}
use Rattle.proxy_core.specs.Represents.{AgreesAt, Represents}
use Rattle.proxy_core.specs.Scheduler.{State, entries, open_calls, Seen, seen, seen_after}
use Rattle.proxy_core.specs.Serving.{Serves, IsSetup}
use Rattle.record_model.specs.Setup.{statics_of, setup_of, stand_of}
use Rattle.proxy_core.specs.Sound.{Spot, Served}
use Rattle.run_config.specs.declared.config.Config.{Config}
use Rattle.proxy_core.specs.declared.core_state.Core.{Core}
use Rattle.proxy_core.specs.declared.live.Live.{Live}
use Rattle.proxy_core.specs.Others.{about, front}
use Rattle.proxy_core.proofs.EdgeNotes.{edges_told}
use Rattle.proxy_core.proofs.Members.{eq_self}
use Rattle.proxy_core.proofs.Places.{number_at, live_there}
use Rattle.proxy_core.proofs.Setups.{serves_code}
use Rattle.proxy_core.proofs.Counting.{fewer_calls}
use Rattle.proxy_core.proofs.SoundPast.{ran_on, unchanged}
use Rattle.proxy_core.proofs.Standing.{as_live}
use Rattle.proxy_core.proofs.RunOn.{edges_slept, front_runs}
use Rattle.proxy_core.proofs.ComesAgrees.{ended_live, gone_live, stood_of}
use Rattle.proxy_core.proofs.Agreeing.{After, assemble, its, distinct_live, one_changed, is_live_over, serves_still}

-- the front waits for no reply
spot_front : (failed live : Bool) (n : ℕ) (rest : List ℕ) (asked : List (List (List ℕ))) (g : Setup) (took : TakenCounts) (at : TraceState) (e : Edges) → Spot failed live (n ∷ rest) asked g took at e → asked ≡ []
spot_front failed live n rest [] g took at e k = refl
spot_front true true n [] (call ∷ more) g took at e k = absurd k
spot_front true true n (m ∷ rest) (call ∷ more) g took at e k = absurd k
spot_front true false n [] (call ∷ more) g took at e k = absurd k
spot_front true false n (m ∷ rest) (call ∷ more) g took at e k = absurd k
spot_front false true n [] (call ∷ more) g took at e k = absurd k
spot_front false true n (m ∷ rest) (call ∷ more) g took at e k = absurd k
spot_front false false n [] (call ∷ more) g took at e k = absurd k
spot_front false false n (m ∷ rest) (call ∷ more) g took at e k = absurd k

front_waits_none : (C : Config) (past : Past) (s : State) (c : ℕ) (rest : List ℕ) → s.ring ≡ c ∷ rest → Served C c (seen past s c) → open_calls c s ≡ []
front_waits_none C past s c rest e v =
    let z = seen past s c in
    let ready : z.ready ≡ c ∷ entries c rest = ap (entries c) e ∙ ap (λ x. if x then c ∷ entries c rest else entries c rest) (eq_self c) in
    let S : List ℕ → Type 0 = λ r. Spot z.heard.failed z.live r z.asked (setup_of C z.heard) (taken z.heard) (stand_of C z.heard z.place) z.heard.edges in
    spot_front z.heard.failed z.live c (entries c rest) z.asked (setup_of C z.heard) (taken z.heard) (stand_of C z.heard z.place) z.heard.edges (subst S ready v.spot)

runs_front : (C : Config) (past : Past) (s : State) (old new : Core) (c : ℕ) (rest : List ℕ) (group : List Note) (steps : ℕ) → Represents C past s old → s.ring ≡ c ∷ rest → code.RunsFront old new c rest group steps → After C past s Runs group new
runs_front C past s old new c rest group steps r front_is k =
    let z = seen past s c in
    let there = live_there c k.at old.live.items k.before k.place k.found in
    let i = its C z (live_at old.live.items c) k.before (r.agrees.each c) there in
    let v = as_live C c z i.live (r.sound.each c) in
    let D : Config → Type 0 = λ x. IsSetup x (statics_of C) old.places k.before.vs k.setup in
    let L : Level → Type 0 = λ x. IsSetup old.config x old.places k.before.vs k.setup in
    let serves = serves_code C (statics_of C) old.places k.before.vs k.setup (setup_of C z.heard) r.agrees.places (subst D r.agrees.config (subst L r.agrees.statics k.setup_is)) i.serves in
    let none = front_waits_none C past s c rest front_is v in
    let moment_is : old.moment ≡ (shared past).moment = ap (λ x. x.moment) r.agrees.shared in
    let moment_is' : group ≡ k.told ++ sleep_note k.turn c (shared past).moment = k.notes ∙ ap (λ m. k.told ++ sleep_note k.turn c m) moment_is in
    let w = front_runs C past s c rest (stood_of C past s c v) (ran_on C past s c v) group k.told k.turn moment_is' steps k.setup k.before.edges k.before.conn k.after.conn i.continues i.edges none i.asking serves k.runs k.whole in
    let room : length old.queue.items + length old.queue.asleep < old.config.connections = fewer_calls C past s old c r none i.live in
    let over = ends k.turn in
    let number = number_at c k.at old.live.items k.before k.place k.found in
    let o = one_changed c over old.live.items new.live.items k.at k.before k.after (distinct_live C past s old r) k.found number (k.same.number ∙ number) (live_is over k.goes_on k.over) in
    let z' = seen_after past Runs group w.next c in
    let live : z'.live ≡ not over = gone_live c over group (shared past).live r.sound.distinct i.live w.ended in
    let still : over ≡ false → Serves C (statics_of C) k.after.vs (setup_of C z'.heard) = λ e. serves_still C k.before k.after (setup_of C z.heard) (setup_of C z'.heard) k.same (w.setup e) i.serves in
    let ends_are : over ≡ false → z'.heard.edges ≡ edges_in k.after = λ e. edges_told c z.heard Runs group w.about ∙ edges_slept k.turn c (shared past).moment group k.told moment_is' z.heard.edges ∙ ap (edges_noted k.told) i.edges ∙ sym (k.edges e) in
    let at : about Runs s ≡ c = ap front front_is in
    let T : List ℕ → Type 0 = λ y. MovesRing C past y group s w.next in
    let A : ℕ → Type 0 = λ n. AgreesAt C (seen_after past Runs group w.next n) (live_at new.live.items n) in
    assemble C past s w.next Runs group old new r (subst T (sym front_is) w.moves) k.keeps k.last k.moment
    (o.numbers_are ∙ sym (ended_live c over group (numbers old.live.items) w.ended)) (k.ring ∙ sym w.ring) (k.queue room ∙ ap (queue_behind k.turn c) r.agrees.queue ∙ sym w.queue)
    (λ q. ap (sleepers_of q) (k.asleep room ∙ ap (λ m. sleepers_behind k.turn c m old.queue.asleep) moment_is) ∙ w.asleep old.queue.asleep r.agrees.asleep q) k.store
    (λ q e. o.others q (ap (λ n. nat_eq n q) (sym at) ∙ e))
    (subst A (sym at) (is_live_over c over old.live.items new.live.items k.after z' C o live w.goes_on still ends_are w.asking))
  where
    live_is : (b : Bool) → (b ≡ false → new.live.items ≡ set old.live.items k.at k.after) → (b ≡ true → new.live.items ≡ remove old.live.items k.at) → new.live.items ≡ (if b then remove old.live.items k.at else set old.live.items k.at k.after)
    live_is true f g = g refl
    live_is false f g = f refl

pub runs : (C : Config) (past : Past) (s : State) (old new : Core) (ring : List ℕ) (group : List Note) (steps : ℕ) → Represents C past s old → s.ring ≡ ring → code.RunsRing old new ring group steps → After C past s Runs group new
runs C past s old new [] group steps r e k =
    let T : List ℕ → Type 0 = λ y. MovesRing C past y group s s in
    let A : Seen → Type 0 = λ z. AgreesAt C z (live_at new.live.items (about Runs s)) in
    let B : List Live → Type 0 = λ ls. AgreesAt C (seen past s (about Runs s)) (live_at ls (about Runs s)) in
    assemble C past s s Runs group old new r (subst T (sym e) (k.notes, refl)) k.keeps k.last k.moment
    (ap numbers k.live ∙ sym (ap (λ g. without_all (ended_in g) (numbers old.live.items)) k.notes)) (k.ring ∙ sym e) (k.queue ∙ r.agrees.queue) (λ q. ap (sleepers_of q) k.asleep ∙ r.agrees.asleep q) k.store (λ q n. ap (λ ls. live_at ls q) k.live)
    (subst A (sym (unchanged past Runs group s s (about Runs s) (k.notes, refl) (λ h. others_not_heard (about Runs s) h Runs [] refl refl) refl)) (subst B (sym k.live) (r.agrees.each (about Runs s))))
runs C past s old new (c ∷ rest) group steps r e k = runs_front C past s old new c rest group steps r e k
