-- A Tick, a Mark, and a Turn on an empty queue: from what changed in a core to what the core stands for.
use Rattle.std.proofs.Common.{◌≡◌, refl, sym, ap, subst, ◌∙◌, ℕ, List, [], Bool, ◌++◌}
use Rattle.px_bytes.specs.declared.addr.Addr.{Addr}
use Rattle.core_events.specs.declared.note.Note.{Note}
use Rattle.core_events.specs.declared.event_kind.EventKind.{EventKind}
use Rattle.core_events.specs.declared.event_kind.EventKind.TheVariants.{Ticks, Turns, Marks}
use Rattle.conn_trace.specs.Heard.{Heard, hears}
use Rattle.conn_trace.proofs.Hearing.{others_not_heard}
use Rattle.proxy_core.proofs.Sleepers.{asleep_ticked, woken_asked}
use Rattle.proxy_core.proofs.Counting.{enough_calls}
use Rattle.proxy_core.specs.Changes as code
use Rattle.shared_store.specs.Store.{marked}
use Rattle.proxy_core.specs.Calls.{asker, sleepers_of, woken_calls}
use Rattle.record_model.specs.History.{store_of, store_after}
use Rattle.proxy_core.specs.Moves.{MovesBy, MovesQueue, MovesTick, sleeps_on}
use Rattle.proxy_core.specs.Others.{about}
use Rattle.record_model.specs.Past.{Past, ended_in, without_all, with_accepted, last_after, moment_after, shared}
use Rattle.proxy_core.specs.Ready.{numbers}
use Rattle.proxy_core.specs.Refusals.{live_at}
use Rattle.proxy_core.specs.Represents.{AgreesAt, Represents}
use Rattle.proxy_core.specs.Scheduler.{State, Seen, seen, seen_after}
use Rattle.proxy_core.specs.declared.call.Asked.{Asked}
use Rattle.proxy_core.specs.declared.live.Live.{Live}
use Rattle.run_config.specs.declared.config.Config.{Config}
use Rattle.proxy_core.specs.declared.core_state.Core.{Core}
use Rattle.proxy_core.proofs.Agreeing.{After, assemble}
use Rattle.proxy_core.proofs.SoundPast.{unchanged, seen_tick}

-- no note says that one is over
none_ended : (group : List Note) (live : List ℕ) → group ≡ [] → without_all (ended_in group) live ≡ live
none_ended group live e = ap (λ g. without_all (ended_in g) live) e

-- what a Tick or a Mark leaves of the core's other fields
pub record Apart (old new : Core) : Type 0 where
  pub keeps : code.KeepsConfig old new
  pub last : new.last ≡ old.last
  pub live : new.live.items ≡ old.live.items
  pub ring : new.live.ring ≡ old.live.ring
  pub queue : new.queue.items ≡ old.queue.items
  pub asleep : new.queue.asleep ≡ old.queue.asleep

-- nothing is heard of any connection
rested : (C : Config) (past : Past) (s : State) (v : EventKind) (old new : Core) (group : List Note) → Represents C past s old → MovesBy C past v group s s → group ≡ [] → about v s ≡ 0 → ((h : Heard) → hears 0 h v [] ≡ h) → with_accepted v (shared past).live ≡ (shared past).live
    → Apart old new → last_after v old.last ≡ old.last → with_accepted v (numbers old.live.items) ≡ numbers old.live.items → new.moment ≡ moment_after v old.moment → new.store ≡ store_after v group old.store → After C past s v group new
rested C past s v old new group r moves none at quiet same k last accepted moment store =
    let A : Seen → Type 0 = λ z. AgreesAt C z (live_at new.live.items 0) in
    let B : List Live → Type 0 = λ ls. AgreesAt C (seen past s 0) (live_at ls 0) in
    let O : ℕ → Type 0 = λ c. AgreesAt C (seen_after past v group s c) (live_at new.live.items c) in
    assemble C past s s v group old new r moves k.keeps (k.last ∙ sym last) moment
    (ap numbers k.live ∙ sym accepted ∙ sym (none_ended group (with_accepted v (numbers old.live.items)) none)) (k.ring ∙ r.agrees.ring) (k.queue ∙ r.agrees.queue) (λ q. ap (sleepers_of q) k.asleep ∙ r.agrees.asleep q) store (λ q n. ap (λ ls. live_at ls q) k.live)
    (subst O (sym at) (subst A (sym (unchanged past v group s s 0 (none, refl) quiet same)) (subst B (sym k.live) (r.agrees.each 0))))

apart : (old new after : Core) → new ≡ after → Apart old after → Apart old new
apart old new after e k = let P : Core → Type 0 = λ x. Apart old x in subst P (sym e) k

pub ticks : (C : Config) (past : Past) (s : State) (old new : Core) (moment : ℕ) (group : List Note) (steps : ℕ) → Represents C past s old → code.Ticked old new moment group steps → After C past s (Ticks moment) group new
ticks C past s old new moment group steps r k =
    let c = k.core in
    let asleep = s.asleep in
    let held = old.queue.asleep in
    let next : State = record s { queue = s.queue ++ woken_calls moment held; asleep = λ q. sleeps_on moment (asleep q) } in
    let m : MovesTick moment group s next = record { notes = k.notes; calls = woken_calls moment held; woken = woken_asked moment asleep held r.agrees.asleep; state = refl } in
    let A : Seen → Type 0 = λ z. AgreesAt C z (live_at new.live.items 0) in
    assemble C past s next (Ticks moment) group old new r m c.keeps c.last c.moment_is
    (ap (λ t. numbers t.items) c.live ∙ sym (none_ended group (numbers old.live.items) k.notes)) (ap (λ t. t.ring) c.live ∙ r.agrees.ring)
    (c.queue (enough_calls C past s old r) ∙ ap (λ q. q ++ woken_calls moment held) r.agrees.queue)
    (λ q. ap (sleepers_of q) c.asleep ∙ asleep_ticked moment asleep held r.agrees.asleep q) c.store (λ q n. ap (λ t. live_at t.items q) c.live)
    (subst A (sym (seen_tick past moment group s next 0 m)) (subst (λ t. AgreesAt C (seen past s 0) (live_at t.items 0)) (sym c.live) (r.agrees.each 0)))

pub marked_now : (C : Config) (past : Past) (s : State) (old new : Core) (pool : List ℕ) (member : Addr) (up : Bool) (group : List Note) (steps : ℕ) → Represents C past s old → code.Becomes new (record old { store = marked pool member up old.store }) group steps → After C past s (Marks pool member up) group new
marked_now C past s old new pool member up group steps r k =
    rested C past s (Marks pool member up) old new group r (k.notes, refl) k.notes refl (λ h. others_not_heard 0 h (Marks pool member up) [] refl refl) refl
    (apart old new (record old { store = marked pool member up old.store }) k.core (record { keeps = record { config = refl; statics = refl; places = refl }; last = refl; live = refl; ring = refl; queue = refl; asleep = refl })) refl refl (ap (λ x. x.moment) k.core) (ap (λ x. x.store) k.core)

-- no call waits
pub none_turns : (C : Config) (past : Past) (s : State) (old new : Core) (group : List Note) → Represents C past s old → s.queue ≡ [] → code.TurnsNone old new group → After C past s Turns group new
none_turns C past s old new group r e k =
    let M : List Asked → Type 0 = λ q. MovesQueue (store_of C past) (shared past).moment q group s s in
    let S : List Note → Type 0 = λ g. new.store ≡ store_after Turns g old.store in
    rested C past s Turns old new group r (subst M (sym e) (k.notes, refl)) k.notes (ap asker e) (λ h. others_not_heard 0 h Turns [] refl refl) refl
    (record { keeps = k.keeps; last = k.last; live = k.live; ring = k.ring; queue = k.queue ∙ sym (r.agrees.queue ∙ e); asleep = k.asleep }) refl refl k.moment (subst S (sym k.notes) k.store)
