-- What a step did.
use Rattle.std.proofs.Common.{◌≡◌, refl, sym, ap, subst, ◌∙◌, ℕ, ◌+◌, ◌≤◌, arith, List, [], ◌++◌, length, map, Bool, Option, Some, None, Result, Ok, Err, OnOk, IfErr}
use Rattle.std.proofs.lemmas.List.{length-append, length-map}
use Rattle.px_bytes.specs.declared.addr.Side.{Side}
use Rattle.px_bytes.specs.declared.addr.Side.TheVariants.{Client, Server}
use Rattle.core_events.specs.declared.edges.Edges.{Edges}
use Rattle.core_events.specs.declared.note.Note.{Note}
use Rattle.core_events.specs.declared.event_kind.EventKind.{EventKind}
use Rattle.core_events.specs.declared.event_kind.EventKind.TheVariants as kind
use Rattle.conn_trace.specs.Tellings.{tells, finish_told}
use Rattle.proxy_core.specs.Calls.{sleepers_of}
use Rattle.proxy_core.specs.Changes.{Changes, ChangesBy}
use Rattle.proxy_core.specs.Face.{Moved}
use Rattle.proxy_core.specs.Live.{pending_in, wanted_of}
use Rattle.core_events.specs.Kinds.{kind_of}
use Rattle.record_model.specs.Past.{Past, Shared, shared}
use Rattle.proxy_core.specs.Ready.{numbers}
use Rattle.record_model.specs.Refusal.{Standing, Known, named, has_marked, refusal_by}
use Rattle.proxy_core.specs.Refusal.{wants_at, standing_by, standing_of, known, refused, core_standing, core_known, refusal_of, refusal}
use Rattle.proxy_core.specs.Refusals.{live_at}
use Rattle.proxy_core.specs.Represents.{AgreesAt, Represents}
use Rattle.proxy_core.specs.Scheduler.{State, Seen, seen, no_connections, untaken_of}
use Rattle.proxy_core.specs.Sound.{SoundAt}
use Rattle.proxy_core.specs.Start.{IsStart}
use Rattle.proxy_core.specs.Steps.{KeepsStanding, Steps, IsRefused}
use Rattle.run_config.specs.declared.config.Config.{Config}
use Rattle.proxy_core.specs.declared.core_state.Core.{Core}
use Rattle.core_events.specs.declared.bad_event.BadEvent.{BadEvent}
use Rattle.core_events.specs.declared.event.Event.{Event}
use Rattle.proxy_core.specs.declared.live.Live.{Live}
use Rattle.proxy_core.proofs.Agreeing.{After, accepts}
use Rattle.proxy_core.proofs.ComesAgrees.{comes}
use Rattle.proxy_core.proofs.Finished.{heard_finish}
use Rattle.proxy_core.proofs.Resting.{ticks, marked_now}
use Rattle.proxy_core.proofs.RunAgrees.{runs}
use Rattle.proxy_core.proofs.SoundPast.{sound_start, sound_step}
use Rattle.proxy_core.proofs.Standing.{as_live}
use Rattle.proxy_core.proofs.TurnAgrees.{turns}
use Rattle.proxy_core.proofs.Waiting.{pending_same}
use Rattle.proxy_core.proofs.Wanted.{wants_same}

-- how a live connection stands
abbrev standing : Edges → ℕ → ℕ → ℕ → ℕ → Option Standing
standing e m n p q = Some (record { edges = e; from_client = m; from_server = n; to_client = p; to_server = q })

standing_same : (C : Config) (c : ℕ) (z : Seen) (o : Option Live) → z.heard.finished ≡ finish_told (map tells z.heard.notes) → SoundAt C c z → AgreesAt C z o → core_standing o ≡ standing_of C z
standing_same C c z None told s a = sym (ap (λ b. standing_by C b z) a)
standing_same C c z (Some l) told s a =
    let v = as_live C c z a.live s in
    let w = wants_same C c z v told in
    let p : (side : Side) → pending_in side l.conn ≡ untaken_of z.heard z.place side = λ side. pending_same C c z side l.conn v a.continues in
    ap (λ e. standing e (wanted_of Client l.conn) (wanted_of Server l.conn) (pending_in Client l.conn) (pending_in Server l.conn)) (sym a.edges)
    ∙ ap (λ m. standing z.heard.edges m (wanted_of Server l.conn) (pending_in Client l.conn) (pending_in Server l.conn)) (w Client l.conn l.edges a.edges a.continues)
    ∙ ap (λ n. standing z.heard.edges (wants_at C z Client) n (pending_in Client l.conn) (pending_in Server l.conn)) (w Server l.conn l.edges a.edges a.continues)
    ∙ ap (λ n. standing z.heard.edges (wants_at C z Client) (wants_at C z Server) n (pending_in Server l.conn)) (p Client)
    ∙ ap (λ n. standing z.heard.edges (wants_at C z Client) (wants_at C z Server) (untaken_of z.heard z.place Client) n) (p Server)
    ∙ sym (ap (λ b. standing_by C b z) a.live)

known_same : (C : Config) (past : Past) (s : State) (core : Core) (v : EventKind) → Represents C past s core → core_known core v ≡ known C past s v
known_same C past s core v r =
    let make : ℕ → ℕ → ℕ → Option Standing → Bool → Known = λ l m n o b. record { last = l; moment = m; live = n; conn = o; member = b } in
    let there = has_marked core.store v in
    ap (λ y. make y.last y.moment (length core.live.items) (core_standing (live_at core.live.items (named v))) there) r.agrees.shared
    ∙ ap (λ n. make (shared past).last (shared past).moment n (core_standing (live_at core.live.items (named v))) there) (sym (length-map core.live.items (λ l. l.number)) ∙ ap (λ y. length y.live) r.agrees.shared)
    ∙ ap (λ o. make (shared past).last (shared past).moment (length (shared past).live) o there) (standing_same C (named v) (seen past s (named v)) (live_at core.live.items (named v)) (heard_finish (named v) past) (r.sound.each (named v)) (r.agrees.each (named v)))
    ∙ ap (λ x. make (shared past).last (shared past).moment (length (shared past).live) (standing_of C (seen past s (named v))) (has_marked x v)) r.agrees.store_is

pub refusal_same : (C : Config) (past : Past) (s : State) (core : Core) (v : EventKind) → Represents C past s core → refusal_of core v ≡ refused C past s v
refusal_same C past s core v r = ap (λ D. refusal_by D (core_known core v) v) r.agrees.config ∙ ap (λ k. refusal_by C k v) (known_same C past s core v r)

by_kind : (C : Config) (past : Past) (s : State) (old new : Core) (v : EventKind) (group : List Note) (steps : ℕ) → Represents C past s old → refused C past s v ≡ None → ChangesBy old new v group steps → After C past s v group new
by_kind C past s old new (kind.Accepts number vs from) group steps r h k = accepts C past s old new number vs from group r h k.0
by_kind C past s old new (kind.Comes number input) group steps r h k = comes C past s old new number input group r k.0
by_kind C past s old new (kind.Ticks moment) group steps r h k = ticks C past s old new moment group steps r k
by_kind C past s old new kind.Turns group steps r h k = turns C past s old new old.queue.items group r (sym r.agrees.queue) k.0
by_kind C past s old new kind.Runs group steps r h k = runs C past s old new old.live.ring group steps r (sym r.agrees.ring) k
by_kind C past s old new (kind.Marks pool member up) group steps r h k = marked_now C past s old new pool member up group steps r k

pub keeps_standing : (old new : Core) (e : Event) (group : List Note) (steps : ℕ) → refusal old e ≡ None → Changes old new e group steps → KeepsStanding old new (record { event = e; group = group })
keeps_standing old new e group steps h k C past s r =
    let accepted = sym (refusal_same C past s old (kind_of e) r) ∙ h in
    let a = by_kind C past s old new (kind_of e) group steps r accepted k in
    record { next = a.next; moves = a.moves; represents = record { sound = sound_step C past (record { event = e; group = group }) s a.next r.sound accepted a.moves; agrees = a.agrees } }

pub is_refused : (core : Core) (e : Event) (why : BadEvent) → refusal core e ≡ Some why → IsRefused core e why
is_refused core e why h C past s r = sym (refusal_same C past s core (kind_of e) r) ∙ h

-- a core without connections
abbrev made : ℕ → ℕ → List ℕ → Shared
made last moment live = record { last = last; moment = moment; live = live }

pub start_represents : (C : Config) (core : Core) → IsStart C core → Represents C [] no_connections core
start_represents C core k = record {
  sound = sound_start C;
  agrees = record {
    config = k.config;
    statics = k.statics;
    places = k.places;
    shared = ap (λ l. made l core.moment (numbers core.live.items)) k.last ∙ ap (λ m. made 0 m (numbers core.live.items)) k.moment ∙ ap (λ ls. made 0 0 (numbers ls)) k.live;
    store_is = k.store;
    ring = k.ring;
    queue = k.queue;
    asleep = λ c. ap (sleepers_of c) k.asleep;
    each = λ c. rw k.live refl;
  };
}

-- so many notes were added at most
at_most : (before after group : List Note) (n : ℕ) → after ≡ before ++ group → length after ≤ length before + n → length group ≤ n
at_most before after group n e few = omega (arith, ap length e ∙ length-append before group, few)

-- by the answer of the step, which goes by what the event may mean
pub steps_of : (old new : Core) (e : Event) (v : EventKind) → v ≡ kind_of e → (before after : List Note) (steps : ℕ) (res : Result (Unit {0}) BadEvent) → OnOk res (refusal_of old v ≡ None) → OnOk res ((group : List Note) × (after ≡ before ++ group) × ChangesBy old new v group steps) → OnOk res (length after ≤ length before + 68) → OnOk res (Steps old new e before after steps)
steps_of old new e v is before after steps (Ok u) h k few =
    let fine : refusal old e ≡ None = ap (refusal_of old) (sym is) ∙ h in
    let changes : Changes old new e k.0 steps = subst (λ w. ChangesBy old new w k.0 steps) is k.2 in
    record { group = k.0; notes = k.1; few = at_most before after k.0 68 k.1 few; changes = changes; stands = keeps_standing old new e k.0 steps fine changes }
steps_of old new e v is before after steps (Err why) h k few = tt

pub refused_of : (core : Core) (e : Event) (v : EventKind) → v ≡ kind_of e → (res : Result (Unit {0}) BadEvent) → IfErr res (λ why. refusal_of core v ≡ Some why) → IfErr res (λ why. IsRefused core e why)
refused_of core e v is (Ok u) h = tt
refused_of core e v is (Err why) h = is_refused core e why (ap (refusal_of core) (sym is) ∙ h)

-- what a step did, as a loop knows it
pub moved_by : (old new : Core) (e : Event) (before after : List Note) (steps : ℕ) → Steps old new e before after steps → steps ≤ 2000 → (group : List Note) × (after ≡ before ++ group) × Moved old new (record { event = e; group = group })
moved_by old new e before after steps k few = (k.group, k.notes, record { keeps = k.stands; steps = steps; bounded = few; changes = k.changes })
