-- What a core tells is what the past and the scheduler's state say.
use Rattle.std.proofs.Common.{◌≡◌, refl, sym, ap, ◌∙◌, ℕ, List, [], ◌∷◌, length, Bool, true, false, ◌&&◌, Option, Some, None, option_map, if◌then◌else◌}
use Rattle.std.specs.Prelude.{◌↔◌, IsTrue, option_and_then, slice_get}
use Rattle.std.proofs.lemmas.List.{length-map}
use Rattle.px_bytes.specs.declared.addr.Side.{Side}
use Rattle.core_events.specs.declared.edges.Edges.{Edges}
use Rattle.proxy_core.specs.Asked.{is_none_of, settled_of, next_of, live_of, edges_of, wants_of, pending_of, queue_at, queue_of, first_of, copy_of}
use Rattle.proxy_core.specs.Live.{edges_in, wanted_of}
use Rattle.record_model.specs.Past.{Past, heard, shared}
use Rattle.proxy_core.specs.Queries.{front_of, pending_on, queue_on}
use Rattle.proxy_core.specs.Ready.{is_in}
use Rattle.proxy_core.specs.Refusal.{wants_at}
use Rattle.proxy_core.specs.Refusals.{live_at}
use Rattle.proxy_core.specs.Represents.{AgreesLive, AgreesAt, Represents}
use Rattle.proxy_core.specs.Scheduler.{State, Seen, seen, untaken_of}
use Rattle.proxy_core.specs.Sound.{Served}
use Rattle.proxy_core.specs.declared.call.Asked.{Asked}
use Rattle.run_config.specs.declared.config.Config.{Config}
use Rattle.proxy_core.specs.declared.core_state.Core.{Core}
use Rattle.proxy_core.specs.declared.live.Live.{Live}
use Rattle.proxy_core.proofs.Finished.{heard_finish}
use Rattle.proxy_core.proofs.Standing.{as_live}
use Rattle.proxy_core.proofs.Waiting.{pending_is, pending_same, queue_same}
use Rattle.proxy_core.proofs.Wanted.{wants_same}

-- of a live connection, by its number
asked : {A : Type 0} (f : Live → A) (x : A) (C : Config) (past : Past) (s : State) (core : Core) (c : ℕ) → Represents C past s core → ((l : Live) → Served C c (seen past s c) → AgreesLive C (seen past s c) l → f l ≡ x)
    → option_map f (live_at core.live.items c) ≡ (if is_in (shared past).live c then Some x else None)
asked {A} f x C past s core c r own = by_live (live_at core.live.items c) (r.agrees.each c)
  where
    z : Seen
    z = seen past s c

    by_live : (o : Option Live) → AgreesAt C z o → option_map f o ≡ (if z.live then Some x else None)
    by_live None a = let put : Bool → Option A = λ b. if b then Some x else None in ap put (sym a)
    by_live (Some l) a = let put : Bool → Option A = λ b. if b then Some x else None in ap (λ y. Some y) (own l (as_live C c z a.live (r.sound.each c)) a) ∙ ap put (sym a.live)

none_are : (ns : List ℕ) (as' : List Asked) (b : Bool) → IsTrue b ↔ ((ns ≡ []) × (as' ≡ [])) → b ≡ (is_none_of ns && is_none_of as')
none_are [] [] true h = refl
none_are [] [] false h = absurd (let x : false ≡ true = h.1 (refl, refl) in cc)
none_are [] (a ∷ as') true h = absurd (let x : (a ∷ as') ≡ [] = (h.0 refl).1 in cc)
none_are [] (a ∷ as') false h = refl
none_are (n ∷ ns) as' true h = absurd (let x : (n ∷ ns) ≡ [] = (h.0 refl).0 in cc)
none_are (n ∷ ns) as' false h = refl

pub settled_same : (C : Config) (past : Past) (s : State) (core : Core) (b : Bool) → IsTrue b ↔ ((core.live.ring ≡ []) × (core.queue.items ≡ [])) → Represents C past s core → b ≡ settled_of s
settled_same C past s core b h r =
    let both : List ℕ → List Asked → Bool = λ x y. is_none_of x && is_none_of y in
    none_are core.live.ring core.queue.items b h ∙ ap (λ x. both x core.queue.items) r.agrees.ring ∙ ap (both s.ring) r.agrees.queue

pub next_same : (C : Config) (past : Past) (s : State) (core : Core) (o : Option ℕ) → o ≡ slice_get core.live.ring 0 → Represents C past s core → o ≡ next_of s
next_same C past s core o h r = h ∙ ap (λ ring. slice_get ring 0) r.agrees.ring

pub moment_same : (C : Config) (past : Past) (s : State) (core : Core) → Represents C past s core → core.moment ≡ (shared past).moment
moment_same C past s core r = ap (λ y. y.moment) r.agrees.shared

pub last_same : (C : Config) (past : Past) (s : State) (core : Core) → Represents C past s core → core.last ≡ (shared past).last
last_same C past s core r = ap (λ y. y.last) r.agrees.shared

pub limit_same : (C : Config) (past : Past) (s : State) (core : Core) → Represents C past s core → core.config.connections ≡ C.connections
limit_same C past s core r = ap (λ y. y.connections) r.agrees.config

pub virtuals_same : (C : Config) (past : Past) (s : State) (core : Core) → Represents C past s core → core.config.virtuals ≡ C.virtuals
virtuals_same C past s core r = ap (λ y. y.virtuals) r.agrees.config

pub live_same : (C : Config) (past : Past) (s : State) (core : Core) (n : ℕ) → n ≡ length core.live.items → Represents C past s core → n ≡ live_of past
live_same C past s core n h r = h ∙ sym (length-map core.live.items (λ l. l.number)) ∙ ap (λ y. length y.live) r.agrees.shared

pub edges_same : (C : Config) (past : Past) (s : State) (core : Core) (c : ℕ) (o : Option Edges) → o ≡ option_map edges_in (live_at core.live.items c) → Represents C past s core → o ≡ edges_of past c
edges_same C past s core c o h r = h ∙ asked edges_in (heard c past).edges C past s core c r (λ l v a. sym a.edges)

-- of each side
pub wants_told : (C : Config) (past : Past) (s : State) (core : Core) (c : ℕ) (side : Side) (o : Option ℕ) → o ≡ option_map (λ l. wanted_of side l.conn) (live_at core.live.items c) → Represents C past s core → o ≡ wants_of C past s c side
wants_told C past s core c side o h r =
    let z = seen past s c in
    h ∙ asked (λ l. wanted_of side l.conn) (wants_at C z side) C past s core c r
    (λ l v a. wants_same C c z v (heard_finish c past) side l.conn l.edges a.edges a.continues)

pub pending_told : (C : Config) (past : Past) (s : State) (core : Core) (c : ℕ) (side : Side) (o : Option ℕ) → o ≡ option_map (λ l. pending_on side l.conn) (live_at core.live.items c) → Represents C past s core → o ≡ pending_of past s c side
pending_told C past s core c side o h r =
    let z = seen past s c in
    h ∙ asked (λ l. pending_on side l.conn) (untaken_of z.heard z.place side) C past s core c r
    (λ l v a. pending_is side l.conn ∙ pending_same C c z side l.conn v a.continues)

pub queue_told : (C : Config) (past : Past) (s : State) (core : Core) (c : ℕ) (side : Side) (o : Option (List ℕ)) → o ≡ option_map (λ l. queue_on side l.conn) (live_at core.live.items c) → Represents C past s core → o ≡ queue_of past s c side
queue_told C past s core c side o h r =
    let z = seen past s c in
    h ∙ asked (λ l. queue_on side l.conn) (queue_at z.heard z.place side) C past s core c r
    (λ l v a. queue_same C c z side l.conn v a.continues)

front_by : (side : Side) (n : ℕ) (o : Option Live) → front_of side n o ≡ option_and_then (first_of n) (option_map (λ l. queue_on side l.conn) o)
front_by side n None = refl
front_by side n (Some l) = refl

pub copy_told : (C : Config) (past : Past) (s : State) (core : Core) (c : ℕ) (side : Side) (n : ℕ) (o : Option (List ℕ)) → o ≡ front_of side n (live_at core.live.items c) → Represents C past s core → o ≡ copy_of past s c side n
copy_told C past s core c side n o h r = h ∙ front_by side n (live_at core.live.items c) ∙ ap (option_and_then (first_of n)) (queue_told C past s core c side (option_map (λ l. queue_on side l.conn) (live_at core.live.items c)) refl r)
