-- What every event owes: the core agrees with the longer past where its own connection does; and an accepted one.
use Rattle.std.proofs.Common.{◌≡◌, refl, sym, ap, subst, ◌∙◌, ℕ, suc, ◌+◌, ◌-◌, ◌≤◌, arith, List, Bool, true, false, not, Option, Some, None, nat_eq, if◌then◌else◌, remove, set, ◌⊎◌, inl, inr, [], ◌∷◌, ◌++◌, length}
use Rattle.std.specs.Prelude.{slice_get, is_some, option_and_then}
use Rattle.std.specs.List.{IsDistinct, position_from}
use Rattle.std.specs.Str.{bytes_eq}
use Rattle.std.proofs.lemmas.Slice.Eq.{bytes_eq-Decides}
use Rattle.core_events.specs.declared.note.Note.{Note}
use Rattle.core_events.specs.declared.event_kind.EventKind.{EventKind}
use Rattle.core_events.specs.declared.event_kind.EventKind.TheVariants.{Accepts}
use Rattle.conn_trace.specs.Heard.{Accepted}
use Rattle.conn_trace.specs.Setup.{Setup}
use Rattle.conn.specs.declared.connection.Conn.{Conn}
use Rattle.conn.specs.declared.setup.Place.{Place}
use Rattle.proxy_core.specs.Bodies.{all_places}
use Rattle.proxy_core.specs.Changes as code
use Rattle.proxy_core.specs.Calls.{is_any, sleepers_of}
use Rattle.record_model.specs.History.{store_of, store_after}
use Rattle.proxy_core.specs.Live.{KeepsPlace, asks_in, edges_by_conn, edges_in}
use Rattle.proxy_core.specs.Moves.{MovesBy}
use Rattle.record_model.specs.Past.{Past, ended_in, without_all, with_accepted, last_after, moment_after, Shared, shared, shared_after}
use Rattle.proxy_core.specs.Ready.{numbers, is_in, without}
use Rattle.record_model.specs.Setup.{virtual_place}
use Rattle.proxy_core.specs.Refusals.{live_at}
use Rattle.proxy_core.specs.Represents.{AgreesAsleep, ConnectionContinues, AgreesLive, AgreesAt, AgreesBy, Represents}
use Rattle.proxy_core.specs.Scheduler.{State, Seen, seen_after}
use Rattle.proxy_core.specs.Serving.{Serves}
use Rattle.record_model.specs.Setup.{statics_of, setup_of, handlers_in, setup_in, name_at, name_in, pool_in, http_in, port_in}
use Rattle.run_config.specs.declared.config.Config.{Config}
use Rattle.run_config.specs.declared.config.Virtual.{Virtual}
use Rattle.proxy_core.specs.declared.core_state.Core.{Core}
use Rattle.proxy_core.specs.declared.live.Live.{Live}
use Rattle.px_bytes.specs.declared.addr.Addr.{Addr}
use Rattle.tcl_vars.specs.Scopes.{Level}
use Rattle.core_events.specs.declared.note.Cause.TheVariants.{Memory}
use Rattle.core_events.specs.declared.note.Note.TheVariants.{Finish}
use Rattle.proxy_core.specs.Refusal.{refused}
use Rattle.core_events.specs.Edges.{accepted_edges}
use Rattle.proxy_core.specs.Others.{about}
use Rattle.proxy_core.proofs.Framing.{touches, only_changed, each_by}
use Rattle.proxy_core.proofs.LiveLookups.{live_absent, live_set_self, live_set_other, live_removed_other, numbers_removed, live_pushed_other, live_pushed_self}
use Rattle.proxy_core.proofs.Members.{not_in_without}
use Rattle.proxy_core.proofs.Places.{numbers_set}
use Rattle.proxy_core.proofs.ReadyRing.{numbers_push}
use Rattle.proxy_core.proofs.Setups.{serves_code}
use Rattle.proxy_core.proofs.Fresh.{first_notes, fresh, not_accepted, seen_accept}

-- the core agrees with the past that has one event more, of this kind and with these notes
pub record After (C : Config) (past : Past) (s : State) (v : EventKind) (group : List Note) (new : Core) : Type 0 where
  pub next : State
  pub moves : MovesBy C past v group s next
  pub agrees : AgreesBy C (shared_after v group (shared past)) (store_after v group (store_of C past)) (seen_after past v group next) next new

-- every event: what its own connection owes is enough
pub assemble : (C : Config) (past : Past) (s next : State) (v : EventKind) (group : List Note) (old new : Core) → Represents C past s old → MovesBy C past v group s next → code.KeepsConfig old new
    → new.last ≡ last_after v old.last → new.moment ≡ moment_after v old.moment → numbers new.live.items ≡ without_all (ended_in group) (with_accepted v (numbers old.live.items)) → new.live.ring ≡ next.ring → new.queue.items ≡ next.queue → AgreesAsleep next.asleep new.queue.asleep → new.store ≡ store_after v group old.store
    → ((q : ℕ) → nat_eq (about v s) q ≡ false → live_at new.live.items q ≡ live_at old.live.items q)
    → AgreesAt C (seen_after past v group next (about v s)) (live_at new.live.items (about v s)) → After C past s v group new
assemble C past s next v group old new r moves keeps last moment live ring queue asleep store others own =
    let make : ℕ → ℕ → List ℕ → Shared = λ l m ns. record { last = l; moment = m; live = ns } in
    record {
      next = next;
      moves = moves;
      agrees = record {
        config = keeps.config ∙ r.agrees.config;
        statics = ap (λ x. x.statics) keeps.statics ∙ r.agrees.statics;
        places = keeps.places ∙ r.agrees.places;
        shared = ap (λ l. make l new.moment (numbers new.live.items)) last ∙ ap (λ m. make (last_after v old.last) m (numbers new.live.items)) moment ∙ ap (make (last_after v old.last) (moment_after v old.moment)) live
            ∙ ap (shared_after v group) r.agrees.shared;
        store_is = store ∙ ap (store_after v group) r.agrees.store_is;
        ring = ring;
        queue = queue;
        asleep = asleep;
        each = each_by (λ q z o. AgreesAt C z o) (λ q. live_at old.live.items q) (λ q. live_at new.live.items q) (about v s) past v group s next (only_changed past v group s next (touches C past v group s next moves)) others r.agrees.each own;
      };
    }

-- its own live connection
pub its : (C : Config) (z : Seen) (o : Option Live) (l : Live) → AgreesAt C z o → o ≡ Some l → AgreesLive C z l
its C z o l a e = let P : Option Live → Type 0 = λ y. AgreesAt C z y in subst P e a

-- the numbers of the live connections are distinct
pub distinct_live : (C : Config) (past : Past) (s : State) (core : Core) → Represents C past s core → IsDistinct nat_eq (numbers core.live.items)
distinct_live C past s core r = let P : List ℕ → Type 0 = λ ns. IsDistinct nat_eq ns in subst P (sym (ap (λ x. x.live) r.agrees.shared)) r.sound.distinct

-- the list of live connections where one goes or changes
pub record OneChanged (c : ℕ) (over : Bool) (olds news : List Live) (after : Live) : Type 0 where
  pub own : live_at news c ≡ (if over then None else Some after)
  pub others : (q : ℕ) → nat_eq c q ≡ false → live_at news q ≡ live_at olds q
  pub numbers_are : numbers news ≡ (if over then without c (numbers olds) else numbers olds)

pub one_changed : (c : ℕ) (over : Bool) (olds news : List Live) (at : ℕ) (before after : Live) → IsDistinct nat_eq (numbers olds) → slice_get olds at ≡ Some before → before.number ≡ c → after.number ≡ c → news ≡ (if over then remove olds at else set olds at after) → OneChanged c over olds news after
one_changed c true olds news at before after d get nb na e =
    let ns : numbers news ≡ without c (numbers olds) = ap numbers e ∙ numbers_removed at olds before d get ∙ ap (λ m. without m (numbers olds)) nb in
    record {
      own = live_absent c news (ap (λ x. is_in x c) ns ∙ not_in_without c (numbers olds) d);
      others = λ q n. ap (λ ls. live_at ls q) e ∙ live_removed_other q at olds before get (ap (λ m. nat_eq m q) nb ∙ n);
      numbers_are = ns;
    }
one_changed c false olds news at before after d get nb na e =
    let same : after.number ≡ before.number = na ∙ sym nb in
    record {
      own = ap (λ ls. live_at ls c) e ∙ ap (λ m. live_at (set olds at after) m) (sym nb) ∙ live_set_self at olds before after d get same;
      others = λ q n. ap (λ ls. live_at ls q) e ∙ live_set_other q at olds before after get same (ap (λ m. nat_eq m q) nb ∙ n);
      numbers_are = ap numbers e ∙ numbers_set at olds before after get same;
    }

pub is_live_over : (c : ℕ) (over : Bool) (olds news : List Live) (after : Live) (z : Seen) (C : Config) → OneChanged c over olds news after → z.live ≡ not over → (over ≡ false → ConnectionContinues C z after.conn) → (over ≡ false → Serves C (statics_of C) after.vs (setup_of C z.heard)) → (over ≡ false → z.heard.edges ≡ edges_in after) → (over ≡ false → asks_in after.conn ≡ is_any z.asked) → AgreesAt C z (live_at news c)
is_live_over c true olds news after z C o live k s e w = let P : Option Live → Type 0 = λ x. AgreesAt C z x in subst P (sym o.own) live
is_live_over c false olds news after z C o live k s e w = let P : Option Live → Type 0 = λ x. AgreesAt C z x in subst P (sym o.own) (record { live = live; continues = k refl; serves = s refl; edges = e refl; asking = w refl })

pub serves_still : (C : Config) (old new : Live) (g g' : Setup) → KeepsPlace old new → g' ≡ g → Serves C (statics_of C) old.vs g → Serves C (statics_of C) new.vs g'
serves_still C old new g g' same e k =
    let P : Setup → Type 0 = λ y. Serves C (statics_of C) new.vs y in
    let Q : ℕ → Type 0 = λ n. Serves C (statics_of C) n g in
    subst P (sym e) (subst Q (sym same.vs) k)

named_from : (name : List ℕ) (i at : ℕ) (vs : List Virtual) → position_from (λ v. bytes_eq v.name name) i vs ≡ Some at → (i ≤ at) × (name_in (slice_get vs (at - i)) ≡ name)
named_from name i at [] e = cc
named_from name i at (v ∷ vs) e = by_name (bytes_eq v.name name) refl (named_from name (i + 1) at vs) e
  where
    by_name : (b : Bool) → bytes_eq v.name name ≡ b → (position_from (λ x. bytes_eq x.name name) (i + 1) vs ≡ Some at → (i + 1 ≤ at) × (name_in (slice_get vs (at - (i + 1))) ≡ name)) → (if b then Some i else position_from (λ x. bytes_eq x.name name) (i + 1) vs) ≡ Some at → (i ≤ at) × (name_in (slice_get (v ∷ vs) (at - i)) ≡ name)
    by_name true t rest f =
        let g : at ≡ i = cc in
        let z : at - i ≡ 0 = omega arith in
        (omega arith, rw z ((bytes_eq-Decides v.name name).0 t))
    by_name false t rest f =
        let r = rest f in
        let m : at - i ≡ suc (at - (i + 1)) = omega (arith, r.0) in
        (omega (arith, r.0), rw m r.1)

named_at : (C : Config) (name : List ℕ) (place : ℕ) → virtual_place C name ≡ Some place → name ≡ name_at C place
named_at C name place e = sym (let n = (named_from name 0 place C.virtuals e).1 in let z : place - 0 ≡ place = omega arith in sym (ap (λ x. name_in (slice_get C.virtuals x)) z) ∙ n)

serves_named : (C : Config) (vs : List ℕ) (from : Addr) (place : ℕ) → virtual_place C vs ≡ Some place → Serves C (statics_of C) place (setup_in C (Some (record { virtual = vs; from = from })))
serves_named C vs from place e = record {
  name = named_at C vs place e;
  port = ap (λ o. port_in (option_and_then (λ p. slice_get C.virtuals p) o)) e;
  pool = ap (λ o. pool_in (option_and_then (λ p. slice_get C.virtuals p) o)) e;
  http = ap (λ o. http_in (option_and_then (λ p. slice_get C.virtuals p) o)) e;
  budget = refl;
  statics = refl;
  groups = refl;
  heads = refl;
  handlers = λ x. ap (λ o. handlers_in C (option_and_then (λ p. slice_get C.virtuals p) o) x) e;
}

-- what an accepted connection begins with
record Begun (C : Config) (c : ℕ) (a : Accepted) (conn : Option Conn) (group : List Note) : Type 0 where
  notes : group ≡ first_notes c (not (is_some conn))
  continues : ConnectionContinues C (fresh c a (not (is_some conn))) conn
  edges : accepted_edges ≡ edges_by_conn conn accepted_edges
  asks : asks_in conn ≡ false

begun : (C : Config) (places : List (List (List Place))) (c place : ℕ) (vs : List ℕ) (from : Addr) (conn : Option Conn) (group : List Note) → places ≡ all_places C.rules C.virtuals → virtual_place C vs ≡ Some place → code.BeginsAt (statics_of C) places C c place from conn group
    → Begun C c (record { virtual = vs; from = from }) conn group
begun C places c place vs from None group all e b = record { notes = b.2; continues = record { failed = refl; finished = refl; no_items = refl }; edges = refl; asks = refl }
begun C places c place vs from (Some conn) group all e b =
    let g = setup_in C (Some (record { virtual = vs; from = from })) in
    let begins = b.2.0 g (serves_code C (statics_of C) places place b.0 g all b.1 (serves_named C vs from place e)) refl in
    record {
      notes = b.2.2;
      continues = inl (record {
        not_failed = refl;
        holds = begins.0;
        queues = record { client = ap (λ x. x.client.queued) b.2.1; server = λ there. ap (λ x. x.server.queued) b.2.1; lost = ap (λ x. length x.server.queued + x.lost) b.2.1 };
        paid = begins.1;
      });
      edges = sym (ap (λ x. x.edges) b.2.1);
      asks = b.2.3;
    }

accept_moves : (c : ℕ) (failed : Bool) (group : List Note) → group ≡ first_notes c failed → (group ≡ []) ⊎ (group ≡ Finish c Memory ∷ [])
accept_moves c true group e = inr e
accept_moves c false group e = inl e

first_live : (c : ℕ) (failed : Bool) (group : List Note) (live : List ℕ) → group ≡ first_notes c failed → without_all (ended_in group) live ≡ live
first_live c true group live e = ap (λ g. without_all (ended_in g) live) e
first_live c false group live e = ap (λ g. without_all (ended_in g) live) e

pub accepts : (C : Config) (past : Past) (s : State) (old new : Core) (c : ℕ) (vs : List ℕ) (from : Addr) (group : List Note) → Represents C past s old → refused C past s (Accepts c vs from) ≡ None → code.Accepts old new c vs from group → After C past s (Accepts c vs from) group new
accepts C past s old new c vs from group r h k =
    let v = Accepts c vs from in
    let a : Accepted = record { virtual = vs; from = from } in
    let u = not_accepted C past c vs from s r.sound h in
    let failed = not (is_some k.conn) in
    let l : Live = record { number = c; vs = k.place; from = from; conn = k.conn; edges = accepted_edges } in
    let next : State = record s { ring = s.ring ++ c ∷ [] } in
    let place_is : virtual_place C vs ≡ Some k.place = ap (λ D. virtual_place D vs) (sym r.agrees.config) ∙ k.virtual in
    let D : Config → Type 0 = λ x. code.BeginsAt (statics_of C) old.places x c k.place from k.conn group in
    let L : Level → Type 0 = λ x. code.BeginsAt x old.places old.config c k.place from k.conn group in
    let b = begun C old.places c k.place vs from k.conn group r.agrees.places place_is (subst D r.agrees.config (subst L r.agrees.statics k.begins)) in
    let moves : MovesBy C past v group s next = record { notes = accept_moves c failed group b.notes; state = refl } in
    let absent : is_in (numbers old.live.items) c ≡ false = ap (λ y. is_in y.live c) r.agrees.shared ∙ ap (λ z. z.live) u in
    let there : live_at new.live.items c ≡ Some l = ap (λ ls. live_at ls c) k.live ∙ live_pushed_self old.live.items l absent in
    let P : Seen → Type 0 = λ z. AgreesAt C z (live_at new.live.items c) in
    let Q : Option Live → Type 0 = λ o. AgreesAt C (fresh c a failed) o in
    assemble C past s next v group old new r moves k.keeps k.last k.moment
    (ap numbers k.live ∙ numbers_push old.live.items l ∙ sym (first_live c failed group (numbers old.live.items ++ c ∷ []) b.notes))
    (k.ring ∙ ap (λ ns. ns ++ c ∷ []) r.agrees.ring) (k.queue ∙ r.agrees.queue) (λ q. ap (sleepers_of q) k.asleep ∙ r.agrees.asleep q) k.store
    (λ q e. ap (λ ls. live_at ls q) k.live ∙ live_pushed_other q old.live.items l e)
    (subst P (sym (seen_accept past c a failed group s next u b.notes refl)) (subst Q (sym there) (record { live = refl; continues = b.continues; serves = serves_named C vs from k.place place_is; edges = b.edges; asking = b.asks })))
