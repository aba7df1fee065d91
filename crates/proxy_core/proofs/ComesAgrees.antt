-- Something came of a connection: from what changed in a core to what the core stands for.
use Rattle.std.proofs.Common.{◌≡◌, refl, sym, ap, ◌∙◌, ℕ, List, [], ◌∷◌, Bool, true, false, not, Option, Some, None, if◌then◌else◌, remove, set, nat_eq}
use Rattle.std.specs.List.{IsDistinct}
use Rattle.core_events.specs.declared.note.Note.{Note}
use Rattle.core_events.specs.Edges.{edges_noted}
use Rattle.core_events.specs.declared.event_kind.EventKind.TheVariants.{Comes}
use Rattle.core_events.specs.declared.input.Input.{Input}
use Rattle.core_events.specs.declared.input.Input.TheVariants.{Bytes, Ends, Resets, Connects, Takes}
use Rattle.conn_trace.specs.Heard.{edges_met}
use Rattle.conn.specs.declared.connection.Conn.{Conn}
use Rattle.proxy_core.specs.Changes as code
use Rattle.proxy_core.specs.Live.{MayCome, asks_in}
use Rattle.proxy_core.specs.Calls.{calls_of, is_any, sleepers_of, without_calls, without_sleepers, woken}
use Rattle.record_model.specs.Past.{Past, heard, ended_in, without_all, shared}
use Rattle.proxy_core.specs.Ready.{numbers, is_in, without, with_ready}
use Rattle.proxy_core.specs.Refusals.{live_at}
use Rattle.proxy_core.specs.Represents.{AgreesAsleep, Represents}
use Rattle.proxy_core.specs.Scheduler.{State, open_calls, seen, seen_after, with_asleep}
use Rattle.record_model.specs.Setup.{setup_in, setup_of}
use Rattle.proxy_core.specs.Sound.{Served}
use Rattle.run_config.specs.declared.config.Config.{Config}
use Rattle.proxy_core.specs.declared.core_state.Core.{Core}
use Rattle.proxy_core.specs.declared.live.Live.{Live}
use Rattle.proxy_core.proofs.EdgeNotes.{edges_come}
use Rattle.proxy_core.proofs.Finished.{heard_finish, stands_orderly, trace_finished}
use Rattle.proxy_core.proofs.Members.{not_in_without}
use Rattle.proxy_core.proofs.Meeting.{come_told}
use Rattle.proxy_core.proofs.Places.{number_at, live_there}
use Rattle.proxy_core.proofs.Entries.{lacked_open, none_without, open_none}
use Rattle.proxy_core.proofs.Sleepers.{forgotten, stays_asleep}
use Rattle.proxy_core.proofs.Standing.{as_live}
use Rattle.proxy_core.proofs.CameOn.{AsksOn, MayConn, Stood, came_on, state_came}
use Rattle.proxy_core.proofs.Agreeing.{After, assemble, its, distinct_live, one_changed, is_live_over, serves_still}

none_any : {A : Type 0} (xs : List A) → is_any xs ≡ false → xs ≡ []
none_any [] e = refl
none_any (x ∷ xs) e = cc

-- a connection's live entry after what came, and the lists of those that are ready and of the calls
record CoreCame (c : ℕ) (lacks over : Bool) (s : State) (old new : Core) (at : ℕ) (after : Live) : Type 0 where
  live : new.live.items ≡ (if over then remove old.live.items at else set old.live.items at after)
  ring : new.live.ring ≡ (state_came lacks over c s).ring
  queue : new.queue.items ≡ (state_came lacks over c s).queue
  asleep : AgreesAsleep (state_came lacks over c s).asleep new.queue.asleep

core_came : (c : ℕ) (lacks over : Bool) (s : State) (old new : Core) (at : ℕ) (before after : Live) → before.number ≡ c → after.number ≡ c → old.live.ring ≡ s.ring → old.queue.items ≡ s.queue → AgreesAsleep s.asleep old.queue.asleep → asks_in before.conn ≡ is_any (open_calls c s) → AsksOn lacks before.conn after.conn → (lacks ≡ true → over ≡ false)
    → (over ≡ false → code.Stays old new at before after) → (over ≡ true → code.Goes old new at before) → CoreCame c lacks over s old new at after
core_came c true true s old new at before after nb na ring queue held asks on stays f g = absurd (let x = stays refl in cc)
core_came c true false s old new at before after nb na ring queue held asks on stays f g =
    let k = f refl in
    record {
      live = k.live;
      ring = k.ring ∙ ap (λ b. woken b after.number old.live.ring) (on.gone refl) ∙ ap (λ m. with_ready old.live.ring m) na ∙ ap (λ x. with_ready x c) ring;
      queue = by_asked (asks_in before.conn) refl;
      asleep = by_held (asks_in before.conn) refl;
    }
  where
    none_open : asks_in before.conn ≡ false → (calls_of c s.queue ≡ []) × (s.asleep c ≡ None)
    none_open e = open_none c s (none_any (open_calls c s) (sym asks ∙ e))

    by_asked : (b : Bool) → asks_in before.conn ≡ b → new.queue.items ≡ without_calls c s.queue
    by_asked true e = ((f refl).forgets (on.gone refl) e).0 ∙ ap (λ m. without_calls m old.queue.items) na ∙ ap (without_calls c) queue
    by_asked false e = ((f refl).waits (on.gone refl ∙ sym e)).0 ∙ queue ∙ sym (none_without c s.queue (none_open e).0)

    by_held : (b : Bool) → asks_in before.conn ≡ b → AgreesAsleep (with_asleep c None s.asleep) new.queue.asleep
    by_held true e q = ap (sleepers_of q) (((f refl).forgets (on.gone refl) e).1 ∙ ap (λ m. without_sleepers m old.queue.asleep) na) ∙ forgotten c s.asleep old.queue.asleep held q
    by_held false e q = ap (sleepers_of q) ((f refl).waits (on.gone refl ∙ sym e)).1 ∙ stays_asleep c None s.asleep old.queue.asleep (none_open e).1 held q
core_came c false true s old new at before after nb na ring queue held asks on stays f g =
    let k = g refl in
    record { live = k.live; ring = k.ring ∙ ap (λ m. without m old.live.ring) nb ∙ ap (without c) ring; queue = k.queue ∙ queue; asleep = λ q. ap (sleepers_of q) k.asleep ∙ held q }
core_came c false false s old new at before after nb na ring queue held asks on stays f g =
    let k = f refl in
    record {
      live = k.live;
      ring = k.ring ∙ ap (λ b. woken b after.number old.live.ring) (on.same refl ∙ asks) ∙ ap (λ m. woken (is_any (open_calls c s)) m old.live.ring) na ∙ ap (woken (is_any (open_calls c s)) c) ring;
      queue = (k.waits (on.same refl)).0 ∙ queue;
      asleep = λ q. ap (sleepers_of q) (k.waits (on.same refl)).1 ∙ held q;
    }

-- and its calls tell so
asks_come : (c : ℕ) (lacks over : Bool) (s : State) (o o' : Option Conn) → asks_in o ≡ is_any (open_calls c s) → AsksOn lacks o o' → asks_in o' ≡ is_any (open_calls c (state_came lacks over c s))
asks_come c true over s o o' asks on = on.gone refl ∙ sym (ap is_any (lacked_open c s))
asks_come c false over s o o' asks on = on.same refl ∙ asks

-- where its trace stands
pub stood_of : (C : Config) (past : Past) (s : State) (c : ℕ) → Served C c (seen past s c) → Stood C (heard c past) (s.places c)
stood_of C past s c v = record {
  stands = v.stands;
  orderly = stands_orderly C c (seen past s c) v;
  finished = λ found. trace_finished C c (seen past s c) v (heard_finish c past) found;
  within = v.within;
  linked = v.linked;
  late = v.late;
}

may_conn : (i : Input) (l : Live) → MayCome i l → MayConn i l.conn
may_conn i l m = by_conn l.conn i m
  where
    by_conn : (o : Option Conn) (i : Input) → MayCome i (record l { conn = o }) → MayConn i o
    by_conn None i m = tt
    by_conn (Some conn) (Bytes side bytes) m = tt
    by_conn (Some conn) (Ends side) m = tt
    by_conn (Some conn) (Resets side) m = tt
    by_conn (Some conn) (Takes side n) m = m
    by_conn (Some conn) (Connects made) m = m

-- those that ended are gone
pub ended_live : (c : ℕ) (over : Bool) (group : List Note) (live : List ℕ) → ended_in group ≡ (if over then c ∷ [] else []) → without_all (ended_in group) live ≡ (if over then without c live else live)
ended_live c over group live e = ap (λ x. without_all x live) e ∙ by_over over
  where
    by_over : (b : Bool) → without_all (if b then c ∷ [] else []) live ≡ (if b then without c live else live)
    by_over true = refl
    by_over false = refl

pub gone_live : (c : ℕ) (over : Bool) (group : List Note) (live : List ℕ) → IsDistinct nat_eq live → is_in live c ≡ true → ended_in group ≡ (if over then c ∷ [] else []) → is_in (without_all (ended_in group) live) c ≡ not over
gone_live c over group live d there e = ap (λ ns. is_in ns c) (ended_live c over group live e) ∙ by_over over
  where
    by_over : (b : Bool) → is_in (if b then without c live else live) c ≡ not b
    by_over true = not_in_without c live d
    by_over false = there

pub comes : (C : Config) (past : Past) (s : State) (old new : Core) (c : ℕ) (input : Input) (group : List Note) → Represents C past s old → code.ComesOf old new c input group → After C past s (Comes c input) group new
comes C past s old new c input group r k =
    let v = Comes c input in
    let h = heard c past in
    let there = live_there c k.at old.live.items k.before k.place k.found in
    let i = its C (seen past s c) (live_at old.live.items c) k.before (r.agrees.each c) there in
    let served = as_live C c (seen past s c) i.live (r.sound.each c) in
    let w = came_on C past s c input (stood_of C past s c served) k.before.conn k.after.conn k.before.edges group k.over i.continues i.edges (may_conn input k.before k.may) k.came in
    let number = number_at c k.at old.live.items k.before k.place k.found in
    let number' : k.after.number ≡ c = k.same.number ∙ number in
    let t = core_came c w.lacks k.over s old new k.at k.before k.after number number' r.agrees.ring r.agrees.queue r.agrees.asleep i.asking w.asks w.stays k.goes_on k.ends in
    let d = distinct_live C past s old r in
    let o = one_changed c k.over old.live.items new.live.items k.at k.before k.after d k.found number number' t.live in
    let next = state_came w.lacks k.over c s in
    let z' = seen_after past v group next c in
    let live : z'.live ≡ not k.over = gone_live c k.over group (shared past).live r.sound.distinct i.live w.ended in
    let serves = serves_still C k.before k.after (setup_of C h) (setup_of C z'.heard) k.same (ap (setup_in C) (come_told c h input group).accepted) i.serves in
    let ends_are = edges_come c h input group w.about ∙ ap (λ e. edges_noted group (edges_met input e)) i.edges ∙ sym k.edges in
    assemble C past s next v group old new r w.moves k.keeps k.last k.moment
    (o.numbers_are ∙ sym (ended_live c k.over group (numbers old.live.items) w.ended))
    t.ring t.queue t.asleep k.store o.others
    (is_live_over c k.over old.live.items new.live.items k.after z' C o live w.on (λ e. serves) (λ e. ends_are) (λ e. asks_come c w.lacks k.over s k.before.conn k.after.conn i.asking w.asks))
