-- Events that aren't refused.
use Rattle.std.proofs.Common.{◌≡◌, ℕ, ◌<◌, ◌≤◌, ◌+◌, zero, suc, List, [], ◌∷◌, length, Bool, true, false, Option, Some, None, refl, ap, sym, ◌∙◌}
use Rattle.std.proofs.Common.{subst, arith, rules}
use Rattle.std.specs.Prelude.{not, ◌&&◌, ◌||◌, nat_lt, nat_le, is_none, option_map, if◌then◌else◌}
use Rattle.std.proofs.lemmas.Grind.{common_steps}
use Rattle.px_bytes.specs.declared.addr.Addr.{Addr}
use Rattle.px_bytes.specs.declared.addr.Side.{Side}
use Rattle.px_bytes.specs.declared.addr.Side.TheVariants.{Client, Server}
use Rattle.core_events.specs.declared.edges.Edge.{Edge}
use Rattle.core_events.specs.declared.edges.Edges.{Edges}
use Rattle.core_events.specs.Edges.{edge_of, is_open, may_send, may_take}
use Rattle.core_events.specs.declared.event_kind.EventKind.TheVariants.{Accepts, Comes, Ticks}
use Rattle.core_events.specs.declared.input.Input.{Input}
use Rattle.core_events.specs.declared.input.Input.TheVariants.{Bytes, Ends, Resets, Takes}
use Rattle.proxy_core.specs.Asked.{edges_of, live_of, wants_of, pending_of}
use Rattle.record_model.specs.Past.{Past, heard, shared}
use Rattle.proxy_core.specs.Ready.{is_in}
use Rattle.record_model.specs.Refusal.{Standing, Known, refusal_by}
use Rattle.proxy_core.specs.Refusal.{known, standing_by, standing_of, refused}
use Rattle.record_model.specs.Refusal.{is_late, answers_nothing, comes_too_much, takes_too_much}
use Rattle.proxy_core.specs.Refusal.{wants_at}
use Rattle.record_model.specs.Setup.{virtual_place}
use Rattle.proxy_core.specs.Scheduler.{State, seen, untaken_of}
use Rattle.proxy_core.specs.Queries.{queue_on, pending_on as pending_on_side}
use Rattle.proxy_core.specs.Refusals.{live_at}
use Rattle.proxy_core.specs.Scheduler.{pending}
use Rattle.run_config.specs.declared.config.Config.{Config}
use Rattle.run_config.specs.declared.config.Virtual.{Virtual}
use Rattle.proxy_core.specs.declared.core_state.Core.{Core}
use Rattle.core_events.specs.declared.event.Event.TheVariants as event
use Rattle.proxy_core.specs.declared.live.Live.{Live}
use Rattle.proxy_core.proofs.Asked.{pending_told}
use Rattle.core_events.specs.Face.{MayCome, MayTake}
use Rattle.std.specs.List.{slice_get, position_from}
use Rattle.std.specs.Str.{bytes_eq}
use Rattle.proxy_core.specs.Questions.{name_at}
use Rattle.proxy_core.specs.Face.{Always, TakesEvent}

if_some : {A : Type 0} (b : Bool) (x y : A) → (if b then Some x else None) ≡ Some y → (b ≡ true) × (x ≡ y)
if_some true x y e = (refl, cc)
if_some false x y e = cc

-- a connection whose ends are told is live
pub live_edges : (past : Past) (c : ℕ) (e : Edges) → edges_of past c ≡ Some e
    → (is_in (shared past).live c ≡ true) × ((heard c past).edges ≡ e)
live_edges past c e is = if_some (is_in (shared past).live c) (heard c past).edges e is

-- how a live connection stands
abbrev pub standing_at : Config → Past → State → ℕ → Standing
standing_at C past s c = record {
  edges = (heard c past).edges;
  from_client = wants_at C (seen past s c) Client;
  from_server = wants_at C (seen past s c) Server;
  to_client = untaken_of (heard c past) (s.places c) Client;
  to_server = untaken_of (heard c past) (s.places c) Server;
}

pub stands_at : (C : Config) (past : Past) (s : State) (c : ℕ) → is_in (shared past).live c ≡ true
    → standing_of C (seen past s c) ≡ Some (standing_at C past s c)
stands_at C past s c live = ap (λ b. standing_by C b (seen past s c)) live

-- none of the reasons holds
come_rows : (C : Config) (k : Known) (c : ℕ) (input : Input) (p : Standing) → k.member ≡ true → k.conn ≡ Some p → is_late p.edges input ≡ false
    → answers_nothing p.edges input ≡ false → comes_too_much (Some p) input ≡ false → takes_too_much (Some p) input ≡ false
    → refusal_by C k (Comes c input) ≡ None
come_rows C k c input p member is late nothing much took = cc

pub comes_taken : (C : Config) (past : Past) (s : State) (c : ℕ) (input : Input) → is_in (shared past).live c ≡ true
    → is_late (heard c past).edges input ≡ false → answers_nothing (heard c past).edges input ≡ false
    → comes_too_much (Some (standing_at C past s c)) input ≡ false → takes_too_much (Some (standing_at C past s c)) input ≡ false
    → refused C past s (Comes c input) ≡ None
comes_taken C past s c input live late nothing much took =
    come_rows C (known C past s (Comes c input)) c input (standing_at C past s c) refl (stands_at C past s c live) late nothing much took

pub accept_rows : (C : Config) (k : Known) (n : ℕ) (vs : List ℕ) (from : Addr) → k.member ≡ true → nat_le n k.last ≡ false
    → is_none (virtual_place C vs) ≡ false → nat_le C.connections k.live ≡ false → refusal_by C k (Accepts n vs from) ≡ None
accept_rows C k n vs from member above virtual room = cc

pub tick_rows : (C : Config) (k : Known) (m : ℕ) → k.member ≡ true → nat_lt m k.moment ≡ false → refusal_by C k (Ticks m) ≡ None
tick_rows C k m member back = cc

pub not_less : (a b : ℕ) → b ≤ a → nat_lt a b ≡ false
not_less a b le = grind (arith, common_steps)

pub not_at_most : (a b : ℕ) → b < a → nat_le a b ≡ false
not_at_most a b lt = grind (arith, common_steps)

both : (o e r : Bool) → (o && not (e || r)) ≡ true → (o && not r) ≡ true
both true true true x = x
both true true false x = refl
both true false true x = x
both true false false x = refl
both false e r x = x

-- what may send may take
pub sends_takes : (x : Edge) → may_send x ≡ true → may_take x ≡ true
sends_takes x e = both (is_open x.state) x.ended x.reset e

pub not_false : (b : Bool) → b ≡ true → not b ≡ false
not_false b e = ap not e

late_by : (past : Past) (c : ℕ) (edges : Edges) (side : Side) (test : Edge → Bool) → Some edges ≡ edges_of past c → test (edge_of side edges) ≡ true
    → not (test (edge_of side (heard c past).edges)) ≡ false
late_by past c edges side test told e =
    not_false (test (edge_of side (heard c past).edges)) (ap (λ (x : Edges). test (edge_of side x)) (live_edges past c edges (sym told)).1 ∙ e)

is_live : (past : Past) (c : ℕ) (edges : Edges) → Some edges ≡ edges_of past c → is_in (shared past).live c ≡ true
is_live past c edges told = (live_edges past c edges (sym told)).0

ends_taken : (C : Config) (past : Past) (s : State) (c : ℕ) (side : Side) (edges : Edges) → Some edges ≡ edges_of past c
    → may_send (edge_of side edges) ≡ true → refused C past s (Comes c (Ends side)) ≡ None
ends_taken C past s c side edges told sends =
    comes_taken C past s c (Ends side) (is_live past c edges told) (late_by past c edges side may_send told sends) refl refl refl

resets_taken : (C : Config) (past : Past) (s : State) (c : ℕ) (side : Side) (edges : Edges) → Some edges ≡ edges_of past c
    → may_take (edge_of side edges) ≡ true → refused C past s (Comes c (Resets side)) ≡ None
resets_taken C past s c side edges told takes =
    comes_taken C past s c (Resets side) (is_live past c edges told) (late_by past c edges side may_take told takes) refl refl refl

wants_eq : (C : Config) (past : Past) (s : State) (c : ℕ) (side : Side) (n : ℕ) → Some n ≡ wants_of C past s c side
    → n ≡ wants_at C (seen past s c) side
wants_eq C past s c side n told = sym (if_some (is_in (shared past).live c) (wants_at C (seen past s c) side) n (sym told)).1

much_by : (C : Config) (past : Past) (s : State) (c : ℕ) (side : Side) (n : ℕ) (b : List ℕ) → n ≡ wants_at C (seen past s c) side → length b ≤ n
    → comes_too_much (Some (standing_at C past s c)) (Bytes side b) ≡ false
much_by C past s c Client n b is le = not_less (wants_at C (seen past s c) Client) (length b) (subst (λ k. length b ≤ k) is le)
much_by C past s c Server n b is le = not_less (wants_at C (seen past s c) Server) (length b) (subst (λ k. length b ≤ k) is le)

bytes_taken : (C : Config) (past : Past) (s : State) (c : ℕ) (side : Side) (edges : Edges) (n : ℕ) (b : List ℕ) → Some edges ≡ edges_of past c
    → may_send (edge_of side edges) ≡ true → Some n ≡ wants_of C past s c side → length b ≤ n → refused C past s (Comes c (Bytes side b)) ≡ None
bytes_taken C past s c side edges n b told sends wants le =
    comes_taken C past s c (Bytes side b) (is_live past c edges told) (late_by past c edges side may_send told sends) refl
    (much_by C past s c side n b (wants_eq C past s c side n wants) le) refl

took_by : (C : Config) (past : Past) (s : State) (c : ℕ) (side : Side) (n k : ℕ) → n ≡ pending past s c side → k ≤ n
    → takes_too_much (Some (standing_at C past s c)) (Takes side k) ≡ false
took_by C past s c Client n k is le = not_less (pending past s c Client) k (subst (λ m. k ≤ m) is le)
took_by C past s c Server n k is le = not_less (pending past s c Server) k (subst (λ m. k ≤ m) is le)

pending_eq : (past : Past) (s : State) (c : ℕ) (side : Side) (n : ℕ) → Some n ≡ pending_of past s c side → n ≡ pending past s c side
pending_eq past s c side n told = sym (if_some (is_in (shared past).live c) (pending past s c side) n (sym told)).1

took_taken : (C : Config) (past : Past) (s : State) (c : ℕ) (side : Side) (edges : Edges) (n k : ℕ) → Some edges ≡ edges_of past c
    → may_take (edge_of side edges) ≡ true → Some n ≡ pending_of past s c side → k ≤ n → refused C past s (Comes c (Takes side k)) ≡ None
took_taken C past s c side edges n k told takes pending le =
    comes_taken C past s c (Takes side k) (is_live past c edges told) (late_by past c edges side may_take told takes) refl refl
    (took_by C past s c side n k (pending_eq past s c side n pending) le)

-- so many bytes, an end and a reset may come of a side that sends
pub may_come_of : (core : Core) (c : ℕ) (side : Side) (edges : Edges) (n : ℕ) → Always core (λ C past s. Some edges ≡ edges_of past c)
    → may_send (edge_of side edges) ≡ true → Always core (λ C past s. Some n ≡ wants_of C past s c side) → MayCome (TakesEvent core) c side n
may_come_of core c Client edges n told sends wants = record {
  bytes = λ b le C past s r. bytes_taken C past s c Client edges n b (told C past s r) sends (wants C past s r) le;
  ended = λ C past s r. ends_taken C past s c Client edges (told C past s r) sends;
  reset = λ C past s r. resets_taken C past s c Client edges (told C past s r) (sends_takes (edge_of Client edges) sends);
}
may_come_of core c Server edges n told sends wants = record {
  bytes = λ b le C past s r. bytes_taken C past s c Server edges n b (told C past s r) sends (wants C past s r) le;
  ended = λ C past s r. ends_taken C past s c Server edges (told C past s r) sends;
  reset = λ C past s r. resets_taken C past s c Server edges (told C past s r) (sends_takes (edge_of Server edges) sends);
}

-- a side that takes may take all that is pending, or reset
pub may_take_of : (core : Core) (c : ℕ) (side : Side) (edges : Edges) (n : ℕ) → Always core (λ C past s. Some edges ≡ edges_of past c)
    → may_take (edge_of side edges) ≡ true → Always core (λ C past s. Some n ≡ pending_of past s c side) → MayTake (TakesEvent core) c side n
may_take_of core c Client edges n told takes pending = record {
  took = λ k le C past s r. took_taken C past s c Client edges n k (told C past s r) takes (pending C past s r) le;
  broken = λ C past s r. resets_taken C past s c Client edges (told C past s r) takes;
}
may_take_of core c Server edges n told takes pending = record {
  took = λ k le C past s r. took_taken C past s c Server edges n k (told C past s r) takes (pending C past s r) le;
  broken = λ C past s r. resets_taken C past s c Server edges (told C past s r) takes;
}

some_list : (x y : List ℕ) → Some x ≡ Some y → x ≡ y
some_list x y e = cc

length_of : (side : Side) (o : Option Live) (q : List ℕ) → Some q ≡ option_map (λ l. queue_on side l.conn) o
    → Some (length q) ≡ option_map (λ l. pending_on_side side l.conn) o
length_of side None q e = cc
length_of side (Some l) q e = ap (λ (x : List ℕ). Some (length x)) (some_list q (queue_on side l.conn) e)

-- as many bytes are pending as stand in the queue
pub queue_length : (core : Core) (c : ℕ) (side : Side) (q : List ℕ) → Some q ≡ option_map (λ l. queue_on side l.conn) (live_at core.live.items c)
    → Always core (λ C past s. Some (length q) ≡ pending_of past s c side)
queue_length core c side q exact C past s r = pending_told C past s core c side (Some (length q)) (length_of side (live_at core.live.items c) q exact) r

same_bytes : (x : List ℕ) → bytes_eq x x ≡ true
same_bytes x = search rules

found_here : (v : Virtual) (vs : List Virtual) (k : ℕ) (name : List ℕ) → v.name ≡ name → is_none (position_from (λ w. bytes_eq w.name name) k (v ∷ vs)) ≡ false
found_here v vs k name e =
    ap (λ b. is_none (if b then Some k else position_from (λ w. bytes_eq w.name name) (k + 1) vs)) (ap (λ (n : List ℕ). bytes_eq n name) e ∙ same_bytes name)

found_there : (b : Bool) (k : ℕ) (o : Option ℕ) → is_none o ≡ false → is_none (if b then Some k else o) ≡ false
found_there true k o e = refl
found_there false k o e = e

above : (last l : ℕ) → last ≡ l → l < last + 1
above last l e = subst (λ k. k < last + 1) e (omega arith)

less_by : (a b c d : ℕ) → a ≡ b → c ≡ d → a < c → b < d
less_by a b c d x y lt = subst (λ k. b < k) y (subst (λ k. k < c) x lt)

found : (vs : List Virtual) (k slot : ℕ) (name : List ℕ) → Some name ≡ option_map (λ v. v.name) (slice_get vs slot)
    → is_none (position_from (λ v. bytes_eq v.name name) k vs) ≡ false
found [] k slot name e = cc
found (v ∷ vs) k zero name e = found_here v vs k name (sym (some_list name v.name e))
found (v ∷ vs) k (suc slot) name e = found_there (bytes_eq v.name name) k _ (found vs (k + 1) slot name e)

-- the next connection may be accepted
pub may_accept_of : (core : Core) (last live limit : ℕ) → Always core (λ C past s. last ≡ (shared past).last)
    → Always core (λ C past s. live ≡ live_of past) → Always core (λ C past s. limit ≡ C.connections) → live < limit
    → (slot : ℕ) (name : List ℕ) (from : Addr) → Always core (λ C past s. Some name ≡ name_at C slot)
    → TakesEvent core (event.Accept (last + 1) name from)
may_accept_of core last live limit last_told live_told limit_told room slot name from named C past s r =
    accept_rows C (known C past s (Accepts (last + 1) name from)) (last + 1) name from refl
    (not_at_most (last + 1) (shared past).last (above last (shared past).last (last_told C past s r)))
    (found C.virtuals 0 slot name (named C past s r))
    (not_at_most C.connections (live_of past) (less_by live (live_of past) limit C.connections (live_told C past s r) (limit_told C past s r) room))
