-- What bytes, ends, resets and connect answers owe: their own connection.
use Rattle.std.proofs.Common.{◌≡◌, refl, sym, ap, subst, ◌∙◌, ℕ, ◌+◌, ◌≤◌, List, [], ◌∷◌, ◌++◌, length, map, Bool, true, false, ◌||◌, ◌&&◌, not, Option, Some, None, nat_eq, arith, append-nil, append_assoc, if◌then◌else◌, ◌⊎◌, inl, inr, eqb-true}
use Rattle.std.specs.Prelude.{is_some}
use Rattle.std.specs.List.{IsDistinct, filter, list_any}
use Rattle.std.proofs.lemmas.Grind.{flat_map-append}
use Rattle.px_bytes.specs.declared.addr.Side.{Side}
use Rattle.px_bytes.specs.declared.addr.Side.TheVariants.{Client, Server}
use Rattle.core_events.specs.declared.edges.Edges.{Edges}
use Rattle.core_events.specs.declared.note.Note.{Note}
use Rattle.core_events.specs.declared.note.Note.TheVariants.{Ended}
use Rattle.core_events.specs.Edges.{edge_of, edges_noted, is_connecting}
use Rattle.conn_trace.specs.Further.{Further, Same, longer, first_cut, replies_only, nothing_further}
use Rattle.conn_trace.specs.Further as further
use Rattle.conn_trace.specs.Gates.{Counts, TakenCounts, no_bytes, sent_from, to_take, untaken}
use Rattle.core_events.specs.declared.event_kind.EventKind.TheVariants.{Comes}
use Rattle.core_events.specs.declared.input.Input.{Input}
use Rattle.conn_trace.specs.Heard.{Heard, taken, hears, start_of, further_of, edges_met}
use Rattle.conn_trace.specs.HeardLaws.{TellsNothing}
use Rattle.conn_trace.specs.Item.{Item, shown, listed, calls_in, cause_of, notes_of, reasons_in}
use Rattle.conn_trace.specs.Laws.{AtLeast, TakesMore}
use Rattle.conn_trace.specs.Setup.{Setup}
use Rattle.conn_trace.specs.State.{TraceState, ForReply, Next, Waits, Over}
use Rattle.conn_trace.specs.Tellings.{tells, notes_about, finish_told}
use Rattle.conn_trace.specs.Trace.{next_item, Unfolds}
use Rattle.conn_trace.proofs.Given.{no_cut_behind, next_same_on_replies}
use Rattle.conn_trace.proofs.Longer.{next_same}
use Rattle.conn_trace.proofs.Stepping.{finishes_once}
use Rattle.conn_trace.proofs.Taking.{met_more}
use Rattle.conn.specs.Calls.{unless_finished}
use Rattle.conn.specs.Settling.{is_drained, is_over, is_given_up, is_there, settling, settling_at, took_all, given_up_at, server_notes}
use Rattle.proxy_core.specs.Calls.{is_any}
use Rattle.record_model.specs.History.{called_in, entries_in}
use Rattle.proxy_core.specs.Live.{further_in}
use Rattle.proxy_core.specs.Moves.{came}
use Rattle.record_model.specs.Past.{Past, heard, ended_in, without_all, shared}
use Rattle.proxy_core.specs.Ready.{is_in}
use Rattle.record_model.specs.Refusal.{answers_nothing}
use Rattle.proxy_core.specs.Scheduler.{open_calls, State, entries, Seen, seen, seen_after, untaken_all, untaken_of}
use Rattle.record_model.specs.Setup.{begins_at, setup_in, setup_of, stand_of}
use Rattle.proxy_core.specs.Shown.{shows, closes_for_good, ends_it, causes_told, causes_behind}
use Rattle.proxy_core.specs.Servers.{closed_servers, draining, draining_by, given_up}
use Rattle.proxy_core.specs.Sound.{ClosedWhere, is_closed, TookWithin, EndsClosed, EndsTold, Spot, CallsTold, Served}
use Rattle.run_config.specs.declared.config.Config.{Config}
use Rattle.proxy_core.proofs.CameAt.{UncutOr, heard_uncut, stands_come}
use Rattle.proxy_core.proofs.Closings.{EndsBy, any_on, closes_at, none_on, met_closed, settling_at_ends, settling_closed, settling_gone, settling_opens}
use Rattle.proxy_core.proofs.EdgeNotes.{edges_come}
use Rattle.proxy_core.proofs.Ending.{over_has_finished}
use Rattle.proxy_core.proofs.Entries.{entries_without_self, rest_of, woken_of, entries_woken_self}
use Rattle.proxy_core.proofs.Finished.{heard_finish, trace_finished}
use Rattle.proxy_core.proofs.GroupNotes.{AreDue, tells_all, due_about, due_failure, due_finish, due_quiet, due_entries, settling_due, ended_settling_at, called_on, due_asks}
use Rattle.proxy_core.proofs.Hearing.{come_told, come_takes}
use Rattle.proxy_core.proofs.Meeting.{come_further}
use Rattle.proxy_core.proofs.Members.{not_in_without}
use Rattle.proxy_core.proofs.Licensing.{come_licensed}
use Rattle.proxy_core.proofs.LinkedComes.{come_linked}
use Rattle.proxy_core.proofs.Overs.{over_at, over_stays}
use Rattle.proxy_core.proofs.Standing.{longer_pays, sent_at, served_at}
use Rattle.proxy_core.proofs.Sums.{causes_due, shown_due}
use Rattle.proxy_core.proofs.SoundAccepts.{or_false}
use Rattle.proxy_core.proofs.Linking.{closed_joined}
use Rattle.proxy_core.proofs.ServerLaws.{ordered_longer}
use Rattle.proxy_core.proofs.ServerLeft.{ordered_at}
use Rattle.conn_trace.proofs.Streams.{link_same}
use Rattle.proxy_core.proofs.LateServers.{come_late}

-- Comes
pub ring_came : (over : Bool) (c : ℕ) (old : State) → entries c (came c over old).ring ≡ (if over then rest_of (entries c old.ring) else woken_of (is_any (open_calls c old)) c (entries c old.ring))
ring_came true c old = entries_without_self c old.ring
ring_came false c old = entries_woken_self (is_any (open_calls c old)) c old.ring

-- ---- the calls of its items, and its entries

-- behind notes that are no entries
pub calls_on : (f f' : Bool) (asked asked' : List (List (List ℕ))) (place : List Item) (notes group : List Note) → CallsTold f asked place notes → entries_in group ≡ [] → (f' ≡ false → (f ≡ false) × (asked' ≡ asked)) → CallsTold f' asked' place (notes ++ group)
calls_on f f' asked asked' place notes group k none keeps = record {
  unanswered = k.unanswered;
  calls = k.calls ∙ ap (λ x. x ++ k.unanswered) (sym (called_on notes group ∙ ap (λ es. called_in notes ++ map (λ e. e.call) es) none ∙ append-nil (called_in notes)));
  few = k.few;
  open_now = λ e. k.open_now (keeps e).0 ∙ sym (keeps e).1;
}

-- items more, the last of them perhaps a call
pub calls_more : (f : Bool) (called asked : List (List (List ℕ))) (place more : List Item) (notes group : List Note) → CallsTold false [] place notes → entries_in group ≡ [] → calls_in more ≡ called → length called ≤ 1 → (f ≡ false → called ≡ asked) → CallsTold f asked (place ++ more) (notes ++ group)
calls_more f called asked place more notes group k none all few opens = record {
  unanswered = called;
  calls = flat_map-append (λ i. listed (shown i).call) place more ∙ ap (λ x. x ++ calls_in more) (k.calls ∙ ap (λ x. called_in notes ++ x) (k.open_now refl) ∙ append-nil (called_in notes)) ∙ ap (λ x. called_in notes ++ x) all
      ∙ ap (λ x. x ++ called) (sym (called_on notes group ∙ ap (λ es. called_in notes ++ map (λ e. e.call) es) none ∙ append-nil (called_in notes)));
  few = few;
  open_now = opens;
}

-- the open one is answered
pub calls_answered : (f : Bool) (call : List (List ℕ)) (place : List Item) (notes group : List Note) → CallsTold false (call ∷ []) place notes → called_in group ≡ call ∷ [] → CallsTold f [] place (notes ++ group)
calls_answered f call place notes group k all = record {
  unanswered = [];
  calls = k.calls ∙ ap (λ x. called_in notes ++ x) (k.open_now refl ∙ sym all) ∙ sym (called_on notes group) ∙ sym (append-nil (called_in (notes ++ group)));
  few = omega arith;
  open_now = λ e. refl;
}

-- one that waits isn't drained
waits_on : (g : Setup) (took : TakenCounts) (at : TraceState) (call : List (List ℕ)) → next_item g at ≡ Waits (ForReply call) → is_drained g took at ≡ false
waits_on g took at call e = ap (λ o. is_over o && (took_all at took Client && took_all at took Server)) e

spot_came : (over : Bool) (c : ℕ) (ready : List ℕ) (asked : List (List (List ℕ))) (g : Setup) (took took' : TakenCounts) (l at : TraceState) (e e' : Edges) → Spot false true ready asked g took l e → ((call : List (List ℕ)) → next_item g l ≡ Waits (ForReply call) → next_item g at ≡ Waits (ForReply call)) → over ≡ is_drained g took' at
    → Spot false (not over) (if over then rest_of ready else woken_of (is_any asked) c ready) asked g took' at e'
spot_came false c [] [] g took took' l at e e' s waits j = tt
spot_came true c [] [] g took took' l at e e' s waits j = sym j
spot_came false c [] (call ∷ []) g took took' l at e e' s waits j = waits call s
spot_came true c [] (call ∷ []) g took took' l at e e' s waits j = absurd (let x : true ≡ false = j ∙ waits_on g took' at call (waits call s) in cc)
spot_came over c [] (call ∷ (k ∷ ks)) g took took' l at e e' s waits j = absurd s
spot_came false c (x ∷ []) [] g took took' l at e e' s waits j = tt
spot_came true c (x ∷ []) [] g took took' l at e e' s waits j = sym j
spot_came over c (x ∷ []) (call ∷ ks) g took took' l at e e' s waits j = absurd s
spot_came over c (x ∷ (y ∷ ys)) asked g took took' l at e e' s waits j = absurd s

-- of an event by which something comes: the connection is live, and no more is taken than was sent
pub record MayCome (C : Config) (c : ℕ) (input : Input) (z : Seen) : Type 0 where
  pub live : z.live ≡ true
  pub accepted : is_some z.heard.accepted ≡ true
  pub served : Served C c z
  pub within : (group : List Note) → TookWithin (hears c z.heard (Comes c input) group) z.place
  pub asked : answers_nothing z.heard.edges input ≡ false

-- where it waits for a reply it waits on, unless one comes
waits_still : (C : Config) (c : ℕ) (z : Seen) (input : Input) (group : List Note) → Served C c z → UncutOr z.heard.cut z.heard.finished → TellsNothing c group → finish_told (notes_about c group) ≡ false → (call : List (List ℕ)) → next_item (setup_of C z.heard) (stand_of C z.heard z.place) ≡ Waits (ForReply call)
    → next_item (setup_of C z.heard) (longer (further_of c z.heard (Comes c input) group) (stand_of C z.heard z.place)) ≡ Waits (ForReply call)
waits_still C c z input group k (inl none) quiet going call e =
    let g = setup_of C z.heard in
    let l = stand_of C z.heard z.place in
    let f = further_of c z.heard (Comes c input) group in
    let S : Next → Type 0 = λ o. Same f o (next_item g (longer f l)) in
    subst S e (next_same g l f (no_cut_behind g (begins_at C z.heard) l z.place none k.stands) (quiet.cut _)) (ap (λ rs. further.is_some_of rs) quiet.replies)
waits_still C c z input group k (inr done) quiet going call e =
    let g = setup_of C z.heard in
    let l = stand_of C z.heard z.place in
    let S : Next → Type 0 = λ o. Same (replies_only []) o (next_item g (longer (replies_only []) l)) in
    let is : further_of c z.heard (Comes c input) group ≡ nothing_further = come_further c z.heard input group quiet going ∙ ap (λ b. unless_finished b (further_in input)) done in
    ap (λ f. next_item g (longer f l)) is ∙ subst S e (next_same_on_replies g l []) refl

-- a trace that is over has finished
over_then : (C : Config) (c : ℕ) (z : Seen) (h : Heard) (f : Further) → Served C c z → (stand_of C z.heard z.place).finished ≡ z.heard.finished → UncutOr z.heard.cut z.heard.finished → f.cut ≡ None → Unfolds (setup_of C z.heard) (start_of (setup_of C z.heard) h) z.place (longer f (stand_of C z.heard z.place))
    → next_item (setup_of C z.heard) (longer f (stand_of C z.heard z.place)) ≡ Over → z.heard.finished ≡ true
over_then C c z h f k same (inr done) uncut u e = done
over_then C c z h f k same (inl none) uncut u e =
    let g = setup_of C z.heard in
    let l = stand_of C z.heard z.place in
    let start = start_of g h in
    let cut : (longer f l).answers.cut ≡ None = ap (λ x. first_cut x f.cut) (no_cut_behind g (begins_at C z.heard) l z.place none k.stands) ∙ uncut in
    sym same ∙ over_has_finished g (longer f l) cut (finishes_once g start.client start.answers (longer f l) z.place u).orderly e

-- what is taken stays taken
take_less : (n : ℕ) (a b : Option ℕ) → AtLeast a b → untaken n a ≡ 0 → untaken n b ≡ 0
take_less n a None p e = refl
take_less n None (Some k) p e = absurd p
take_less n (Some m) (Some k) p e = omega (arith, p, e)

side_less : (sent : Counts) (took more : TakenCounts) (side : Side) → TakesMore took more → to_take sent took side ≡ 0 → to_take sent more side ≡ 0
side_less sent took more Client m e = take_less sent.client took.client more.client m.client e
side_less sent took more Server m e = take_less sent.server _ _ (m.servers sent.number) e

-- where an end may be closed
abbrev pub ClosedBy : Side → Setup → TraceState → Type 0
ClosedBy Client g at = (next_item g at ≡ Over) × (at.finished ≡ true)
ClosedBy Server g at = ((next_item g at ≡ Over) × (at.finished ≡ true)) ⊎ (given_up_at at ≡ true)

pub over_closed : (side : Side) (g : Setup) (at : TraceState) → next_item g at ≡ Over → at.finished ≡ true → ClosedBy side g at
over_closed Client g at o f = (o, f)
over_closed Server g at o f = inl (o, f)

pub closed_by : (g : Setup) (at : TraceState) (e : Edges) → ClosedWhere g at e → (side : Side) → is_closed (edge_of side e).state ≡ true → ClosedBy side g at
closed_by g at e k Client q = k.client q
closed_by g at e k Server q = k.server q

-- by what is due
pub due_closed : (side : Side) (g : Setup) (at : TraceState) → closes_at side (is_over (next_item g at)) (given_up_at at) ≡ true → (is_over (next_item g at) ≡ true → at.finished ≡ true) → ClosedBy side g at
due_closed Client g at e f = (over_at (next_item g at) e, f e)
due_closed Server g at e f = by_over (is_over (next_item g at)) refl e
  where
    by_over : (b : Bool) → is_over (next_item g at) ≡ b → (b || given_up_at at) ≡ true → ClosedBy Server g at
    by_over true o q = inl (over_at (next_item g at) o, f o)
    by_over false o q = inr q

-- an end that is closed took all
abbrev TookEach : Heard → List Item → Type 0
TookEach h place = (side : Side) → is_closed (edge_of side h.edges).state ≡ true → untaken_of h place side ≡ 0

pub took_each : (c : ℕ) (z : Seen) → EndsTold c z → z.heard.failed ≡ false → TookEach z.heard z.place
took_each c z k found Client e = k.client_took_all found e
took_each c z k found Server e = k.server_took_all found e

pub or_split : (a b : Bool) → (a || b) ≡ true → (a ≡ true) ⊎ (b ≡ true)
or_split true b e = inl refl
or_split false b e = inr e

not_over : (over : Bool) → not over ≡ true → over ≡ false
not_over true e = cc
not_over false e = refl

is_ended : (over : Bool) → not over ≡ false → over ≡ true
is_ended true e = refl
is_ended false e = cc

pub or_true : (b : Bool) → (b || true) ≡ true
or_true true = refl
or_true false = refl

pub or_first : (a b : Bool) → a ≡ true → (a || b) ≡ true
or_first true b e = refl
or_first false b e = cc

pub unless : (b : Bool) → (b ≡ true → ⊥) → b ≡ false
unless true n = absurd (n refl)
unless false n = refl

pub or_none : (a b : Bool) → (a || b) ≡ false → a ≡ false
or_none true b e = cc
or_none false b e = refl

-- the ends of one that was live, by its notes
pub ends_told : (c : ℕ) (z z' : Seen) (group : List Note) (over : Bool) → EndsTold c z → z.live ≡ true → z'.heard.notes ≡ z.heard.notes ++ group → z'.live ≡ not over → EndsBy c (untaken_all z'.heard z'.place) over group
    → (over ≡ true → (is_there z'.heard.edges.client.state ≡ false) × (is_there z'.heard.edges.server.state ≡ false)) → (z.heard.finished ≡ true → z'.heard.finished ≡ true) → (list_any closes_for_good group ≡ true → z'.heard.finished ≡ true) → (z'.heard.failed ≡ false → TookEach z'.heard z'.place) → EndsTold c z'
ends_told c z z' group over k live notes now by gone finished closed took = record {
  while_live = λ e. ap (list_any ends_it) notes ∙ none_on ends_it z.heard.notes group (k.while_live live) ∙ by.going (not_over over (sym now ∙ e));
  over = λ e. ended (is_ended over (sym now ∙ e));
  closed_has_finished = λ e. by_closed (or_split (list_any closes_for_good z.heard.notes) (list_any closes_for_good group) (sym (any_on closes_for_good z.heard.notes group) ∙ ap (list_any closes_for_good) (sym notes) ∙ e));
  client_took_all = λ f e. took f Client e;
  server_took_all = λ f e. took f Server e;
}
  where
    ended : over ≡ true → EndsClosed c (untaken_all z'.heard z'.place) z'.heard
    ended e =
        let l = by.last e in
        let g = gone e in
        record {
          before = z.heard.notes ++ l.before;
          notes_are = notes ∙ ap (λ ns. z.heard.notes ++ ns) l.is ∙ sym (append_assoc z.heard.notes l.before (Ended c (untaken_all z'.heard z'.place) ∷ []));
          once = none_on ends_it z.heard.notes l.before (k.while_live live) ∙ l.once;
          client = g.0;
          server = g.1;
        }

    by_closed : (list_any closes_for_good z.heard.notes ≡ true) ⊎ (list_any closes_for_good group ≡ true) → z'.heard.finished ≡ true
    by_closed (inl e) = finished (k.closed_has_finished e)
    by_closed (inr e) = closed e

pub ended_if : (over : Bool) (c : ℕ) (live : List ℕ) → IsDistinct nat_eq live → is_in live c ≡ true → is_in (without_all (if over then c ∷ [] else []) live) c ≡ not over
ended_if true c live d e = not_in_without c live d
ended_if false c live d e = e

-- an end that is closed then
pub record ClosedNow (g : Setup) (at : TraceState) (h : Heard) (place : List Item) (side : Side) : Type 0 where
  pub there : ClosedBy side g at
  pub none : untaken_of h place side ≡ 0

pub closed_where : (g : Setup) (at : TraceState) (h : Heard) (place : List Item) → ((side : Side) → is_closed (edge_of side h.edges).state ≡ true → ClosedNow g at h place side) → ClosedWhere g at h.edges
closed_where g at h place now = record { client = λ e. (now Client e).there; server = λ e. (now Server e).there }

pub either : {A B R T : Type 0} → (A × B) ⊎ R → (A → B → T) → (R → T) → T
either (inl q) f g = f q.0 q.1
either (inr q) f g = g q

-- where it stands on more the same drains
pub longer_drains : (took : TakenCounts) (f : Further) (l : TraceState) → draining took (longer f l) ≡ draining took l
longer_drains took f l = ap (λ k. draining_by (is_given_up k) (nat_eq (to_take l.sent took Server) 0)) (link_same f l)

-- as many are closed as were given up and took all
pub come_drains : (notes group all : List Note) (before behind given : ℕ) → all ≡ notes ++ group → closed_servers group + behind ≡ before → closed_servers notes + before ≡ given → closed_servers all + behind ≡ given
come_drains notes group all before behind given is k e =
    let a = ap closed_servers is in
    let b = closed_joined notes group in
    omega (arith, a, b, k, e)

pub closed_stays : (g : Setup) (l : TraceState) (f : Further) (side : Side) → ClosedBy side g l → ClosedBy side g (longer f l)
closed_stays g l f Client o = (over_stays g l f o.1 o.0, o.1)
closed_stays g l f Server (inl o) = inl (over_stays g l f o.1 o.0, o.1)
closed_stays g l f Server (inr given) = inr (ap is_given_up (link_same f l) ∙ given)

pub come_served : (C : Config) (past : Past) (c : ℕ) (input : Input) (group : List Note) (over : Bool) (old : State) → IsDistinct nat_eq (shared past).live → MayCome C c input (seen past old c) → (heard c past).failed ≡ false
    → group ≡ settling_at (setup_of C (heard c past)) (taken (hears c (heard c past) (Comes c input) group)) (longer (further_of c (heard c past) (Comes c input) group) (stand_of C (heard c past) (old.places c))) c (edges_met input (heard c past).edges) (untaken_all (hears c (heard c past) (Comes c input) group) (old.places c))
    → over ≡ is_drained (setup_of C (heard c past)) (taken (hears c (heard c past) (Comes c input) group)) (longer (further_of c (heard c past) (Comes c input) group) (stand_of C (heard c past) (old.places c)))
    → Served C c (seen_after past (Comes c input) group (came c over old) c)
come_served C past c input group over old distinct m found is drained =
    let z = seen past old c in
    let h = z.heard in
    let v = Comes c input in
    let h' = hears c h v group in
    let g = setup_of C h in
    let k = m.served in
    let l = stand_of C h z.place in
    let f = further_of c h v group in
    let at = longer f l in
    let took = taken h' in
    let d = untaken_all h' z.place in
    let e = edges_met input h.edges in
    let due : AreDue c group = (let D : List Note → Type 0 = λ ns. AreDue c ns in subst D (sym is) (settling_due (is_over (next_item g at)) (given_up_at at) c e (took_all at took Server) (took_all at took Client) d)) in
    let about = due_about c group due in
    let t = come_told c h input group about in
    let quiet = due_quiet c group due in
    let going : finish_told (notes_about c group) ≡ false = ap finish_told (tells_all c group about) ∙ due_finish c group due in
    let uncut = heard_uncut c past in
    let stands = stands_come g c h input group z.place l uncut quiet going k.stands in
    let failed : h'.failed ≡ h.failed = t.failed ∙ ap (λ b. h.failed || b) (due_failure c group due) ∙ or_false h.failed in
    let z' = seen_after past v group (came c over old) c in
    let ended : ended_in group ≡ (if over then c ∷ [] else []) = ap ended_in is ∙ ended_settling_at g took at c e d ∙ ap (λ b. if b then c ∷ [] else []) (sym drained) in
    let live : z'.live ≡ not over = ap (λ ns. is_in (without_all ns (shared past).live) c) ended ∙ ended_if over c (shared past).live distinct m.live in
    let ready : z'.ready ≡ (if over then rest_of z.ready else woken_of (is_any z.asked) c z.ready) = ring_came over c old in
    let T : Bool → Type 0 = λ b. Spot b z.live z.ready z.asked g (taken h) l h.edges in
    let S : Bool → Type 0 = λ b. Spot false b z.ready z.asked g (taken h) l h.edges in
    let spot = spot_came over c z.ready z.asked g (taken h) took l at h.edges h'.edges (subst S m.live (subst T found k.spot)) (waits_still C c z input group k uncut quiet going) drained in
    let F : Bool → Type 0 = λ b. Spot b z'.live z'.ready z.asked g took at h'.edges in
    let L : Bool → Type 0 = λ b. Spot false b z'.ready z.asked g took at h'.edges in
    let R : List ℕ → Type 0 = λ r. Spot false (not over) r z.asked g took at h'.edges in
    let K : List Note → Type 0 = λ ns. CallsTold h'.failed z'.asked z.place ns in
    let same = trace_finished C c z k (heard_finish c past) found in
    let edges : h'.edges ≡ edges_noted (settling_at g took at c e d) e = edges_come c h input group about ∙ ap (λ ns. edges_noted ns e) is in
    let more = come_takes c h input group in
    let sent = sent_at g h' z.place at stands in
    let opens = over_then C c z h' f k same uncut (quiet.cut _) stands in
    let now : (side : Side) → is_closed (edge_of side h'.edges).state ≡ true → ClosedNow g at h' z.place side = λ side q. either
    (settling_closed g took at c e e d side (let Q : Edges → Type 0 = λ x. is_closed (edge_of side x).state ≡ true in subst Q edges q))
    (λ o p. record { there = due_closed side g at o (λ v. same ∙ opens (over_at (next_item g at) v)); none = ap (λ s. to_take s took side) (sym sent) ∙ eqb-true (to_take at.sent took side) 0 p })
    (λ w. (let b = met_closed input h.edges side w in record { there = closed_stays g l f side (closed_by g l h.edges (k.closed_over found) side b); none = side_less (sent_from no_bytes z.place) (taken h) took side more (took_each c z k.ends found side b) })) in
    let finished : h'.finished ≡ h.finished = t.finished ∙ ap (λ b. h.finished || b) (due_finish c group due) ∙ or_false h.finished in
    let goes : h.finished ≡ false → is_over (next_item g at) ≡ false = λ x. unless (is_over (next_item g at)) (λ o. (let y = sym (opens (over_at (next_item g at) o)) ∙ x in cc)) in
    let due_group : h.finished ≡ false → group ≡ server_notes c (given_up_at at && took_all at took Server) e = λ x. is ∙ ap (λ b. settling b (given_up_at at) c e (took_all at took Server) (took_all at took Client) d) (goes x) in
    let un = ordered_at g h z.place l k.stands in
    let less : to_take l.sent (taken h) Server ≡ 0 → to_take l.sent took Server ≡ 0 = side_less l.sent (taken h) took Server more in
    let came_linked = come_linked h.finished h'.finished (taken h) took input f l c group h.edges h'.edges (come_further c h input group quiet going) finished m.asked (ordered_longer f l un).going.asked less due_group
    (λ x. ap (λ y. y.server.state) (edges_come c h input group about)) (longer_drains (taken h) f l) k.linked in
    let by : EndsBy c d over group = (let E : Bool → Type 0 = λ b. EndsBy c d b group in let N : List Note → Type 0 = λ ns. EndsBy c d (is_drained g took at) ns in subst E (sym drained) (subst N (sym is) (settling_at_ends g took at c e d))) in
    served_at C c z' g at (ap (setup_in C) t.accepted) (record {
      stands = stands;
      met = met_more no_bytes (taken h) took z.place more k.met;
      within = m.within group;
      paid = longer_pays g z.place l f z.spent k.paid;
      shown = ap (filter shows) t.notes ∙ shown_due c h.notes group (notes_of c z.place) due k.shown;
      causes = ap causes_told t.notes ∙ causes_due c h.notes group (map cause_of (reasons_in z.place) ++ causes_behind h.failed) due k.causes ∙ ap (λ b. map cause_of (reasons_in z.place) ++ causes_behind b) (sym failed);
      ends = ends_told c z z' group over k.ends m.live t.notes live by
          (λ o. (let x = settling_gone g took at c e d (sym drained ∙ o) in (ap (λ y. is_there y.client.state) edges ∙ x.client, ap (λ y. is_there y.server.state) edges ∙ x.server)))
          (λ o. t.finished ∙ or_first h.finished (finish_told (map tells group)) o)
          (λ o. t.finished ∙ or_first h.finished (finish_told (map tells group)) (opens (over_at (next_item g at) (settling_opens (is_over (next_item g at)) (given_up_at at) c e (took_all at took Server) (took_all at took Client) d (ap (list_any closes_for_good) (sym is) ∙ o)))))
          (λ x side q. (now side q).none);
      closed_over = λ x. closed_where g at h' z.place now;
      linked = came_linked.linked;
      late = come_late c h input group f l h'.edges.server.state (t.finished ∙ ap (λ ts. h.finished || finish_told ts) (sym (tells_all c group about))) (come_further c h input group quiet going ∙ ap (λ b. unless_finished b (further_in input)) (sym (or_false h.finished) ∙ ap (λ b. h.finished || b) (sym going))) m.asked
          (λ x. due_asks c (settling_at g took at c e d) (settling_due (is_over (next_item g at)) (given_up_at at) c e (took_all at took Server) (took_all at took Client) d) e (sym (ap (λ y. is_connecting y.server.state) edges) ∙ x)) k.late;
      drains = λ x. come_drains h.notes group h'.notes (draining (taken h) l) (draining took at) (given_up z.place) t.notes (came_linked.drains x) (k.drains (sym finished ∙ x));
      licensed = come_licensed c h input group uncut quiet.cut k.licensed;
      told = subst K (sym t.notes) (calls_on h.failed h'.failed z.asked z'.asked z.place h.notes group k.told (due_entries c group due) (λ x. (sym failed ∙ x, refl)));
      spot = subst F (sym (failed ∙ found)) (subst L (sym live) (subst R (sym ready) spot));
    })
