-- What holds of every state that a past leads to.
use Rattle.std.proofs.Common.{◌≡◌, refl, sym, ap, subst, ◌∙◌, ℕ, zero, suc, ◌+◌, ◌-◌, ◌≤◌, ◌<◌, List, [], ◌∷◌, ◌++◌, append-nil, length, Bool, true, false, ◌⊎◌, inl, inr, Option, Some, None, nat_eq, nat_lt, arith, zero-add, if◌then◌else◌, ◌&&◌, ◌||◌}
use Rattle.std.specs.Prelude.{is_none, is_some, not}
use Rattle.std.specs.Bool.{MatchBool}
use Rattle.std.specs.List.{IsDistinct}
use Rattle.std.proofs.lemmas.Bool.Decides.{nat_tests}
use Rattle.px_bytes.specs.declared.addr.Addr.{Addr}
use Rattle.px_bytes.specs.declared.addr.Side.TheVariants.{Client, Server}
use Rattle.core_events.specs.declared.note.Cause.TheVariants.{Memory}
use Rattle.core_events.specs.declared.note.Note.{Note}
use Rattle.core_events.specs.declared.note.Note.TheVariants.{Finish, HalfClose, Sleep}
use Rattle.conn_trace.specs.Costs.{SlicesPaid}
use Rattle.conn_trace.specs.Gates.{TakenCounts, no_bytes, untaken}
use Rattle.conn_trace.specs.HeardLaws.{taken_by_items}
use Rattle.core_events.specs.Edges.{edges_noted}
use Rattle.conn_trace.specs.Further.{longer}
use Rattle.conn_trace.specs.Tellings.{finish_told}
use Rattle.conn_trace.specs.Trace.{next_item}
use Rattle.conn_trace.proofs.Given.{sent_output}
use Rattle.core_events.specs.declared.event_kind.EventKind.{EventKind}
use Rattle.core_events.specs.declared.event_kind.EventKind.TheVariants.{Accepts, Comes, Ticks}
use Rattle.core_events.specs.declared.event_kind.EventKind.TheVariants.{Turns, Runs, Marks}
use Rattle.core_events.specs.declared.input.Input.{Input}
use Rattle.core_events.specs.declared.input.Input.TheVariants.{Bytes, Ends, Resets, Connects, Takes}
use Rattle.conn_trace.specs.Heard.{Accepted, Heard, taken, taken_by, event_marks, marks, brought}
use Rattle.conn_trace.specs.Heard.{edges_met, further_of, hears}
use Rattle.core_events.specs.declared.edges.Edge.{Edge}
use Rattle.core_events.specs.declared.edges.Edges.{Edges}
use Rattle.conn_trace.specs.Item.{Item, client_output, server_output}
use Rattle.conn_trace.specs.State.{TraceState}
use Rattle.conn_trace.specs.Setup.{Setup}
use Rattle.conn_trace.proofs.Hearing.{others_not_heard}
use Rattle.px_bytes.specs.declared.fault.Reply.{Reply}
use Rattle.shared_store.specs.Calls.{reply}
use Rattle.shared_store.specs.Store.{StoreState}
use Rattle.record_model.specs.Clock.{wakes_at}
use Rattle.proxy_core.specs.Calls.{asker, queue_behind, sleeps}
use Rattle.record_model.specs.History.{called_in, entries_in, store_of}
use Rattle.proxy_core.specs.Live.{entry_note}
use Rattle.proxy_core.specs.Moves.{Rests, MovesFailed, MovesLacks, MovesOn, MovesCome, MovesRing, MovesFront, MovesBy, Moves, RunsOn, RunsOut, RunsFailed, TurnNotes, MovesQueue, is_drained_at, asleep_behind, came, lacked, ran, told_last, MovesTick, Leads}
use Rattle.proxy_core.specs.declared.call.Asked.{Asked}
use Rattle.proxy_core.specs.declared.call.Asleep.{Asleep}
use Rattle.core_events.specs.Kinds.{kind_of}
use Rattle.record_model.specs.Past.{Happened, Past, heard, ended_in, without_all, with_accepted, shared, shared_after}
use Rattle.proxy_core.specs.Ready.{is_in, ring_behind, without}
use Rattle.record_model.specs.Refusal.{Row, answers_nothing, by_edges, takes_too_much, refusal_rows, first_of}
use Rattle.proxy_core.specs.Refusal.{wants_at, standing_by, known, refused}
use Rattle.conn.specs.Servers.{run_notes}
use Rattle.proxy_core.specs.Servers.{closed_servers, took_of}
use Rattle.conn.specs.RunsItems.{asked_at, ends, Passes, StopsAt, slices_in}
use Rattle.conn.specs.Settling.{closing, given_up_at, half_close, is_drained, is_over, is_there, note_if, resting, settling, settling_at, took_all}
use Rattle.conn_trace.specs.Queries.{half_close_due}
use Rattle.px_bytes.specs.declared.addr.Side.{Side}
use Rattle.conn_trace.specs.Item.{calls_in}
use Rattle.conn.specs.declared.turn.ConnTurn.{ConnTurn}
use Rattle.conn.specs.declared.turn.ConnTurn.TheVariants as turn
use Rattle.proxy_core.specs.Scheduler.{State, no_connections, entries, open_calls, Seen, seen, seen_after, untaken_of, untaken_all}
use Rattle.record_model.specs.Setup.{setup_in, setup_of, stand_of}
use Rattle.proxy_core.specs.Sound.{unseen, Rested, Spot, Served, SoundAt, Sound}
use Rattle.run_config.specs.declared.config.Config.{Config}
use Rattle.proxy_core.proofs.Entries.{entries_behind_self, ready_behind, asked_behind, open_front, open_with, ran_open, ran_still}
use Rattle.proxy_core.specs.Others.{about, front}
use Rattle.proxy_core.proofs.Finished.{heard_finish, stands_orderly, trace_finished}
use Rattle.proxy_core.proofs.RunOn.{RunStood}
use Rattle.proxy_core.proofs.Framing.{touches, only_changed, same_seen, each_by, tick_open}
use Rattle.proxy_core.proofs.GroupNotes.{About, AreDue, closing_due, due_about, due_choices, due_cut, due_entries, due_failure, due_finish, due_hidden, due_quiet, due_replies, ended_closing, ended_resting, quiet_by, resting_due, settling_due, tells_all, due_asks, whole_notes}
use Rattle.proxy_core.proofs.CameAt.{heard_uncut, stands_come}
use Rattle.proxy_core.proofs.Closings.{EndsBy, closing_ends, closing_gone, ends_behind, half_state, halved, none_ends, resting_again, resting_closed, resting_edges, resting_ends, resting_gone, resting_opens, server_edges, shut}
use Rattle.proxy_core.proofs.Meeting.{hears_took}
use Rattle.proxy_core.proofs.Sums.{due_causes}
use Rattle.proxy_core.proofs.Hearing.{Told, come_told, run_told, turn_told}
use Rattle.proxy_core.proofs.Members.{eq_self}
use Rattle.proxy_core.proofs.ReadyRing.{distinct_none, distinct_push, distinct_without}
use Rattle.proxy_core.proofs.SoundLacks.{lack_served, failed_comes}
use Rattle.proxy_core.proofs.SoundAccepts.{first_notes, fresh_sound, seen_accept}
use Rattle.proxy_core.proofs.SoundComes.{MayCome, come_served}
use Rattle.proxy_core.proofs.SoundTurns.{Answers, turned_to, turn_served}
use Rattle.proxy_core.proofs.SoundRuns.{Behind, SettledBy, ran_at, run_about, run_served, failed_served}
use Rattle.proxy_core.proofs.Linking.{closed_joined}
use Rattle.proxy_core.proofs.ServerCounts.{TookBy, more_of, come_took}
use Rattle.proxy_core.proofs.ServerLeft.{server_left}
use Rattle.proxy_core.proofs.Standing.{drained_at, from_served, is_served, is_unseen, more_pays, stands_at}

-- no row holds
abbrev pub NoneHolds : List Row → Type 0
NoneHolds [] = Unit {0}
NoneHolds (r ∷ rows) = (r.holds ≡ false) × NoneHolds rows

pub none_holds : (rows : List Row) → first_of rows ≡ None → NoneHolds rows
none_holds [] h = tt
none_holds (r ∷ rows) h = by_row r.holds refl h (none_holds rows)
  where
    by_row : (b : Bool) → r.holds ≡ b → (if b then Some r.why else first_of rows) ≡ None → (first_of rows ≡ None → NoneHolds rows) → (r.holds ≡ false) × NoneHolds rows
    by_row true e k rest = cc
    by_row false e k rest = (e, rest k)

live_by : (C : Config) (b : Bool) (z : Seen) → is_none (standing_by C b z) ≡ false → b ≡ true
live_by C true z h = refl
live_by C false z h = cc

-- how many bytes more its client took
abbrev took_more : Input → ℕ
took_more (Takes Client n) = n
took_more other = 0

marked_took : (input : Input) (h : Heard) → (marks input h).client.took ≡ h.client.took + took_more input
marked_took (Bytes side bytes) h = omega arith
marked_took (Ends side) h = omega arith
marked_took (Resets Client) h = omega arith
marked_took (Resets Server) h = omega arith
marked_took (Connects made) h = omega arith
marked_took (Takes Client n) h = refl
marked_took (Takes Server n) h = omega arith

client_took : (c : ℕ) (h : Heard) (input : Input) (group : List Note) → (hears c h (Comes c input) group).client.took ≡ h.client.took + took_more input
client_took c h input group =
    let v = Comes c input in
    hears_took (brought c h v group).client (event_marks c v h).client ∙ ap (λ b. (if b then marks input h else h).client.took) (eq_self c) ∙ marked_took input h

-- what a took-count that isn't refused takes is there
takes_within : (edges : Edges) (from from_server : ℕ) (input : Input) (took sent left right : ℕ) → took ≤ sent → left ≤ sent - took → takes_too_much (Some (record { edges = edges; from_client = from; from_server = from_server; to_client = left; to_server = right })) input ≡ false → took + took_more input ≤ sent
takes_within edges from from_server (Bytes side bytes) took sent left right le e h = omega (arith, le)
takes_within edges from from_server (Ends side) took sent left right le e h = omega (arith, le)
takes_within edges from from_server (Resets side) took sent left right le e h = omega (arith, le)
takes_within edges from from_server (Connects made) took sent left right le e h = omega (arith, le)
takes_within edges from from_server (Takes Client n) took sent left right le e h = let t : nat_lt left n ≡ false = h in let few : n ≤ left = grind (arith, nat_tests) in omega (arith, few, e, le)
takes_within edges from from_server (Takes Server n) took sent left right le e h = omega (arith, le)

left_within : (b : Bool) (n t : ℕ) → untaken n (taken_by b t) ≤ n - t
left_within true n t = omega arith
left_within false n t = omega arith

client_left : (h : Heard) (place : List Item) → untaken_of h place Client ≤ length (client_output place) - h.client.took
client_left h place =
    let P : ℕ → Type 0 = λ n. untaken n (taken_by h.client.reset h.client.took) ≤ length (client_output place) - h.client.took in
    subst P (sym (sent_output no_bytes place ∙ zero-add (length (client_output place)))) (left_within h.client.reset (length (client_output place)) h.client.took)

-- what a server takes is pending to it
server_few : (edges : Edges) (from from_server : ℕ) (input : Input) (left right : ℕ) → takes_too_much (Some (record { edges = edges; from_client = from; from_server = from_server; to_client = left; to_server = right })) input ≡ false → more_of input ≤ right
server_few edges from from_server (Bytes side bytes) left right h = omega arith
server_few edges from from_server (Ends side) left right h = omega arith
server_few edges from from_server (Resets side) left right h = omega arith
server_few edges from from_server (Connects made) left right h = omega arith
server_few edges from from_server (Takes Client n) left right h = omega arith
server_few edges from from_server (Takes Server n) left right h = let t : nat_lt right n ≡ false = h in grind (arith, nat_tests)

servers_within : (C : Config) (c : ℕ) (z : Seen) (input : Input) (group : List Note) → Served C c z → more_of input ≤ untaken_of z.heard z.place Server → (k : ℕ) → took_of (hears c z.heard (Comes c input) group).connects k ≤ length (server_output k z.place)
servers_within C c z input group s few zero = omega arith
servers_within C c z input group s few (suc k) = by_number (come_took c z.heard input group k)
  where
    by_number : TookBy (more_of input) k z.heard.connects (hears c z.heard (Comes c input) group).connects → took_of (hears c z.heard (Comes c input) group).connects (suc k) ≤ length (server_output (suc k) z.place)
    by_number (inl e) = let w = s.within.servers (suc k) in omega (arith, e, w)
    by_number (inr (e, f)) =
        let L : ℕ → Type 0 = λ n. took_of z.heard.connects n + untaken_of z.heard z.place Server ≤ length (server_output n z.place) in
        let w = subst L (sym e) (server_left (setup_of C z.heard) c z (stand_of C z.heard z.place) s) in
        omega (arith, f, w, few)

pub may_come_at : (C : Config) (past : Past) (old : State) (c : ℕ) (input : Input) → SoundAt C c (seen past old c) → refused C past old (Comes c input) ≡ None → MayCome C c input (seen past old c)
may_come_at C past old c input s h =
    let z = seen past old c in
    let r = none_holds (refusal_rows C (known C past old (Comes c input)) (Comes c input)) h in
    let live : z.live ≡ true = live_by C z.live z r.0 in
    let k = is_served C c z (λ u. let n : z.live ≡ false = ap (λ y. y.live) u in let m : true ≡ false = sym live ∙ n in cc) s in
    let P : Bool → Type 0 = λ b. takes_too_much (standing_by C b z) input ≡ false in
    let le = takes_within z.heard.edges (wants_at C z Client) (wants_at C z Server) input z.heard.client.took (length (client_output z.place)) (untaken_of z.heard z.place Client) (untaken_of z.heard z.place Server) k.1.within.client (client_left z.heard z.place) (subst P live r.1.1.1.1.1.1.1.1.0) in
    let few = server_few z.heard.edges (wants_at C z Client) (wants_at C z Server) input (untaken_of z.heard z.place Client) (untaken_of z.heard z.place Server) (subst P live r.1.1.1.1.1.1.1.1.0) in
    let A : Bool → Type 0 = λ b. by_edges answers_nothing (standing_by C b z) input ≡ false in
    record {
      live = live;
      accepted = k.0;
      served = k.1;
      within = λ group. record { client = (let e = client_took c z.heard input group in omega (arith, e, le)); servers = servers_within C c z input group k.1 few };
      asked = subst A live r.1.1.1.1.1.0;
    }

-- an event that changes nothing
pub unchanged : (past : Past) (v : EventKind) (group : List Note) (old new : State) (q : ℕ) → Rests group old new → ((h : Heard) → hears q h v [] ≡ h) → with_accepted v (shared past).live ≡ (shared past).live → seen_after past v group new q ≡ seen past old q
unchanged past v group old new q m same live =
    same_seen (seen_after past v group new q) (seen past old q)
    (ap (hears q (heard q past) v) m.0 ∙ same (heard q past))
    (ap (λ g. is_in (without_all (ended_in g) (with_accepted v (shared past).live)) q) m.0 ∙ ap (λ ns. is_in ns q) live)
    (ap (λ s. entries q s.ring) m.1) (ap (open_calls q) m.1) (ap (λ s. s.places q) m.1) (ap (λ s. s.spent q) m.1)

own_rest : (C : Config) (past : Past) (v : EventKind) (group : List Note) (old new : State) (q : ℕ) → Rests group old new → ((h : Heard) → hears q h v [] ≡ h) → with_accepted v (shared past).live ≡ (shared past).live → SoundAt C q (seen past old q) → SoundAt C q (seen_after past v group new q)
own_rest C past v group old new q m same live s = let P : Seen → Type 0 = λ z. SoundAt C q z in subst P (sym (unchanged past v group old new q m same live)) s

-- it stays accepted
pub still_accepted : (c : ℕ) (h : Heard) (v : EventKind) (group : List Note) → Told c h v group → is_some h.accepted ≡ true → is_some (hears c h v group).accepted ≡ true
still_accepted c h v group t e = ap is_some t.accepted ∙ e

-- what the notes of an event are by where it stands then
own_come : (C : Config) (past : Past) (c : ℕ) (input : Input) (group : List Note) (old new : State) → IsDistinct nat_eq (shared past).live → MayCome C c input (seen past old c) → (heard c past).failed ≡ false
    → MovesOn C (hears c (heard c past) (Comes c input) group) c (edges_met input (heard c past).edges) group old new → SoundAt C c (seen_after past (Comes c input) group new c)
own_come C past c input group old new distinct m found j =
    let h = heard c past in
    let v = Comes c input in
    let now = hears c h v group in
    let g = setup_of C h in
    let place = old.places c in
    let l = stand_of C h place in
    let at = longer (further_of c h v group) l in
    let e = edges_met input h.edges in
    let d = untaken_all now place in
    let there = stand_of C now place in
    let D : List Note → Type 0 = λ ns. AreDue c ns in
    let due : AreDue c group = subst D (sym j.notes) (settling_due (is_over (next_item (setup_of C now) there)) (given_up_at there) c e (took_all there (taken now) Server) (took_all there (taken now) Client) d) in
    let about = due_about c group due in
    let t = come_told c h input group about in
    let setup : setup_of C now ≡ g = ap (setup_in C) t.accepted in
    let stands = stands_come g c h input group place l (heard_uncut c past) (due_quiet c group due) (ap finish_told (tells_all c group about) ∙ due_finish c group due) m.served.stands in
    let same : there ≡ at = stands_at C now g place at setup stands in
    let notes : group ≡ settling_at g (taken now) at c e d = j.notes ∙ ap (λ y. settling_at y (taken now) there c e d) setup ∙ ap (λ y. settling_at g (taken now) y c e d) same in
    let over = is_drained_at C now place in
    let Q : State → Type 0 = λ s. SoundAt C c (seen_after past v group s c) in
    subst Q (sym j.state) (from_served C c (seen_after past v group (came c over old) c) (still_accepted c h v group t m.accepted)
    (come_served C past c input group over old distinct m found notes (drained_at C now g place at setup stands)))

own_failed : (C : Config) (past : Past) (c : ℕ) (input : Input) (group : List Note) (old new : State) → MayCome C c input (seen past old c) → (heard c past).failed ≡ true → group ≡ [] → new ≡ came c false old → SoundAt C c (seen_after past (Comes c input) group new c)
own_failed C past c input group old new m failed e f =
    let h = heard c past in
    let v = Comes c input in
    let Q : State → Type 0 = λ s. SoundAt C c (seen_after past v group s c) in
    let R : List Note → Type 0 = λ g. SoundAt C c (seen_after past v g (came c false old) c) in
    subst Q (sym f) (subst R (sym e) (from_served C c (seen_after past v [] (came c false old) c) (still_accepted c h v [] (come_told c h input [] tt) m.accepted) (failed_comes C past c input old m failed)))

own_lack : (C : Config) (past : Past) (c : ℕ) (input : Input) (group : List Note) (old new : State) → MayCome C c input (seen past old c) → (heard c past).failed ≡ false → group ≡ Finish c Memory ∷ [] → new ≡ lacked c old
    → SoundAt C c (seen_after past (Comes c input) group new c)
own_lack C past c input group old new m found e f =
    let notes : List Note = Finish c Memory ∷ [] in
    let z' = seen_after past (Comes c input) notes (lacked c old) c in
    let k = lack_served C past c input old m found in
    let Q : State → Type 0 = λ s. SoundAt C c (seen_after past (Comes c input) group s c) in
    let R : List Note → Type 0 = λ g. SoundAt C c (seen_after past (Comes c input) g (lacked c old) c) in
    subst Q (sym f) (subst R (sym e) (from_served C c z' (still_accepted c (heard c past) (Comes c input) notes (come_told c (heard c past) input notes (refl, tt)) m.accepted) k))

-- the front of the ring was accepted
pub front_served : (C : Config) (past : Past) (c : ℕ) (rest : List ℕ) (old : State) → old.ring ≡ c ∷ rest → SoundAt C c (seen past old c) → (is_some (heard c past).accepted ≡ true) × Served C c (seen past old c)
front_served C past c rest old e s =
    let z = seen past old c in
    let ready : z.ready ≡ c ∷ entries c rest = ap (entries c) e ∙ ap (λ x. if x then c ∷ entries c rest else entries c rest) (eq_self c) in
    is_served C c z (λ u. let n = sym ready ∙ ap (λ y. y.ready) u in cc) s

-- where the front is put
spot_ran : (t : ConnTurn) (c d moment : ℕ) (g : Setup) (took : TakenCounts) (at : TraceState) (e : Edges) → StopsAt g took at t → Spot false (not (ends t)) (ready_behind t c) (asked_behind t) g took at (edges_noted (told_last t g took at c e d moment) e)
spot_ran turn.More c d moment g took at e k = tt
spot_ran (turn.Asks call) c d moment g took at e k = k
spot_ran turn.NotYet c d moment g took at e k =
    let S : List Note → Type 0 = λ ns. Rested g took at (edges_noted ns e) in
    subst S (sym (append-nil (resting g took at c e d))) (record { gives_no_more = k.0; no_cut = k.1.1; not_over = k.1.0; told = λ q n. resting_again g took at c q e d n k.1.0 })
spot_ran turn.Over c d moment g took at e k = k

-- what is told behind the items
none_behind : (g : Setup) (took : TakenCounts) (at : TraceState) (c d : ℕ) (e : Edges) → Behind g took at c d e [] false false
none_behind g took at c d e = record { about = tt; quiet = due_quiet c [] tt; failure = refl; ended = refl; hidden = refl; causes = refl; entries = refl; by = none_ends c d; gone = λ o. absurd (let x : false ≡ true = o in cc); asks = λ x. x; server = λ f o. inl (refl, refl); opens = λ o. absurd (let x : false ≡ true = o in cc); closed = λ f side q. inr q }

-- a half-close closes no server connection
none_halved : (b : Bool) (c : ℕ) (side : Side) → closed_servers (note_if b (HalfClose c side)) ≡ 0
none_halved true c side = refl
none_halved false c side = refl

-- while it isn't over the server's end is closed at a rest as is due of one that is given up
rest_settled : (g : Setup) (took : TakenCounts) (at : TraceState) (c d : ℕ) (e : Edges) → is_over (next_item g at) ≡ false → SettledBy took at c e (resting g took at c e d)
rest_settled g took at c d e going =
    let over = is_over (next_item g at) in
    let given = given_up_at at in
    let due = took_all at took Server in
    let there = is_there e.server.state in
    let half = half_close_due at took Server && not e.server.half in
    let last = settling_at g took at c e d in
    let front = half_close took at c e Client in
    let next = half_close took at c e Server in
    let a = closed_joined front (next ++ last) in
    let b = closed_joined next last in
    let none = none_halved (half_close_due at took Client && not e.client.half) c Client in
    let none_server = none_halved half c Server in
    let is = ap (λ x. closed_servers (settling x given c e due (took_all at took Client) d)) going in
    inr (
      ap (λ x. x.server.state) (resting_edges g took at c e e d) ∙ ap (λ x. (shut ((x || given) && (due && there)) (halved half e.server)).state) going ∙ shut_state (given && (due && there)) half e.server ∙ ap (λ b. (shut b e.server).state) (and_join given due there)
          ∙ sym (ap (λ x. x.server.state) (server_edges ((given && due) && there) c e)),
      omega (arith, a, b, none, none_server, is),
    )
  where
    shut_state : (b h : Bool) (x : Edge) → (shut b (halved h x)).state ≡ (shut b x).state
    shut_state true h x = refl
    shut_state false h x = half_state h x

    and_join : (a b c : Bool) → (a && (b && c)) ≡ ((a && b) && c)
    and_join true b c = refl
    and_join false b c = refl

rest_behind : (g : Setup) (took : TakenCounts) (at : TraceState) (c d : ℕ) (e : Edges) (over : Bool) → is_drained g took at ≡ over → Behind g took at c d e (resting g took at c e d) false over
rest_behind g took at c d e over is =
    let group = resting g took at c e d in
    let due = resting_due g took at c e d in
    let E : Bool → Type 0 = λ b. EndsBy c d b group in
    record {
      about = due_about c group due;
      quiet = due_quiet c group due;
      failure = due_failure c group due;
      ended = ended_resting g took at c e d ∙ ap (λ b. if b then c ∷ [] else []) is;
      hidden = due_hidden c group due;
      causes = due_causes c group due;
      entries = due_entries c group due;
      by = subst E is (resting_ends g took at c e d);
      gone = λ o. (let x = resting_gone g took at c e d (is ∙ o) in (x.client, x.server));
      asks = due_asks c group due e;
      server = λ f going. rest_settled g took at c d e going;
      opens = λ o. inr (resting_opens g took at c e d o);
      closed = λ f side q. resting_closed g took at c e e d side q;
    }

-- that a call sleeps is told alone
sleep_behind : (g : Setup) (took : TakenCounts) (at : TraceState) (c d until : ℕ) (e : Edges) → Behind g took at c d e (Sleep c until ∷ []) false false
sleep_behind g took at c d until e = record {
  about = (refl, tt);
  quiet = quiet_by c (Sleep c until ∷ []) (refl, tt) refl refl (λ t. refl);
  failure = refl;
  ended = refl;
  hidden = refl;
  causes = refl;
  entries = refl;
  by = ends_behind c d false (Sleep c until ∷ []) [] refl (none_ends c d);
  gone = λ o. absurd (let x : false ≡ true = o in cc);
  asks = λ x. x;
  server = λ f o. inl (refl, refl);
  opens = λ o. absurd (let x : false ≡ true = o in cc);
  closed = λ f side q. inr q;
}

stop_behind : (t : ConnTurn) (g : Setup) (took : TakenCounts) (at : TraceState) (c d moment : ℕ) (e : Edges) → StopsAt g took at t → Behind g took at c d e (told_last t g took at c e d moment) false (ends t)
stop_behind turn.More g took at c d moment e k = none_behind g took at c d e
stop_behind (turn.Asks call) g took at c d moment e k = by_test (sleeps call)
  where
    by_test : (b : Bool) → Behind g took at c d e (if b then Sleep c (wakes_at moment call) ∷ [] else []) false false
    by_test true = sleep_behind g took at c d (wakes_at moment call) e
    by_test false = none_behind g took at c d e
stop_behind turn.NotYet g took at c d moment e k =
    let B : List Note → Type 0 = λ ns. Behind g took at c d e ns false false in
    subst B (sym (append-nil (resting g took at c e d))) (rest_behind g took at c d e false k.1.0)
stop_behind turn.Over g took at c d moment e k =
    let B : List Note → Type 0 = λ ns. Behind g took at c d e ns false true in
    subst B (sym (append-nil (resting g took at c e d))) (rest_behind g took at c d e true k)

memory_behind : (g : Setup) (took : TakenCounts) (at : TraceState) (c d : ℕ) (e : Edges) → Behind g took at c d e (Finish c Memory ∷ closing c e d) true true
memory_behind g took at c d e =
    let last = closing c e d in
    let due = closing_due c e d in
    let about : About c (Finish c Memory ∷ last) = (refl, due_about c last due) in
    record {
      about = about;
      quiet = quiet_by c (Finish c Memory ∷ last) about (due_replies c last due) (due_choices c last due) (λ t. due_cut c t last due);
      failure = refl;
      ended = ended_closing c e d;
      hidden = due_hidden c last due;
      causes = ap (λ x. Memory ∷ x) (due_causes c last due);
      entries = due_entries c last due;
      by = ends_behind c d true (Finish c Memory ∷ []) last refl (closing_ends c e d);
      gone = λ o. (let x = closing_gone c e d in (x.client, x.server));
      asks = due_asks c last due e;
      server = λ f o. absurd (let x : true ≡ false = f in cc);
      opens = λ o. inl refl;
      closed = λ f. absurd (let x : true ≡ false = f in cc);
    }

few_asked : (t : ConnTurn) → length (asked_at t) ≤ 1
few_asked turn.More = omega arith
few_asked (turn.Asks call) = omega arith
few_asked turn.NotYet = omega arith
few_asked turn.Over = omega arith

asks_alike : (t : ConnTurn) → asked_at t ≡ asked_behind t
asks_alike turn.More = refl
asks_alike (turn.Asks call) = refl
asks_alike turn.NotYet = refl
asks_alike turn.Over = refl

run_sound : (C : Config) (past : Past) (c : ℕ) (rest after ready : List ℕ) (queue : List Asked) (asleep : Option Asleep) (called asked : List (List (List ℕ))) (old : State) (more : List Item) (slices : ℕ) (at : TraceState) (behind : List Note) (fails over : Bool)
    → IsDistinct nat_eq (shared past).live → old.ring ≡ c ∷ rest → (heard c past).failed ≡ false → is_some (heard c past).accepted ≡ true → Served C c (seen past old c)
    → Passes (setup_of C (heard c past)) (taken (heard c past)) (stand_of C (heard c past) (old.places c)) more at
    → Behind (setup_of C (heard c past)) (taken (heard c past)) at c (untaken_all (heard c past) (old.places c ++ more)) (edges_noted (run_notes c (stand_of C (heard c past) (old.places c)).sent (taken (heard c past)) more) (heard c past).edges) behind fails over
    → (entries c rest ≡ [] → entries c after ≡ ready) → (open_calls c old ≡ [] → open_calls c (ran c after queue asleep more slices old) ≡ asked) → calls_in more ≡ called → length called ≤ 1 → (fails ≡ false → called ≡ asked)
    → Spot fails (not over) ready asked (setup_of C (heard c past)) (taken (heard c past)) at (edges_noted behind (edges_noted (run_notes c (stand_of C (heard c past) (old.places c)).sent (taken (heard c past)) more) (heard c past).edges))
    → SlicesPaid (setup_of C (heard c past)) (old.places c ++ more) at (old.spent c + slices)
    → SoundAt C c (seen_after past Runs (run_notes c (stand_of C (heard c past) (old.places c)).sent (taken (heard c past)) more ++ behind) (ran c after queue asleep more slices old) c)
run_sound C past c rest after ready queue asleep called asked old more slices at behind fails over distinct e f a v p b put puts all few opens spot pays =
    let sent = (stand_of C (heard c past) (old.places c)).sent in
    let group = run_notes c sent (taken (heard c past)) more ++ behind in
    from_served C c (seen_after past Runs group (ran c after queue asleep more slices old) c)
    (still_accepted c (heard c past) Runs group (run_told c (heard c past) group (run_about c sent (taken (heard c past)) more behind b.about)) a)
    (run_served C past c rest after ready queue asleep called asked old more slices at behind fails over distinct e f v p b put puts all few opens spot pays)

failed_sound : (C : Config) (past : Past) (c : ℕ) (rest : List ℕ) (old : State) → IsDistinct nat_eq (shared past).live → old.ring ≡ c ∷ rest → (heard c past).failed ≡ true → is_some (heard c past).accepted ≡ true → Served C c (seen past old c)
    → SoundAt C c (seen_after past Runs (closing c (heard c past).edges (untaken_all (heard c past) (old.places c))) (record old { ring = rest }) c)
failed_sound C past c rest old d e f a v =
    let h = heard c past in
    let group = closing c h.edges (untaken_all h (old.places c)) in
    from_served C c (seen_after past Runs group (record old { ring = rest }) c)
    (still_accepted c h Runs group (run_told c h group (due_about c group (closing_due c h.edges (untaken_all h (old.places c))))) a)
    (failed_served C past c rest old d e f v)

own_run : (C : Config) (past : Past) (c : ℕ) (rest : List ℕ) (group : List Note) (old new : State) → IsDistinct nat_eq (shared past).live → old.ring ≡ c ∷ rest → SoundAt C c (seen past old c) → MovesFront C (heard c past) (shared past).moment c rest group old new
    → SoundAt C c (seen_after past Runs group new c)
own_run C past c rest group old new d e s m = by_failed (heard c past).failed refl m
  where
    h : Heard
    h = heard c past

    moved : (notes : List Note) (after : State) → group ≡ notes → new ≡ after → SoundAt C c (seen_after past Runs notes after c) → SoundAt C c (seen_after past Runs group new c)
    moved notes after f k t =
        let Q : State → Type 0 = λ y. SoundAt C c (seen_after past Runs group y c) in
        let R : List Note → Type 0 = λ g. SoundAt C c (seen_after past Runs g after c) in
        subst Q (sym k) (subst R (sym f) t)

    by_failed : (b : Bool) → h.failed ≡ b → MatchBool b (RunsFailed h c rest group old new) (RunsOn C h (shared past).moment c rest group old new ⊎ RunsOut C h c rest group old new) → SoundAt C c (seen_after past Runs group new c)
    by_failed true f k =
        let v = front_served C past c rest old e s in
        moved (closing c h.edges (untaken_all h (old.places c))) (record old { ring = rest }) k.notes k.state
        (failed_sound C past c rest old d e f v.0 v.1)
    by_failed false f (inl k) =
        let v = front_served C past c rest old e s in
        let left = untaken_all h (old.places c ++ k.more) in
        let notes = run_notes c (stand_of C h (old.places c)).sent (taken h) k.more in
        let e' = edges_noted notes h.edges in
        let m = (shared past).moment in
        let behind = told_last k.turn (setup_of C h) (taken h) k.at c e' left m in
        let asleep = asleep_behind k.turn c m (old.asleep c) in
        let slices = slices_in k.turn (length k.told) in
        moved (notes ++ behind) (ran c (ring_behind k.turn c rest) (queue_behind k.turn c old.queue) asleep k.more slices old) (whole_notes k.turn c m group k.told notes _ k.notes k.items.noted) k.state
        (run_sound C past c rest (ring_behind k.turn c rest) (ready_behind k.turn c) (queue_behind k.turn c old.queue) asleep (asked_at k.turn) (asked_behind k.turn) old k.more slices k.at behind false (ends k.turn) d e f v.0 v.1 k.items.passes
        (stop_behind k.turn (setup_of C h) (taken h) k.at c left m e' k.items.stops) (entries_behind_self k.turn c rest) (ran_open k.turn c m (ring_behind k.turn c rest) k.more slices old) k.items.calls (few_asked k.turn) (λ x. asks_alike k.turn) (spot_ran k.turn c left m (setup_of C h) (taken h) k.at e' k.items.stops) k.paid)
    by_failed false f (inr k) =
        let v = front_served C past c rest old e s in
        let left = untaken_all h (old.places c ++ k.more) in
        let notes = run_notes c (stand_of C h (old.places c)).sent (taken h) k.more in
        let e' = edges_noted notes h.edges in
        let kept = more_pays (setup_of C h) (old.places c) k.more (stand_of C h (old.places c)) k.at (taken_by_items (taken h) k.more) (old.spent c) v.1.paid k.passes.passed in
        let unspent : SlicesPaid (setup_of C h) (old.places c ++ k.more) k.at (old.spent c + 0) = omega (arith, kept) in
        moved (notes ++ Finish c Memory ∷ closing c e' left) (ran c rest old.queue (old.asleep c) k.more 0 old) k.notes k.state
        (run_sound C past c rest rest [] old.queue (old.asleep c) [] [] old k.more 0 k.at (Finish c Memory ∷ closing c e' left) true true d e f v.0 v.1 k.passes (memory_behind (setup_of C h) (taken h) k.at c left e') (λ x. x) (λ x. ran_still c rest k.more 0 old ∙ x) k.no_call (omega arith) (λ x. refl) tt unspent)

-- where items and what is told behind them lead
pub ran_on : (C : Config) (past : Past) (s : State) (c : ℕ) → Served C c (seen past s c) → RunStood C c (heard c past) (s.places c)
ran_on C past s c k found more at behind quiet p =
    let z = seen past s c in
    let h = heard c past in
    ran_at (setup_of C h) c h (stand_of C h (s.places c)).sent (taken h) (s.places c) more behind (stand_of C h (s.places c)) at (heard_uncut c past) (trace_finished C c z k (heard_finish c past) found) (stands_orderly C c z k) quiet k.met k.stands p.passed

own_ring : (C : Config) (past : Past) (ring : List ℕ) (group : List Note) (old new : State) → IsDistinct nat_eq (shared past).live → old.ring ≡ ring → ((c : ℕ) → SoundAt C c (seen past old c)) → MovesRing C past ring group old new
    → SoundAt C (front ring) (seen_after past Runs group new (front ring))
own_ring C past [] group old new d e each m = own_rest C past Runs group old new 0 m (λ h. others_not_heard 0 h Runs [] refl refl) refl (each 0)
own_ring C past (c ∷ rest) group old new d e each m = own_run C past c rest group old new d e (each c) m

-- the front of the calls was answered
abbrev noted_by : Asked → (moment : ℕ) → Reply → List Note
noted_by a moment r = entry_note a moment r ∷ []

abbrev lost_by : Asked → (moment : ℕ) → Reply → List Note
lost_by a moment r = entry_note a moment r ∷ Finish a.conn Memory ∷ []

own_turn : (C : Config) (past : Past) (a : Asked) (rest : List Asked) (group : List Note) (moment : ℕ) (r : Reply) (old new : State) → old.queue ≡ a ∷ rest → SoundAt C a.conn (seen past old a.conn) → TurnNotes a moment r group → new ≡ turned_to a rest old → SoundAt C a.conn (seen_after past Turns group new a.conn)
own_turn C past a rest group moment r old new e s notes f =
    let c = a.conn in
    let z = seen past old c in
    let asked : z.asked ≡ a.call ∷ open_with c rest (old.asleep c) = open_front a rest old e in
    let v = is_served C c z (λ u. let n = sym asked ∙ ap (λ y. y.asked) u in cc) s in
    let Q : State → Type 0 = λ y. SoundAt C c (seen_after past Turns group y c) in
    subst Q (sym f) (by_notes v.0 v.1 notes)
  where
    with_notes : (ns : List Note) (fails : Bool) → group ≡ ns → is_some (heard a.conn past).accepted ≡ true → Served C a.conn (seen past old a.conn) → Answers a.conn ns fails → (called_in ns ≡ a.call ∷ []) ⊎ ((entries_in ns ≡ []) × (fails ≡ true)) → SoundAt C a.conn (seen_after past Turns group (turned_to a rest old) a.conn)
    with_notes ns fails k accepted v b entry =
        let G : List Note → Type 0 = λ g. SoundAt C a.conn (seen_after past Turns g (turned_to a rest old) a.conn) in
        subst G (sym k) (from_served C a.conn (seen_after past Turns ns (turned_to a rest old) a.conn) (still_accepted a.conn (heard a.conn past) Turns ns (turn_told a.conn (heard a.conn past) ns b.about) accepted) (turn_served C past a rest old ns fails e v b entry))

    by_notes : is_some (heard a.conn past).accepted ≡ true → Served C a.conn (seen past old a.conn) → TurnNotes a moment r group → SoundAt C a.conn (seen_after past Turns group (turned_to a rest old) a.conn)
    by_notes accepted v (inl k) = with_notes (noted_by a moment r) false k accepted v (record { about = (refl, tt); choices = refl; cut = λ took. refl; failure = refl; ended = refl; hidden = refl; causes = refl; goes_on = refl; opens = refl; closes_none = refl; edges = λ x. refl }) (inl refl)
    by_notes accepted v (inr (inl k)) = with_notes (lost_by a moment r) true k accepted v (record { about = (refl, (refl, tt)); choices = refl; cut = λ took. refl; failure = refl; ended = refl; hidden = refl; causes = refl; goes_on = refl; opens = refl; closes_none = refl; edges = λ x. refl }) (inl refl)
    by_notes accepted v (inr (inr k)) = with_notes (Finish a.conn Memory ∷ []) true k accepted v (record { about = (refl, tt); choices = refl; cut = λ took. refl; failure = refl; ended = refl; hidden = refl; causes = refl; goes_on = refl; opens = refl; closes_none = refl; edges = λ x. refl }) (inr (refl, refl))

own_queue : (C : Config) (past : Past) (store : StoreState) (moment : ℕ) (queue : List Asked) (group : List Note) (old new : State) → old.queue ≡ queue → ((c : ℕ) → SoundAt C c (seen past old c)) → MovesQueue store moment queue group old new → SoundAt C (asker queue) (seen_after past Turns group new (asker queue))
own_queue C past store moment [] group old new e each m = own_rest C past Turns group old new 0 m (λ h. others_not_heard 0 h Turns [] refl refl) refl (each 0)
own_queue C past store moment (a ∷ rest) group old new e each m = own_turn C past a rest group moment (reply store moment a.call).reply old new e (each a.conn) m.notes m.state

own_input : (C : Config) (past : Past) (c : ℕ) (input : Input) (group : List Note) (old new : State) → IsDistinct nat_eq (shared past).live → MayCome C c input (seen past old c)
    → MovesCome C input (heard c past) (hears c (heard c past) (Comes c input) group) c group old new → SoundAt C c (seen_after past (Comes c input) group new c)
own_input C past c input group old new d m k = by_failed (heard c past).failed refl k
  where
    now : Heard
    now = hears c (heard c past) (Comes c input) group

    by_failed : (b : Bool) → (heard c past).failed ≡ b → MatchBool b (MovesFailed c group old new) (MovesOn C now c (edges_met input (heard c past).edges) group old new ⊎ MovesLacks input c group old new) → SoundAt C c (seen_after past (Comes c input) group new c)
    by_failed true f j = own_failed C past c input group old new m f j.notes j.state
    by_failed false f (inr j) = own_lack C past c input group old new m f j.notes j.state
    by_failed false f (inl j) = own_come C past c input group old new d m f j

own_accept : (C : Config) (past : Past) (c : ℕ) (vs : List ℕ) (from : Addr) (group : List Note) (old new : State) → seen past old c ≡ unseen → (group ≡ []) ⊎ (group ≡ Finish c Memory ∷ []) → new ≡ record old { ring = old.ring ++ c ∷ [] }
    → SoundAt C c (seen_after past (Accepts c vs from) group new c)
own_accept C past c vs from group old new u e f = by_notes e
  where
    begun : (failed : Bool) → group ≡ first_notes c failed → SoundAt C c (seen_after past (Accepts c vs from) group new c)
    begun failed k =
        let a : Accepted = record { virtual = vs; from = from } in
        let P : Seen → Type 0 = λ z. SoundAt C c z in subst P (sym (seen_accept past c a failed group old new u k f)) (fresh_sound C c a failed)

    by_notes : (group ≡ []) ⊎ (group ≡ Finish c Memory ∷ []) → SoundAt C c (seen_after past (Accepts c vs from) group new c)
    by_notes (inl k) = begun false k
    by_notes (inr k) = begun true k

-- a connection above the last number wasn't accepted
pub not_accepted : (C : Config) (past : Past) (c : ℕ) (vs : List ℕ) (from : Addr) (s : State) → Sound C past s → refused C past s (Accepts c vs from) ≡ None → seen past s c ≡ unseen
not_accepted C past c vs from s k h =
    let r = (none_holds (refusal_rows C (known C past s (Accepts c vs from)) (Accepts c vs from)) h).1.0 in
    is_unseen C c (seen past s c) (k.unheard c (grind (arith, nat_tests))) (k.each c)

-- a Tick changes nothing that is seen of a connection: its call is open, whether it sleeps or waits
pub seen_tick : (past : Past) (moment : ℕ) (group : List Note) (old new : State) (q : ℕ) → MovesTick moment group old new → seen_after past (Ticks moment) group new q ≡ seen past old q
seen_tick past moment group old new q m =
    same_seen (seen_after past (Ticks moment) group new q) (seen past old q)
    (ap (hears q (heard q past) (Ticks moment)) m.notes ∙ others_not_heard q (heard q past) (Ticks moment) [] refl refl)
    (ap (λ g. is_in (without_all (ended_in g) (shared past).live) q) m.notes)
    (ap (λ s. entries q s.ring) m.state) (tick_open moment group old new m q) (ap (λ s. s.places q) m.state) (ap (λ s. s.spent q) m.state)

own_tick : (C : Config) (past : Past) (moment : ℕ) (group : List Note) (old new : State) (q : ℕ) → MovesTick moment group old new → SoundAt C q (seen past old q) → SoundAt C q (seen_after past (Ticks moment) group new q)
own_tick C past moment group old new q m s = let P : Seen → Type 0 = λ z. SoundAt C q z in subst P (sym (seen_tick past moment group old new q m)) s

-- each event owes its own connection
own : (C : Config) (past : Past) (v : EventKind) (group : List Note) (old new : State) → Sound C past old → refused C past old v ≡ None → MovesBy C past v group old new → SoundAt C (about v old) (seen_after past v group new (about v old))
own C past (Accepts c vs from) group old new s h m = own_accept C past c vs from group old new (not_accepted C past c vs from old s h) m.notes m.state
own C past (Comes c input) group old new s h m = own_input C past c input group old new s.distinct (may_come_at C past old c input (s.each c) h) m
own C past (Ticks moment) group old new s h m = own_tick C past moment group old new 0 m (s.each 0)
own C past Turns group old new s h m = own_queue C past (store_of C past) (shared past).moment old.queue group old new refl s.each m
own C past Runs group old new s h m = own_ring C past old.ring group old new s.distinct refl s.each m
own C past (Marks pool member up) group old new s h m = own_rest C past (Marks pool member up) group old new 0 m (λ k. others_not_heard 0 k (Marks pool member up) [] refl refl) refl (s.each 0)

-- above the last number nothing was heard
pub marked_accepted : (input : Input) (h : Heard) → (marks input h).accepted ≡ h.accepted
marked_accepted (Bytes side bytes) h = refl
marked_accepted (Ends side) h = refl
marked_accepted (Resets Client) h = refl
marked_accepted (Resets Server) h = refl
marked_accepted (Connects made) h = refl
marked_accepted (Takes Client n) h = refl
marked_accepted (Takes Server n) h = refl

unheard : (C : Config) (past : Past) (v : EventKind) (group : List Note) (old : State) → ((q : ℕ) → (shared past).last < q → is_some (heard q past).accepted ≡ false) → refused C past old v ≡ None
    → (q : ℕ) → (shared_after v group (shared past)).last < q → is_some (event_marks q v (heard q past)).accepted ≡ false
unheard C past (Accepts c vs from) group old before h q lt =
    let f : nat_eq c q ≡ false = grind (arith, nat_tests) in
    let r = (none_holds (refusal_rows C (known C past old (Accepts c vs from)) (Accepts c vs from)) h).1.0 in
    rw f (before q (grind (arith, nat_tests)))
unheard C past (Comes c input) group old before h q lt = by_test (nat_eq c q) (before q lt)
  where
    by_test : (b : Bool) → is_some (heard q past).accepted ≡ false → is_some (if b then marks input (heard q past) else heard q past).accepted ≡ false
    by_test true k = ap is_some (marked_accepted input (heard q past)) ∙ k
    by_test false k = k
unheard C past (Ticks moment) group old before h q lt = before q lt
unheard C past Turns group old before h q lt = before q lt
unheard C past Runs group old before h q lt = before q lt
unheard C past (Marks pool member up) group old before h q lt = before q lt

distinct_all : (ended live : List ℕ) → IsDistinct nat_eq live → IsDistinct nat_eq (without_all ended live)
distinct_all [] live d = d
distinct_all (c ∷ ended) live d = distinct_all ended (without c live) (distinct_without c live d)

distinct_after : (C : Config) (past : Past) (v : EventKind) (old : State) → Sound C past old → refused C past old v ≡ None → IsDistinct nat_eq (with_accepted v (shared past).live)
distinct_after C past (Accepts c vs from) old s h = distinct_push c (shared past).live s.distinct (ap (λ z. z.live) (not_accepted C past c vs from old s h))
distinct_after C past (Comes c input) old s h = s.distinct
distinct_after C past (Ticks moment) old s h = s.distinct
distinct_after C past Turns old s h = s.distinct
distinct_after C past Runs old s h = s.distinct
distinct_after C past (Marks pool member up) old s h = s.distinct

pub sound_step : (C : Config) (past : Past) (x : Happened) (old new : State) → Sound C past old → refused C past old (kind_of x.event) ≡ None → Moves C past x old new → Sound C (x ∷ past) new
sound_step C past x old new s h m =
    let v = kind_of x.event in
    record {
      leads = (old, s.leads, h, m);
      each = each_by {A = Unit {0}} (λ q z a. SoundAt C q z) (λ q. tt) (λ q. tt) (about v old) past v x.group old new (only_changed past v x.group old new (touches C past v x.group old new m)) (λ q e. refl) s.each (own C past v x.group old new s h m);
      unheard = λ q lt. unheard C past v x.group old s.unheard h q lt;
      distinct = distinct_all (ended_in x.group) (with_accepted v (shared past).live) (distinct_after C past v old s h);
    }

pub sound_start : (C : Config) → Sound C [] no_connections
sound_start C = record { leads = refl; each = λ c. refl; unheard = λ c h. refl; distinct = distinct_none }

pub leads_sound : (C : Config) (past : Past) (s : State) → Leads C past s → Sound C past s
leads_sound C [] s e = let P : State → Type 0 = λ y. Sound C [] y in subst P (sym e) (sound_start C)
leads_sound C (x ∷ past) s (before, leads, accepted, moves) = sound_step C past x before s (leads_sound C past before leads) accepted moves
