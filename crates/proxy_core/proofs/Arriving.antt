-- What comes of a side lies unread where it arrives, and nowhere else; along items no more than the limit and what a collect in force asks for.
use Rattle.std.proofs.Common.{◌≡◌, ◌⊎◌, inl, inr, refl, sym, ap, subst, ◌∙◌, ℕ, ◌+◌, ◌-◌, ◌≤◌, List, [], ◌∷◌, ◌++◌, length, Bool, true, false, if◌then◌else◌, Option, Some, None, arith, length-append}
use Rattle.std.specs.Prelude.{unwrap_or}
use Rattle.std.specs.Bool.{MatchBool}
use Rattle.px_bytes.specs.declared.addr.Addr.{Addr}
use Rattle.px_bytes.specs.declared.addr.Side.{Side}
use Rattle.px_bytes.specs.declared.addr.Side.TheVariants.{Client, Server}
use Rattle.irule_net.specs.State.{asked_bytes, collected}
use Rattle.irule_net.specs.declared.state.Asks.{Asks}
use Rattle.irule_net.specs.declared.state.Asks.TheVariants.{NotAsked, Stated}
use Rattle.conn_trace.specs.Bounds.{HeadsFit, FewUnread, FewOfServer, FewOfMade, PassWithin}
use Rattle.conn_trace.specs.Further.{Coming, nothing_comes, Further, longer_by, longer_stream, longer_where, longer_server, left_for, on_last, longer}
use Rattle.conn_trace.specs.Item.{Item}
use Rattle.conn_trace.specs.Phases.{OrderlyIn}
use Rattle.conn_trace.specs.Places.{is_up}
use Rattle.conn_trace.specs.Queries.{arriving, counted_held, first_some, held_under, in_event_of, last_made, own_stream, unread_at, unread_limit}
use Rattle.conn_trace.specs.Setup.{Setup}
use Rattle.conn_trace.specs.State.{Stream, ServerSide, NoServer, Sought, There, Leaving, Retired, Phase, Answering, TraceState, link_of}
use Rattle.conn_trace.specs.Trace.{Unfolds}
use Rattle.core_events.specs.declared.edges.EdgeState.{EdgeState}
use Rattle.conn_trace.proofs.Lying.{Lies, allowed, item_lies}
use Rattle.conn_trace.proofs.Streams.{link_same}
use Rattle.proxy_core.specs.Servers.{Linked, awaits}
use Rattle.conn_trace.specs.Gates.{TakenCounts}
use Rattle.conn_trace.specs.Phases.{Orderly}
use Rattle.conn_trace.specs.Spoken.{Speaks}
use Rattle.conn_trace.proofs.Speaking.{item_speaks}
use Rattle.conn_trace.proofs.Stepping.{steps}

few_more : (n : ℕ) (c : Coming) (s : Stream) → FewUnread n s → length s.unread + length c.bytes ≤ n → FewUnread n (longer_stream c s)
few_more n c s few room = by_end s.ended
  where
    by_end : (b : Bool) → FewUnread n (longer_by b c s)
    by_end true = few
    by_end false = let e = length-append s.unread c.bytes in omega (arith, e, room)

-- of answers none is a connection, and what comes is for the one before; or the last one gets it
abbrev Unmade : Coming → List (Option Stream) → Type 0
Unmade c cs = (last_made cs ≡ None) × ((left_for c cs ≡ Some c) × (on_last c cs ≡ cs))

abbrev Last : Coming → List (Option Stream) → Type 0
Last c cs = (s : Stream) × ((last_made cs ≡ Some s) × (left_for c cs ≡ None))

last_of : (c : Coming) (cs : List (Option Stream)) → Unmade c cs ⊎ Last c cs
last_of c [] = inl (refl, (refl, refl))
last_of c (None ∷ more) = on (last_of c more)
  where
    on : Unmade c more ⊎ Last c more → Unmade c (None ∷ more) ⊎ Last c (None ∷ more)
    on (inl (none, (left, same))) = inl (none, (left, ap (λ r. None ∷ r) same))
    on (inr (s, (is, left))) = inr (s, (is, left))
last_of c (Some s ∷ more) = inr (unwrap_or (last_made more) s, (refl, refl))

made_more : (n : ℕ) (c : Coming) (cs : List (Option Stream)) → FewOfMade n cs → length (unread_at (last_made cs)) + length c.bytes ≤ n → FewOfMade n (on_last c cs)
made_more n c [] w room = tt
made_more n c (None ∷ more) w room = made_more n c more w room
made_more n c (Some s ∷ more) w room = by_last (made_more n c more w.1) (last_of c more)
  where
    by_last : (length (unread_at (last_made more)) + length c.bytes ≤ n → FewOfMade n (on_last c more)) → Unmade c more ⊎ Last c more → FewOfMade n (on_last c (Some s ∷ more))
    by_last rest (inl (none, (left, same))) =
        let e = ap (λ o. length (unwrap_or o s).unread) none in
        (subst (λ o. FewUnread n (longer_where o s)) (sym left) (few_more n c s w.0 (omega (arith, room, e))), subst (FewOfMade n) (sym same) w.1)
    by_last rest (inr (t, (is, left))) =
        let e = ap (λ o. length (unwrap_or o s).unread) is in
        let f = ap (λ o. length (unread_at o)) is in
        (subst (λ o. FewUnread n (longer_where o s)) (sym left) w.0, rest (omega (arith, room, e, f)))

made_last : (n : ℕ) (cs : List (Option Stream)) → FewOfMade n cs → length (unread_at (last_made cs)) ≤ n
made_last n [] w = omega arith
made_last n (None ∷ more) w = made_last n more w
made_last n (Some s ∷ more) w = by_more (last_made more) (made_last n more w.1)
  where
    by_more : (o : Option Stream) → length (unread_at o) ≤ n → length (unwrap_or o s).unread ≤ n
    by_more None few = w.0
    by_more (Some t) few = few

made_joined : (n : ℕ) (cs ds : List (Option Stream)) → FewOfMade n cs → FewOfMade n ds → FewOfMade n (cs ++ ds)
made_joined n [] ds w v = v
made_joined n (None ∷ cs) ds w v = made_joined n cs ds w v
made_joined n (Some s ∷ cs) ds w v = (w.0, made_joined n cs ds w.1 v)

server_more : (n : ℕ) (c : Coming) (cs : List (Option Stream)) (v : ServerSide) → FewOfServer n v → length (unread_at (first_some (last_made cs) (own_stream v))) + length c.bytes ≤ n → FewOfServer n (longer_server (left_for c cs) v)
server_more n c cs v w room = by_last (last_of c cs)
  where
    lasting : (v : ServerSide) → FewOfServer n v → FewOfServer n (longer_server None v)
    lasting NoServer w = tt
    lasting Sought w = tt
    lasting (There s) w = w
    lasting (Leaving b s) w = w
    lasting (Retired s) w = w

    growing : (v : ServerSide) → FewOfServer n v → length (unread_at (own_stream v)) + length c.bytes ≤ n → FewOfServer n (longer_server (Some c) v)
    growing NoServer w room = tt
    growing Sought w room = tt
    growing (There s) w room = few_more n c s w room
    growing (Leaving b s) w room = few_more n c s w room
    growing (Retired s) w room = few_more n c s w room

    by_last : Unmade c cs ⊎ Last c cs → FewOfServer n (longer_server (left_for c cs) v)
    by_last (inl (none, (left, same))) =
        let e = ap (λ o. length (unread_at (first_some o (own_stream v)))) none in
        subst (λ o. FewOfServer n (longer_server o v)) (sym left) (growing v w (omega (arith, room, e)))
    by_last (inr (t, (is, left))) = subst (λ o. FewOfServer n (longer_server o v)) (sym left) (lasting v w)

-- ---- with what a collect holds

-- no more lies unread of a side than the limit and what a collect in force asks for
pub arriving_lies : (l : TraceState) → Lies l → (side : Side) → length (unread_at (arriving side l)) ≤ unread_limit + allowed side l
arriving_lies l w Client = w.of_client
arriving_lies l w Server = by_made (last_made l.answers.connects) (made_last unread_limit l.answers.connects w.of_made)
  where
    own : (v : ServerSide) → FewOfServer (unread_limit + allowed Server l) v → length (unread_at (own_stream v)) ≤ unread_limit + allowed Server l
    own NoServer w = omega arith
    own Sought w = omega arith
    own (There s) w = w
    own (Leaving b s) w = w
    own (Retired s) w = w

    by_made : (o : Option Stream) → length (unread_at o) ≤ unread_limit → length (unread_at (first_some o (own_stream l.server))) ≤ unread_limit + allowed Server l
    by_made None few = own l.server w.of_server
    by_made (Some s) few = omega (arith, few)

-- of what lies unread a collect in force holds no more than it asks for
pub record HeldOf (side : Side) (l : TraceState) : Type 0 where
  pub of_unread : counted_held side l ≤ length (unread_at (arriving side l))
  pub of_asked : counted_held side l ≤ allowed side l
  pub rest : length (unread_at (arriving side l)) - counted_held side l ≤ unread_limit

pub held_of : (side : Side) (l : TraceState) → Lies l → HeldOf side l
held_of side l w =
    let few = arriving_lies l w side in
    let k = by_event (in_event_of side l.phase) (collected side l.host.net).asks few in
    record { of_unread = k.0; of_asked = k.1.0; rest = k.1.1 }
  where
    by_event : (b : Bool) (asks : Asks) → length (unread_at (arriving side l)) ≤ unread_limit + (if b then 0 else asked_bytes asks)
        → let held = if b then 0 else held_under asks (length (unread_at (arriving side l))) in
        (held ≤ length (unread_at (arriving side l))) × ((held ≤ (if b then 0 else asked_bytes asks)) × (length (unread_at (arriving side l)) - held ≤ unread_limit))
    by_event true asks few = (omega arith, (omega arith, omega (arith, few)))
    by_event false NotAsked few = (omega arith, (omega arith, omega (arith, few)))
    by_event false (Stated n) few = (omega arith, (omega arith, omega (arith, few)))

-- what comes has room where it arrives
pub record Room (l : TraceState) (client server : Coming) (connects : List (Option Stream)) : Type 0 where
  pub of_client : length (unread_at (arriving Client l)) + length client.bytes ≤ unread_limit + allowed Client l
  pub of_server : length (unread_at (arriving Server l)) + length server.bytes ≤ unread_limit + allowed Server l
  pub of_made : FewOfMade unread_limit connects

pub nothing_fits : (l : TraceState) → Lies l → Room l nothing_comes nothing_comes []
nothing_fits l w = record {
  of_client = (let f = arriving_lies l w Client in omega (arith, f));
  of_server = (let f = arriving_lies l w Server in omega (arith, f));
  of_made = tt;
}

-- while an answer waits nothing is collected of the server
abbrev pub Waiting : TraceState → Type 0
Waiting l = (l.answers.connects ≡ []) ⊎ (allowed Server l ≤ 0)

pub longer_lies : (l : TraceState) (f : Further) → Lies l → Waiting l → Room l f.client f.server f.connects → Lies (longer f l)
longer_lies l f w waits room = record {
  event = w.event;
  host = w.host;
  of_client = few_more (unread_limit + allowed Client l) f.client l.client w.of_client room.of_client;
  of_server = server_more (unread_limit + allowed Server l) f.server l.answers.connects l.server w.of_server room.of_server;
  of_made = made_joined unread_limit (on_last f.server l.answers.connects) f.connects (by_waiting waits) room.of_made;
  calm = λ e. w.calm (ap is_up (sym (link_same f l)) ∙ e);
}
  where
    by_made : (o : Option Stream) → length (unread_at o) ≤ unread_limit → allowed Server l ≤ 0 → length (unread_at (first_some o (own_stream l.server))) + length f.server.bytes ≤ unread_limit + allowed Server l → length (unread_at o) + length f.server.bytes ≤ unread_limit
    by_made None few none room = omega (arith, none, room)
    by_made (Some s) few none room = omega (arith, none, room)

    by_waiting : Waiting l → FewOfMade unread_limit (on_last f.server l.answers.connects)
    by_waiting (inl e) = subst (λ cs. FewOfMade unread_limit (on_last f.server cs)) (sym e) tt
    by_waiting (inr none) =
        made_more unread_limit f.server l.answers.connects w.of_made (by_made (last_made l.answers.connects) (made_last unread_limit l.answers.connects w.of_made) none room.of_server)

-- ---- along items

-- it speaks HTTP, or not, wherever it stands
pub speaks_along : (g : Setup) (l m : TraceState) (items : List Item) → Speaks g.http l → Unfolds g l items m → Speaks g.http m
speaks_along g l m [] s is = subst (Speaks g.http) is s
speaks_along g l m (i ∷ items) s (mid, step, rest) = speaks_along g mid m items (item_speaks g g.http l mid i s step) rest

pub lies_along : (g : Setup) → HeadsFit g → (l m : TraceState) (items : List Item) → Orderly l → Speaks g.http l → Lies l → Unfolds g l items m → Lies m × PassWithin unread_limit items
lies_along g fits l m [] o s w is = (subst Lies is w, tt)
lies_along g fits l m (i ∷ items) o s w (mid, step, rest) =
    let one = item_lies g fits l mid i w (record { orderly = o; spoken = g.http; speaks = s }) step in
    let more = lies_along g fits mid m items (steps g l mid i o step).orderly (item_speaks g g.http l mid i s step) one.0 rest in
    (more.0, (one.1, more.1))

-- an answer waits only where there is no server yet
pub waiting_at : (l : TraceState) (finished : Bool) (took : TakenCounts) (edge : EdgeState) → Orderly l → Lies l → Linked finished took l edge → Waiting l
waiting_at l finished took edge o w k = by_phase l.phase refl k.waits
  where
    calm : (to : Addr) → l.phase ≡ Answering to → allowed Server l ≤ 0
    calm to e =
        let asks = w.calm (subst (λ p. OrderlyIn p l.finished (link_of l.server)) e o).1 in
        let none : allowed Server l ≡ asked_bytes (collected Server l.host.net).asks = ap (λ p. if in_event_of Server p then 0 else asked_bytes (collected Server l.host.net).asks) e in
        let zero_asked = ap asked_bytes asks in
        omega (arith, none, zero_asked)

    by_phase : (p : Phase) → l.phase ≡ p → MatchBool (awaits p) (length l.answers.connects ≤ 1) (l.answers.connects ≡ []) → Waiting l
    by_phase (Answering to) e k = inr (calm to e)
    by_phase other e k = inl k
