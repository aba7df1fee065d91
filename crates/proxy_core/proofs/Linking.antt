-- Where the server's end stands: along items and their notes, which fit it, and where more comes.
use Rattle.std.proofs.Common.{◌≡◌, refl, sym, ap, subst, ◌∙◌, ℕ, suc, ◌+◌, ◌≤◌, List, [], ◌∷◌, ◌++◌, append-nil, length, map, Bool, true, false, true≢false, Option, Some, None, is_some, nat_eq, arith, eqb-true, inl, inr, append_assoc}
use Rattle.std.specs.Bool.{MatchBool}
use Rattle.px_bytes.specs.declared.addr.Side.TheVariants.{Server}
use Rattle.core_events.specs.declared.edges.Edges.{Edges}
use Rattle.core_events.specs.declared.edges.EdgeState.{EdgeState}
use Rattle.core_events.specs.declared.edges.EdgeState.TheVariants as state
use Rattle.core_events.specs.declared.note.Note.{Note}
use Rattle.core_events.specs.declared.note.Note.TheVariants.{CloseServer}
use Rattle.core_events.specs.Edges.{edges_by, edges_noted, answered_edge, is_connecting}
use Rattle.conn_trace.specs.Further.{Coming, Further, longer, on_last}
use Rattle.conn_trace.specs.Gates.{Counts, Met, TakenCounts, may_give, renewed, sent_after, sent_part, to_take}
use Rattle.conn_trace.specs.Heard.{answer, as_answer}
use Rattle.conn_trace.specs.Item.{Item, Answered, Connected, Passed, Fired, Reused, Logged, Finished, Peer, Retires, Sending, ToClient, ToServer, note_of, shown}
use Rattle.conn_trace.specs.Phases.{Steps}
use Rattle.conn_trace.specs.Places.{is_up}
use Rattle.conn_trace.specs.Setup.{Setup}
use Rattle.conn_trace.specs.State.{Absent, Asked, GivenUp, Left, Link, Stream, Up, link_of, TraceState}
use Rattle.conn_trace.specs.Trace.{Unfolds}
use Rattle.conn_trace.proofs.Given.{sent_step}
use Rattle.conn_trace.proofs.Stepping.{steps}
use Rattle.conn_trace.proofs.Streams.{link_same}
use Rattle.conn.specs.Servers.{closed_behind, run_notes, sending_bytes}
use Rattle.conn.specs.Settling.{is_given_up, note_if}
use Rattle.proxy_core.specs.Fitting.{Fit}
use Rattle.proxy_core.specs.Sound.{is_closed}
use Rattle.proxy_core.specs.Servers.{is_free, is_serving, awaits, AskedAt, LinkedAt, LinkedBy, Linked, closed_servers, draining, draining_by, given_up, gives_up, is_used}
use Rattle.proxy_core.proofs.EdgeNotes.{edges_joined}
use Rattle.proxy_core.proofs.ServerGone.{never}
use Rattle.proxy_core.proofs.ServerLaws.{Ordered, ordered_step, side_of, went_on}
use Rattle.proxy_core.proofs.ServerPhases.{Giving, Quiet, Taking, link_by, SideBy}
use Rattle.proxy_core.proofs.ServerSends.{SendsUp}

-- by a test whose result is known
pub as_true : (A B : Type 0) (b : Bool) → b ≡ true → MatchBool b A B → A
as_true A B true e k = k
as_true A B false e k = never e

pub as_false : (A B : Type 0) (b : Bool) → b ≡ false → MatchBool b A B → B
as_false A B true e k = absurd (true≢false e)
as_false A B false e k = k

pub from_true : (A B : Type 0) (b : Bool) → b ≡ true → A → MatchBool b A B
from_true A B true e k = k
from_true A B false e k = never e

pub from_false : (A B : Type 0) (b : Bool) → b ≡ false → B → MatchBool b A B
from_false A B true e k = absurd (true≢false e)
from_false A B false e k = k

one_at_most : (cs : List (Option Stream)) → cs ≡ [] → length cs ≤ 1
one_at_most cs e = let n = ap length e in omega (arith, n)

pub last_one : (o : Option Stream) (more : List (Option Stream)) → length (o ∷ more) ≤ 1 → more ≡ []
last_one o [] le = refl
last_one o (x ∷ xs) le = absurd (omega (arith, le))

-- where no answer is awaited
pub settled : (finished : Bool) (took : TakenCounts) (l : TraceState) (s : EdgeState) → awaits l.phase ≡ false → l.answers.connects ≡ [] → (finished ≡ false → LinkedBy took l s) → Linked finished took l s
settled finished took l s e none k = record {
  waits = from_false (length l.answers.connects ≤ 1) (l.answers.connects ≡ []) (awaits l.phase) e none;
  edge = λ x. from_false (AskedAt l.answers.connects s) (LinkedBy took l s) (awaits l.phase) e (k x);
}

-- and where one is
pub asked : (finished : Bool) (took : TakenCounts) (l : TraceState) (s : EdgeState) → awaits l.phase ≡ true → length l.answers.connects ≤ 1 → (finished ≡ false → AskedAt l.answers.connects s) → Linked finished took l s
asked finished took l s e few k = record {
  waits = from_true (length l.answers.connects ≤ 1) (l.answers.connects ≡ []) (awaits l.phase) e few;
  edge = λ x. from_true (AskedAt l.answers.connects s) (LinkedBy took l s) (awaits l.phase) e (k x);
}

pub none_waits : (finished : Bool) (took : TakenCounts) (l : TraceState) (s : EdgeState) → Linked finished took l s → awaits l.phase ≡ false → l.answers.connects ≡ []
none_waits finished took l s k e = as_false (length l.answers.connects ≤ 1) (l.answers.connects ≡ []) (awaits l.phase) e k.waits

pub few_wait : (finished : Bool) (took : TakenCounts) (l : TraceState) (s : EdgeState) → Linked finished took l s → awaits l.phase ≡ true → length l.answers.connects ≤ 1
few_wait finished took l s k e = as_true (length l.answers.connects ≤ 1) (l.answers.connects ≡ []) (awaits l.phase) e k.waits

pub asked_then : (finished : Bool) (took : TakenCounts) (l : TraceState) (s : EdgeState) → Linked finished took l s → awaits l.phase ≡ true → finished ≡ false → AskedAt l.answers.connects s
asked_then finished took l s k e x = as_true (AskedAt l.answers.connects s) (LinkedBy took l s) (awaits l.phase) e (k.edge x)

pub linked_then : (finished : Bool) (took : TakenCounts) (l : TraceState) (s : EdgeState) → Linked finished took l s → awaits l.phase ≡ false → finished ≡ false → LinkedBy took l s
linked_then finished took l s k e x = as_false (AskedAt l.answers.connects s) (LinkedBy took l s) (awaits l.phase) e (k.edge x)

-- once it has finished its end may stand anywhere
pub linked_over : (finished over : Bool) (took took' : TakenCounts) (l : TraceState) (s other : EdgeState) → over ≡ true → Linked finished took l s → Linked over took' l other
linked_over finished over took took' l s other e k = record { waits = k.waits; edge = λ x. absurd (true≢false (sym e ∙ x)) }

-- and before it, it stands where it stood
pub linked_now : (finished now : Bool) (took : TakenCounts) (l : TraceState) (s s' : EdgeState) → (now ≡ false → finished ≡ false) → (now ≡ false → s' ≡ s) → Linked finished took l s → Linked now took l s'
linked_now finished now took l s s' back same k = record {
  waits = k.waits;
  edge = λ x. (let P : EdgeState → Type 0 = λ y. MatchBool (awaits l.phase) (AskedAt l.answers.connects y) (LinkedBy took l y) in subst P (sym (same x)) (k.edge (back x)));
}

-- an answer that waits is awaited
pub must_wait : (finished : Bool) (took : TakenCounts) (l : TraceState) (s : EdgeState) (o : Option Stream) (more : List (Option Stream)) → Linked finished took l s → l.answers.connects ≡ o ∷ more → awaits l.phase ≡ true
must_wait finished took l s o more k e = by_waits (awaits l.phase) refl
  where
    by_waits : (b : Bool) → awaits l.phase ≡ b → awaits l.phase ≡ true
    by_waits true w = w
    by_waits false w = absurd (let n : [] ≡ o ∷ more = sym (none_waits finished took l s k w) ∙ e in cc)

-- ---- along items

pub given_down : (k : Link) → is_given_up k ≡ true → is_up k ≡ false
given_down Absent e = never e
given_down Asked e = never e
given_down Up e = never e
given_down (Left b) e = never e
given_down GivenUp e = refl

serving_kept : (k : Link) → is_serving k ≡ true → is_given_up k ≡ false
serving_kept Absent e = never e
serving_kept Asked e = never e
serving_kept Up e = refl
serving_kept (Left b) e = refl
serving_kept GivenUp e = never e

-- what is sent to a server counts
part_silent : (s : Option Sending) (sent : Counts) → sending_bytes s ≡ [] → ((sent_part s sent).server ≡ sent.server) × ((sent_part s sent).number ≡ sent.number)
part_silent None sent e = (refl, refl)
part_silent (Some s) sent e = by_peer s.peer e
  where
    by_peer : (p : Peer) → sending_bytes (Some (record { peer = p; bytes = s.bytes })) ≡ [] → ((sent_part (Some (record { peer = p; bytes = s.bytes })) sent).server ≡ sent.server) × ((sent_part (Some (record { peer = p; bytes = s.bytes })) sent).number ≡ sent.number)
    by_peer ToClient e = (refl, refl)
    by_peer (ToServer k) e = (let n = ap length e in (omega (arith, n), refl))

left_same : (took : TakenCounts) (a b : Counts) → (a.server ≡ b.server) × (a.number ≡ b.number) → to_take a took Server ≡ to_take b took Server
left_same took a b (server, number) = ap (λ x. to_take (record a { server = x }) took Server) server ∙ ap (λ x. to_take (record { client = a.client; server = b.server; number = x }) took Server) number

-- nothing is sent to one that is given up
quiet_left : (took : TakenCounts) (l m : TraceState) (i : Item) → (shown i).renews ≡ false → m.sent ≡ sent_after i l.sent → SendsUp (link_of l.server) i → is_given_up (link_of l.server) ≡ true → to_take m.sent took Server ≡ to_take l.sent took Server
quiet_left took l m i renews sent (inl up) given = absurd (true≢false (sym up ∙ given_down (link_of l.server) given))
quiet_left took l m i renews sent (inr none) given =
    left_same took m.sent l.sent (let p = part_silent (shown i).sends l.sent none in let e : m.sent ≡ sent_part (shown i).sends l.sent = sent ∙ ap (λ b. sent_part (shown i).sends (renewed b l.sent)) renews in (ap (λ s. s.server) e ∙ p.0, ap (λ s. s.number) e ∙ p.1))

linked_at : (serving given : Bool) (left left' : ℕ) (s : EdgeState) → (given ≡ true → left' ≡ left) → LinkedAt serving given left s → LinkedAt serving given left' s
linked_at true given left left' s same k = k
linked_at false true left left' s same k = (let P : ℕ → Type 0 = λ n. LinkedAt false true n s in subst P (sym (same refl)) k)
linked_at false false left left' s same k = k

-- where the server's side stays
pub linked_stays : (took : TakenCounts) (l m : TraceState) (s : EdgeState) → is_serving (link_of m.server) ≡ is_serving (link_of l.server) → is_given_up (link_of m.server) ≡ is_given_up (link_of l.server) → (is_given_up (link_of l.server) ≡ true → to_take m.sent took Server ≡ to_take l.sent took Server)
    → LinkedBy took l s → LinkedBy took m s
linked_stays took l m s serves given left k =
    let P : Bool → Type 0 = λ b. LinkedAt b (is_given_up (link_of m.server)) (to_take m.sent took Server) s in
    let Q : Bool → Type 0 = λ b. LinkedAt (is_serving (link_of l.server)) b (to_take m.sent took Server) s in
    subst P (sym serves) (subst Q (sym given) (linked_at (is_serving (link_of l.server)) (is_given_up (link_of l.server)) (to_take l.sent took Server) (to_take m.sent took Server) s left k))

quiet_linked : (took : TakenCounts) (l m : TraceState) (i : Item) (s : EdgeState) → (shown i).renews ≡ false → m.sent ≡ sent_after i l.sent → (m.finished ≡ false → l.finished ≡ false) → Quiet i l.phase l m → Linked l.finished took l s → Linked m.finished took m s
quiet_linked took l m i s renews sent going k lk = settled m.finished took m s k.waits (k.connects ∙ none (awaits l.phase) refl) (λ x. linked_stays took l m s k.serves k.given (quiet_left took l m i renews sent k.sends) (before x (awaits l.phase) refl))
  where
    none : (b : Bool) → awaits l.phase ≡ b → l.answers.connects ≡ []
    none true e = (k.waited e).0
    none false e = none_waits l.finished took l s lk e

    before : m.finished ≡ false → (b : Bool) → awaits l.phase ≡ b → LinkedBy took l s
    before x true e = never (sym x ∙ (k.waited e).1)
    before x false e = linked_then l.finished took l s lk e (going x)

by_answer : (s : EdgeState) (o : Option Stream) (more : List (Option Stream)) (b : Bool) (left : ℕ) → is_some o ≡ b → AskedAt (o ∷ more) s → LinkedAt (is_serving (link_by b)) (is_given_up (link_by b)) left s
by_answer s (Some t) more true left e k = k
by_answer s None more false left e k = k
by_answer s (Some t) more false left e k = absurd (true≢false e)
by_answer s None more true left e k = never e

taking_linked : (took : TakenCounts) (l m : TraceState) (s : EdgeState) (made : Bool) → (m.finished ≡ false → l.finished ≡ false) → Taking l.phase l made m → Linked l.finished took l s → Linked m.finished took m s
taking_linked took l m s made going k lk =
    let waited : awaits l.phase ≡ true = ap awaits k.was in
    let few : length (k.answer ∷ k.more) ≤ 1 = subst (λ cs. length cs ≤ 1) k.is (few_wait l.finished took l s lk waited) in
    settled m.finished took m s k.waits (k.connects ∙ last_one k.answer k.more few)
    (λ x. subst (λ y. LinkedAt (is_serving y) (is_given_up y) (to_take m.sent took Server) s) (sym k.link) (by_answer s k.answer k.more made (to_take m.sent took Server) k.made_is (subst (λ cs. AskedAt cs s) k.is (asked_then l.finished took l s lk waited (going x)))))

-- one that is given up is closed at once where it took all
abbrev shut_by : Bool → EdgeState → EdgeState
shut_by true s = state.Closed
shut_by false s = s

closed_state : (b : Bool) (c : ℕ) (e : Edges) → (edges_noted (note_if b (CloseServer c)) e).server.state ≡ shut_by b e.server.state
closed_state true c e = refl
closed_state false c e = refl

given_at : (b : Bool) (s : EdgeState) → s ≡ state.Open → MatchBool b (shut_by b s ≡ state.Closed) (shut_by b s ≡ state.Open)
given_at true s e = refl
given_at false s e = e

giving_linked : (took : TakenCounts) (l m : TraceState) (c : ℕ) (e : Edges) → m.sent ≡ l.sent → Giving l.phase l m → Linked l.finished took l e.server.state → Linked m.finished took m (edges_noted (closed_behind c l.sent took Retires) e).server.state
giving_linked took l m c e sent k lk =
    let there : e.server.state ≡ state.Open = subst (λ b. LinkedAt b (is_given_up (link_of l.server)) (to_take l.sent took Server) e.server.state) k.served (linked_then l.finished took l e.server.state lk k.was k.going_on) in
    let b = nat_eq (to_take l.sent took Server) 0 in
    let left : to_take m.sent took Server ≡ to_take l.sent took Server = ap (λ x. to_take x took Server) sent in
    let P : EdgeState → Type 0 = λ s. LinkedBy took m s in
    let Q : Link → Type 0 = λ y. LinkedAt (is_serving y) (is_given_up y) (to_take m.sent took Server) (shut_by b e.server.state) in
    let R : ℕ → Type 0 = λ n. LinkedAt false true n (shut_by b e.server.state) in
    settled m.finished took m _ k.waits (k.connects ∙ none_waits l.finished took l e.server.state lk k.was)
    (λ x. subst P (sym (closed_state b c e)) (subst Q (sym k.link) (subst R (sym left) (given_at b e.server.state there))))

-- where another is asked for none is there
asks_free : (took : TakenCounts) (l : TraceState) (s : EdgeState) → is_serving (link_of l.server) ≡ false → nat_eq (to_take l.sent took Server) 0 ≡ true → LinkedBy took l s → is_free s ≡ true
asks_free took l s free none k = by_given (is_given_up (link_of l.server)) (subst (λ b. LinkedAt b (is_given_up (link_of l.server)) (to_take l.sent took Server) s) free k)
  where
    by_given : (b : Bool) → LinkedAt false b (to_take l.sent took Server) s → is_free s ≡ true
    by_given true q = ap is_free (as_true (s ≡ state.Closed) (s ≡ state.Open) (nat_eq (to_take l.sent took Server) 0) none q)
    by_given false q = ap is_free q

-- the notes of one item
abbrev pub step_notes : ℕ → Counts → TakenCounts → Item → List Note
step_notes c sent took i = note_of c i ++ closed_behind c (sent_after i sent) took i

pub step_linked : (took : TakenCounts) (l m : TraceState) (i : Item) (c : ℕ) (e : Edges) → Steps l i m → m.sent ≡ sent_after i l.sent → SideBy i l.phase l m → Linked l.finished took l e.server.state → Linked m.finished took m (edges_noted (step_notes c l.sent took i) e).server.state
step_linked took l m (Connected to) c e s sent k lk =
    let none : m.answers.connects ≡ [] = k.connects ∙ none_waits l.finished took l e.server.state lk (ap awaits k.was) in
    asked m.finished took m state.Connecting (ap awaits k.phase) (one_at_most m.answers.connects none) (λ x. subst (λ cs. AskedAt cs state.Connecting) (sym none) refl)
step_linked took l m (Answered made) c e s sent k lk = taking_linked took l m e.server.state made (went_on l m (Answered made) s) k lk
step_linked took l m Retires c e s sent k lk = giving_linked took l m c e sent k lk
step_linked took l m (Passed from to bytes) c e s sent k lk = quiet_linked took l m (Passed from to bytes) e.server.state refl sent (went_on l m (Passed from to bytes) s) k lk
step_linked took l m other c e s sent k lk = quiet_linked took l m other e.server.state refl sent (went_on l m other s) k lk

-- ---- they fit

fits_if : (b : Bool) (c : ℕ) (e : Edges) → e.server.state ≡ state.Open → Fit (note_if b (CloseServer c)) e
fits_if true c e is = (ap is_used is, tt)
fits_if false c e is = tt

step_fits : (took : TakenCounts) (l m : TraceState) (i : Item) (c : ℕ) (e : Edges) → may_give i l.sent took ≡ true → SideBy i l.phase l m → Linked l.finished took l e.server.state → Fit (step_notes c l.sent took i) e
step_fits took l m (Connected to) c e may k lk = (asks_free took l e.server.state k.free may (linked_then l.finished took l e.server.state lk (ap awaits k.was) k.going_on), tt)
step_fits took l m Retires c e may k lk =
    fits_if (nat_eq (to_take l.sent took Server) 0) c e (subst (λ b. LinkedAt b (is_given_up (link_of l.server)) (to_take l.sent took Server) e.server.state) k.served (linked_then l.finished took l e.server.state lk k.was k.going_on))
step_fits took l m (Passed from to bytes) c e may k lk = (refl, tt)
step_fits took l m (Fired side n) c e may k lk = (refl, tt)
step_fits took l m (Reused kept) c e may k lk = (refl, tt)
step_fits took l m (Logged text) c e may k lk = (refl, tt)
step_fits took l m (Finished reason) c e may k lk = (refl, tt)
step_fits took l m other c e may k lk = tt

pub fit_joined : (some more : List Note) (e : Edges) → Fit some e → Fit more (edges_noted some e) → Fit (some ++ more) e
fit_joined [] more e p q = q
fit_joined (n ∷ some) more e p q = (p.0, fit_joined some more (edges_by n e) p.1 q)

-- ---- as many are closed as were given up and took all

pub closed_joined : (some more : List Note) → closed_servers (some ++ more) ≡ closed_servers some + closed_servers more
closed_joined [] more = omega arith
closed_joined (n ∷ some) more = let r = closed_joined some more in omega (arith, r)

drains_none : (b : Bool) → draining_by false b ≡ 0
drains_none true = refl
drains_none false = refl

drains_all : (g : Bool) → draining_by g true ≡ 0
drains_all true = refl
drains_all false = refl

quiet_drains : (took : TakenCounts) (l m : TraceState) (i : Item) → (shown i).renews ≡ false → m.sent ≡ sent_after i l.sent → Quiet i l.phase l m → draining took m ≡ draining took l
quiet_drains took l m i renews sent k = by_given (is_given_up (link_of l.server)) refl
  where
    by_given : (b : Bool) → is_given_up (link_of l.server) ≡ b → draining took m ≡ draining took l
    by_given true e = ap (λ b. draining_by b (nat_eq (to_take m.sent took Server) 0)) k.given ∙ ap (λ n. draining_by (is_given_up (link_of l.server)) (nat_eq n 0)) (quiet_left took l m i renews sent k.sends e)
    by_given false e = ap (λ b. draining_by b (nat_eq (to_take m.sent took Server) 0)) (k.given ∙ e) ∙ drains_none (nat_eq (to_take m.sent took Server) 0) ∙ sym (ap (λ b. draining_by b (nat_eq (to_take l.sent took Server) 0)) e ∙ drains_none (nat_eq (to_take l.sent took Server) 0))

-- where none is given up none drains
pub none_drains : (took : TakenCounts) (l : TraceState) (k : Link) → link_of l.server ≡ k → is_given_up k ≡ false → draining took l ≡ 0
none_drains took l k is e = ap (λ b. draining_by b (nat_eq (to_take l.sent took Server) 0)) (ap is_given_up is ∙ e) ∙ drains_none (nat_eq (to_take l.sent took Server) 0)

given_drains : (b : Bool) (c : ℕ) → closed_servers (note_if b (CloseServer c)) + draining_by true b ≡ 1
given_drains true c = refl
given_drains false c = refl

link_kept : (made : Bool) → is_given_up (link_by made) ≡ false
link_kept true = refl
link_kept false = refl

step_drains : (took : TakenCounts) (l m : TraceState) (i : Item) (c : ℕ) → may_give i l.sent took ≡ true → m.sent ≡ sent_after i l.sent → SideBy i l.phase l m → (awaits l.phase ≡ true → link_of l.server ≡ Asked) → closed_servers (step_notes c l.sent took i) + draining took m ≡ draining took l + gives_up i
step_drains took l m (Connected to) c may sent k asks =
    let after = none_drains took m Asked (ap link_of k.server) refl in
    let before : draining took l ≡ 0 = ap (draining_by (is_given_up (link_of l.server))) may ∙ drains_all (is_given_up (link_of l.server)) in
    omega (arith, after, before)
step_drains took l m (Answered made) c may sent k asks =
    let after = none_drains took m (link_by made) k.link (link_kept made) in
    let before = none_drains took l Asked (asks (ap awaits k.was)) refl in
    omega (arith, after, before)
step_drains took l m Retires c may sent k asks =
    let before : draining took l ≡ 0 = none_drains took l (link_of l.server) refl (serving_kept (link_of l.server) k.served) in
    let after : draining took m ≡ draining_by true (nat_eq (to_take l.sent took Server) 0) = ap (λ y. draining_by (is_given_up y) (nat_eq (to_take m.sent took Server) 0)) k.link ∙ ap (λ x. draining_by true (nat_eq (to_take x took Server) 0)) sent in
    let both = given_drains (nat_eq (to_take l.sent took Server) 0) c in
    omega (arith, before, after, both)
step_drains took l m (Passed from to bytes) c may sent k asks = let q = quiet_drains took l m (Passed from to bytes) refl sent k in omega (arith, q)
step_drains took l m (Fired side n) c may sent k asks = let q = quiet_drains took l m (Fired side n) refl sent k in omega (arith, q)
step_drains took l m (Reused kept) c may sent k asks = let q = quiet_drains took l m (Reused kept) refl sent k in omega (arith, q)
step_drains took l m (Logged text) c may sent k asks = let q = quiet_drains took l m (Logged text) refl sent k in omega (arith, q)
step_drains took l m (Finished reason) c may sent k asks = let q = quiet_drains took l m (Finished reason) refl sent k in omega (arith, q)
step_drains took l m other c may sent k asks = let q = quiet_drains took l m other refl sent k in omega (arith, q)

-- ---- one that is closed is given up and took all

abbrev pub ClosedGiven : TakenCounts → TraceState → EdgeState → Type 0
ClosedGiven took l s = is_closed s ≡ true → (is_given_up (link_of l.server) ≡ true) × (to_take l.sent took Server ≡ 0)

closed_shut : (b : Bool) (s : EdgeState) → s ≡ state.Open → is_closed (shut_by b s) ≡ true → b ≡ true
closed_shut true s e k = refl
closed_shut false s e k = never (sym (ap is_closed e) ∙ k)

quiet_closed : (took : TakenCounts) (l m : TraceState) (i : Item) (s : EdgeState) → (shown i).renews ≡ false → m.sent ≡ sent_after i l.sent → Quiet i l.phase l m → ClosedGiven took l s → ClosedGiven took m s
quiet_closed took l m i s renews sent k was e = let w = was e in (k.given ∙ w.0, quiet_left took l m i renews sent k.sends w.0 ∙ w.1)

step_closed : (took : TakenCounts) (l m : TraceState) (i : Item) (c : ℕ) (e : Edges) → m.sent ≡ sent_after i l.sent → SideBy i l.phase l m → (awaits l.phase ≡ true → link_of l.server ≡ Asked) → Linked l.finished took l e.server.state → ClosedGiven took l e.server.state → ClosedGiven took m (edges_noted (step_notes c l.sent took i) e).server.state
step_closed took l m (Connected to) c e sent k asks lk was closed = never closed
step_closed took l m (Answered made) c e sent k asks lk was closed = never (sym (ap is_given_up (asks (ap awaits k.was))) ∙ (was closed).0)
step_closed took l m Retires c e sent k asks lk was closed =
    let there : e.server.state ≡ state.Open = subst (λ b. LinkedAt b (is_given_up (link_of l.server)) (to_take l.sent took Server) e.server.state) k.served (linked_then l.finished took l e.server.state lk k.was k.going_on) in
    let b = nat_eq (to_take l.sent took Server) 0 in
    let all : b ≡ true = closed_shut b e.server.state there (sym (ap is_closed (closed_state b c e)) ∙ closed) in
    (ap is_given_up k.link, ap (λ x. to_take x took Server) sent ∙ eqb-true (to_take l.sent took Server) 0 all)
step_closed took l m (Passed from to bytes) c e sent k asks lk was closed = quiet_closed took l m (Passed from to bytes) e.server.state refl sent k was closed
step_closed took l m other c e sent k asks lk was closed = quiet_closed took l m other e.server.state refl sent k was closed

-- ---- all items

-- items leave its end where the trace says, their notes fit, and so many were closed
pub record RunLinked (took : TakenCounts) (l m : TraceState) (c : ℕ) (items : List Item) (e : Edges) : Type 0 where
  pub linked : Linked m.finished took m (edges_noted (run_notes c l.sent took items) e).server.state
  pub fits : Fit (run_notes c l.sent took items) e
  pub drains : closed_servers (run_notes c l.sent took items) + draining took m ≡ draining took l + given_up items
  pub closed : ClosedGiven took l e.server.state → ClosedGiven took m (edges_noted (run_notes c l.sent took items) e).server.state

-- the notes of items one after another
pub notes_parts : (c : ℕ) (sent : Counts) (took : TakenCounts) (i : Item) (items : List Item) → run_notes c sent took (i ∷ items) ≡ step_notes c sent took i ++ run_notes c (sent_after i sent) took items
notes_parts c sent took i items = sym (append_assoc (note_of c i) (closed_behind c (sent_after i sent) took i) (run_notes c (sent_after i sent) took items))

pub run_linked : (g : Setup) (took : TakenCounts) (l m : TraceState) (items : List Item) (c : ℕ) (e : Edges) → Ordered l → Linked l.finished took l e.server.state → Met l.sent took items → Unfolds g l items m → RunLinked took l m c items e
run_linked g took l m [] c e h lk met is = record { linked = subst (λ x. Linked x.finished took x e.server.state) is lk; fits = tt; drains = (let q = ap (draining took) (sym is) in omega (arith, q)); closed = λ k. subst (λ x. ClosedGiven took x e.server.state) is k }
run_linked g took l m (i ∷ items) c e h lk met (mid, step, rest) =
    let side = side_of g l mid i h step in
    let sent = sent_step g l mid i step in
    let front = step_notes c l.sent took i in
    let e' = edges_noted front e in
    let r = run_linked g took mid m items c e' (ordered_step g l mid i h step) (step_linked took l mid i c e (steps g l mid i h.orderly step) sent side lk) (subst (λ s. Met s took items) (sym sent) met.1) rest in
    let back = run_notes c (sent_after i l.sent) took items in
    let same : run_notes c mid.sent took items ≡ back = ap (λ s. run_notes c s took items) sent in
    let all : run_notes c l.sent took (i ∷ items) ≡ front ++ back = notes_parts c l.sent took i items in
    let L : List Note → Type 0 = λ ns. Linked m.finished took m (edges_noted ns e').server.state in
    let M : Edges → Type 0 = λ x. Linked m.finished took m x.server.state in
    let F : List Note → Type 0 = λ ns. Fit ns e' in
    let A : List Note → Type 0 = λ ns. Fit ns e in
    let K : Edges → Type 0 = λ x. ClosedGiven took m x.server.state in
    let J : List Note → Type 0 = λ ns. ClosedGiven took m (edges_noted ns e').server.state in
    let here = step_drains took l mid i c met.0 sent side h.going.asked in
    let there : closed_servers back + draining took m ≡ draining took mid + given_up items = ap (λ ns. closed_servers ns + draining took m) (sym same) ∙ r.drains in
    let count : closed_servers (run_notes c l.sent took (i ∷ items)) ≡ closed_servers front + closed_servers back = ap closed_servers all ∙ closed_joined front back in
    record {
      linked = subst M (sym (ap (λ ns. edges_noted ns e) all ∙ edges_joined front back e)) (subst L same r.linked);
      fits = subst A (sym all) (fit_joined front back e (step_fits took l mid i c e met.0 side lk) (subst F same r.fits));
      drains = omega (arith, here, there, count);
      closed = λ was. subst K (sym (ap (λ ns. edges_noted ns e) all ∙ edges_joined front back e)) (subst J same (r.closed (step_closed took l mid i c e sent side h.going.asked lk was)));
    }

-- ---- where more comes

last_length : (c : Coming) (cs : List (Option Stream)) → length (on_last c cs) ≡ length cs
last_length c [] = refl
last_length c (None ∷ more) = ap suc (last_length c more)
last_length c (Some s ∷ more) = ap suc (last_length c more)

last_asked : (c : Coming) (cs : List (Option Stream)) (s : EdgeState) → AskedAt cs s → AskedAt (on_last c cs) s
last_asked c [] s k = k
last_asked c (None ∷ more) s k = k
last_asked c (Some t ∷ more) s k = k

pub longer_linked : (finished : Bool) (took : TakenCounts) (f : Further) (l : TraceState) (s : EdgeState) → f.connects ≡ [] → Linked finished took l s → Linked finished took (longer f l) s
longer_linked finished took f l s none k = by_waits (awaits l.phase) refl
  where
    is : (longer f l).answers.connects ≡ on_last f.server l.answers.connects
    is = ap (λ cs. on_last f.server l.answers.connects ++ cs) none ∙ append-nil (on_last f.server l.answers.connects)

    by_waits : (b : Bool) → awaits l.phase ≡ b → Linked finished took (longer f l) s
    by_waits true e =
        asked finished took (longer f l) s e (let few = few_wait finished took l s k e in let n = ap length is in let m = last_length f.server l.answers.connects in omega (arith, few, n, m))
        (λ x. subst (λ cs. AskedAt cs s) (sym is) (last_asked f.server l.answers.connects s (asked_then finished took l s k e x)))
    by_waits false e =
        settled finished took (longer f l) s e (is ∙ ap (on_last f.server) (none_waits finished took l s k e))
        (λ x. linked_stays took l (longer f l) s (ap is_serving (link_same f l)) (ap is_given_up (link_same f l)) (λ g. refl) (linked_then finished took l s k e x))

-- a server that is asked for is awaited, and no answer came
pub record IsAsked (l : TraceState) : Type 0 where
  pub waits : awaits l.phase ≡ true
  pub none : l.answers.connects ≡ []

pub is_asked : (finished : Bool) (took : TakenCounts) (l : TraceState) (s : EdgeState) → Linked finished took l s → finished ≡ false → is_connecting s ≡ true → IsAsked l
is_asked finished took l s k going c = by_waits (awaits l.phase) refl
  where
    by_answers : (cs : List (Option Stream)) → AskedAt cs s → cs ≡ []
    by_answers [] e = refl
    by_answers (Some t ∷ more) e = never (sym (ap is_connecting e) ∙ c)
    by_answers (None ∷ more) e = never (sym (ap is_connecting e) ∙ c)

    by_left : (b : Bool) → MatchBool b (s ≡ state.Closed) (s ≡ state.Open) → ⊥
    by_left true e = never (sym (ap is_connecting e) ∙ c)
    by_left false e = never (sym (ap is_connecting e) ∙ c)

    by_link : (serving given : Bool) (left : ℕ) → LinkedAt serving given left s → ⊥
    by_link true given left e = never (sym (ap is_connecting e) ∙ c)
    by_link false true left e = by_left (nat_eq left 0) e
    by_link false false left e = never (sym (ap is_connecting e) ∙ c)

    by_waits : (b : Bool) → awaits l.phase ≡ b → IsAsked l
    by_waits true e = record { waits = e; none = by_answers l.answers.connects (asked_then finished took l s k e going) }
    by_waits false e = absurd (by_link (is_serving (link_of l.server)) (is_given_up (link_of l.server)) (to_take l.sent took Server) (linked_then finished took l s k e going))

-- its answer comes
pub answered_linked : (finished : Bool) (took : TakenCounts) (made : Bool) (f : Further) (l : TraceState) → IsAsked l → f.connects ≡ map as_answer (answer made ∷ []) → Linked finished took (longer f l) (answered_edge made).state
answered_linked finished took made f l k is =
    let all : (longer f l).answers.connects ≡ map as_answer (answer made ∷ []) = ap (λ cs. on_last f.server cs ++ f.connects) k.none ∙ is in
    asked finished took (longer f l) (answered_edge made).state k.waits (let n = ap length all in omega (arith, n)) (λ x. subst (λ cs. AskedAt cs (answered_edge made).state) (sym all) (by_made made))
  where
    by_made : (b : Bool) → AskedAt (map as_answer (answer b ∷ [])) (answered_edge b).state
    by_made true = refl
    by_made false = refl
