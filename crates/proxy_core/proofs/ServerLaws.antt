-- The server connections along items: the made ones are those that were answered and those that wait; a server is asked for where the one before took all; those before the present one took all; and to a later one nothing was sent.
use Rattle.std.proofs.Common.{◌≡◌, ◌⊎◌, inl, inr, refl, sym, ap, subst, ◌∙◌, ℕ, zero, suc, ◌+◌, ◌<◌, ◌≤◌, List, [], ◌∷◌, ◌++◌, length, length-append, append-nil, Bool, true, false, ◌||◌, not, true≢false, if◌then◌else◌, Option, Some, None, is_some, arith, eqb-true, eq-eqb, ne_eqb, append_assoc}
use Rattle.px_bytes.specs.declared.addr.Side.TheVariants.{Server}
use Rattle.event_order.specs.declared.event.EventName.TheVariants.{ClientAccepted}
use Rattle.conn_trace.specs.Further.{Further, longer}
use Rattle.conn_trace.specs.Gates.{Counts, no_bytes, TakenCounts, taken_of, to_take, untaken, may_give, sent_to, sent_part, renewed, sent_after, Met}
use Rattle.conn_trace.specs.Host.{first_host}
use Rattle.conn_trace.specs.Item.{Item, Answered, Connected, CutBy, Peer, Retires, ToClient, ToServer, Sending, shown, bytes_to_server, server_part, server_output, to_server}
use Rattle.conn_trace.specs.Phases.{finishes, is_leaving, Orderly, Steps}
use Rattle.conn_trace.specs.Setup.{Setup}
use Rattle.conn_trace.specs.State.{Absent, Answers, Cut, Stream, TraceState, Next, Does, Waits, Over}
use Rattle.conn_trace.specs.Places.{finish, is_up}
use Rattle.conn_trace.specs.Trace.{uncut, phase_next, cut_takes, cut_open, cut_next, counted, next_item, Unfolds, start}
use Rattle.conn_trace.proofs.Fair.{PeerIs, SendsTo, FairNext, phase_fair}
use Rattle.conn_trace.proofs.Given.{sent_step}
use Rattle.conn_trace.proofs.Stepping.{start_orderly, steps}
use Rattle.conn_trace.proofs.Streams.{link_same}
use Rattle.proxy_core.specs.Servers.{awaits, made}
use Rattle.proxy_core.proofs.Drains.{longer_orderly}
use Rattle.proxy_core.proofs.ServerGone.{never, enter_goes}
use Rattle.proxy_core.proofs.ServerPhases.{Going, SideBy}
use Rattle.proxy_core.proofs.ServerSteps.{item_side}

or_right : (a b : Bool) → (a || b) ≡ false → b ≡ false
or_right true b e = absurd (true≢false e)
or_right false b e = e

-- ---- what holds wherever a trace stands

pub record Ordered (l : TraceState) : Type 0 where
  pub orderly : Orderly l
  pub going : Going l

pub start_ordered : (g : Setup) (client : Stream) (answers : Answers) → Ordered (start g client answers)
start_ordered g client answers =
    let s = enter_goes g ClientAccepted false Absent (first_host g) refl in
    record {
      orderly = start_orderly g client answers;
      going = record { event = s.event; told = s.told; left = s.left; asked = λ w. absurd (true≢false (sym w ∙ s.waits)) };
    }

side_going : (l m : TraceState) (i : Item) → SideBy i l.phase l m → Going m
side_going l m (Connected to) k = k.going
side_going l m (Answered made) k = k.going
side_going l m Retires k = k.going
side_going l m other k = k.going

pub side_of : (g : Setup) (l m : TraceState) (i : Item) → Ordered l → next_item g l ≡ Does i m → SideBy i l.phase l m
side_of g l m i h is = item_side g l m i h.going h.orderly is

pub ordered_step : (g : Setup) (l m : TraceState) (i : Item) → Ordered l → next_item g l ≡ Does i m → Ordered m
ordered_step g l m i h is = record { orderly = (steps g l m i h.orderly is).orderly; going = side_going l m i (side_of g l m i h is) }

pub ordered : (g : Setup) (l m : TraceState) (items : List Item) → Ordered l → Unfolds g l items m → Ordered m
ordered g l m [] h is = subst Ordered is h
ordered g l m (i ∷ items) h (mid, step, rest) = ordered g mid m items (ordered_step g l mid i h step) rest

-- where more comes
pub ordered_longer : (f : Further) (l : TraceState) → Ordered l → Ordered (longer f l)
ordered_longer f l h = record {
  orderly = longer_orderly f l h.orderly;
  going = record {
    event = h.going.event;
    told = λ r. ap is_up (link_same f l) ∙ h.going.told r;
    left = λ x y. h.going.left x (ap is_leaving (sym (link_same f l)) ∙ y);
    asked = λ w. link_same f l ∙ h.going.asked w;
  };
}

-- whether it had finished
pub went_on : (l m : TraceState) (i : Item) → Steps l i m → m.finished ≡ false → l.finished ≡ false
went_on l m i s e = or_right (finishes i) l.finished (sym s.finished ∙ e)

-- what is sent doesn't change the number
part_number : (s : Option Sending) (sent : Counts) → (sent_part s sent).number ≡ sent.number
part_number None sent = refl
part_number (Some s) sent = by_peer s.peer
  where
    by_peer : (p : Peer) → (sent_to p (length s.bytes) sent).number ≡ sent.number
    by_peer ToClient = refl
    by_peer (ToServer k) = refl

pub same_number : (i : Item) (sent : Counts) → (shown i).renews ≡ false → (sent_after i sent).number ≡ sent.number
same_number i sent e = part_number (shown i).sends (renewed (shown i).renews sent) ∙ ap (λ b. (renewed b sent).number) e

-- ---- how many were made

abbrev all_made : TraceState → ℕ
all_made l = made l.answers.connects + l.sent.number

answered_made : (o : Option Stream) (more : List (Option Stream)) (b : Bool) (sent : Counts) → is_some o ≡ b → made (o ∷ more) + sent.number ≡ made more + (renewed b sent).number
answered_made (Some s) more true sent e = omega arith
answered_made None more false sent e = refl
answered_made (Some s) more false sent e = absurd (true≢false e)
answered_made None more true sent e = never e

made_by : (l m : TraceState) (i : Item) → m.sent ≡ sent_after i l.sent → SideBy i l.phase l m → all_made l ≡ all_made m
made_by l m (Connected to) sent k = ap (λ cs. made cs + l.sent.number) (sym k.connects) ∙ ap (λ c. made m.answers.connects + c.number) (sym sent)
made_by l m (Answered b) sent k =
    ap (λ cs. made cs + l.sent.number) k.is ∙ answered_made k.answer k.more b l.sent k.made_is
    ∙ ap (λ cs. made cs + (renewed b l.sent).number) (sym k.connects) ∙ ap (λ c. made m.answers.connects + c.number) (sym sent)
made_by l m Retires sent k = ap (λ cs. made cs + l.sent.number) (sym k.connects) ∙ ap (λ c. made m.answers.connects + c.number) (sym sent)
made_by l m other sent k =
    ap (λ cs. made cs + l.sent.number) (sym k.connects) ∙ ap (λ n. made m.answers.connects + n) (sym (same_number other l.sent refl)) ∙ ap (λ c. made m.answers.connects + c.number) (sym sent)

pub made_along : (g : Setup) (l m : TraceState) (items : List Item) → Ordered l → Unfolds g l items m → made l.answers.connects + l.sent.number ≡ made m.answers.connects + m.sent.number
made_along g l m [] h is = ap all_made is
made_along g l m (i ∷ items) h (mid, step, rest) = made_by l mid i (sent_step g l mid i step) (side_of g l mid i h step) ∙ made_along g mid m items (ordered_step g l mid i h step) rest

-- ---- while an answer is awaited the server before took all

abbrev TookAll : TakenCounts → TraceState → Type 0
TookAll took l = awaits l.phase ≡ true → to_take l.sent took Server ≡ 0

took_by : (took : TakenCounts) (l m : TraceState) (i : Item) → m.sent ≡ sent_after i l.sent → may_give i l.sent took ≡ true → SideBy i l.phase l m → TookAll took m
took_by took l m (Connected to) sent may k = λ e. ap (λ s. to_take s took Server) sent ∙ eqb-true (to_take l.sent took Server) 0 may
took_by took l m (Answered b) sent may k = λ e. never (sym k.waits ∙ e)
took_by took l m Retires sent may k = λ e. never (sym k.waits ∙ e)
took_by took l m other sent may k = λ e. never (sym k.waits ∙ e)

pub took_along : (g : Setup) (took : TakenCounts) (l m : TraceState) (items : List Item) → Ordered l → TookAll took l → Met l.sent took items → Unfolds g l items m → TookAll took m
took_along g took l m [] h k met is = subst (TookAll took) is k
took_along g took l m (i ∷ items) h k met (mid, step, rest) =
    let sent = sent_step g l mid i step in
    took_along g took mid m items (ordered_step g l mid i h step) (took_by took l mid i sent met.0 (side_of g l mid i h step)) (subst (λ s. Met s took items) (sym sent) met.1) rest

pub awaits_taken : (g : Setup) (took : TakenCounts) (client : Stream) (answers : Answers) (m : TraceState) (items : List Item) → Met no_bytes took items → Unfolds g (start g client answers) items m → awaits m.phase ≡ true → to_take m.sent took Server ≡ 0
awaits_taken g took client answers m items met is =
    let s = start_ordered g client answers in
    took_along g took (start g client answers) m items s (λ e. absurd (true≢false (sym e ∙ (enter_goes g ClientAccepted false Absent (first_host g) refl).waits))) met is

-- ---- nothing is sent to a server connection that isn't there yet

abbrev SendsNext : ℕ → Next → Type 0
SendsNext number (Does i m) = SendsTo number (shown i).sends
SendsNext number (Waits k) = Unit {0}
SendsNext number Over = Unit {0}

plain_sends : (cut : Option Cut) (number : ℕ) (client : Stream) (o : Next) → FairNext cut number client o → SendsNext number o
plain_sends cut number client (Does i m) fair = fair.sends
plain_sends cut number client (Waits k) fair = tt
plain_sends cut number client Over fair = tt

cut_sends : (g : Setup) (number : ℕ) (l : TraceState) (cut : Option Cut) (o : Next) → SendsNext number o → SendsNext number (cut_next g cut l o)
cut_sends g number l None o is = is
cut_sends g number l (Some c) o is = by_end l.finished
  where
    by_place : (o : Next) → SendsNext number o → SendsNext number (cut_open g c l o)
    by_place (Does i m) is = by_test (may_give i l.sent c.took || not (cut_takes g.http c.reason None))
      where
        by_test : (b : Bool) → SendsNext number (if b then Does i m else finish g (CutBy c.reason) (uncut l))
        by_test true = is
        by_test false = tt
    by_place (Waits k) is = by_test (cut_takes g.http c.reason (Some k))
      where
        by_test : (b : Bool) → SendsNext number (if b then finish g (CutBy c.reason) (uncut l) else Waits k)
        by_test true = tt
        by_test false = tt
    by_place Over is = tt

    by_end : (b : Bool) → SendsNext number (if b then o else cut_open g c l o)
    by_end true = is
    by_end false = by_place o is

counted_sends : (number : ℕ) (sent : Counts) (o : Next) → SendsNext number o → SendsNext number (counted sent o)
counted_sends number sent (Does i m) is = is
counted_sends number sent (Waits k) is = tt
counted_sends number sent Over is = tt

pub item_sends : (g : Setup) (l m : TraceState) (i : Item) → next_item g l ≡ Does i m → SendsTo l.sent.number (shown i).sends
unfolding next_item
item_sends g l m i is =
    let o = phase_next g l.phase l in
    subst (SendsNext l.sent.number) is (counted_sends l.sent.number l.sent _ (cut_sends g l.sent.number l l.answers.cut o (plain_sends l.answers.cut l.sent.number l.client o (phase_fair g l.phase l))))

peer_apart : (number k : ℕ) (peer : Peer) (bytes : List ℕ) → number < k → PeerIs number peer → bytes_to_server k peer bytes ≡ []
peer_apart number k ToClient bytes below is = refl
peer_apart number k (ToServer j) bytes below is = ap (λ b. if b then bytes else []) (ne_eqb j k (λ e. absurd (omega (arith, below, is, e))))

pub part_apart : (number k : ℕ) (s : Option Sending) → number < k → SendsTo number s → server_part k s ≡ []
part_apart number k None below is = refl
part_apart number k (Some s) below is = peer_apart number k s.peer s.bytes below is

-- the number doesn't fall
renewed_number : (b : Bool) (sent : Counts) → sent.number ≤ (renewed b sent).number
renewed_number true sent = omega arith
renewed_number false sent = omega arith

pub number_grows : (g : Setup) (l m : TraceState) (i : Item) → next_item g l ≡ Does i m → l.sent.number ≤ m.sent.number
number_grows g l m i is =
    let sent = ap (λ c. c.number) (sent_step g l m i is) in
    let part = part_number (shown i).sends (renewed (shown i).renews l.sent) in
    let grows = renewed_number (shown i).renews l.sent in
    omega (arith, sent, part, grows)

pub number_along : (g : Setup) (l m : TraceState) (items : List Item) → Unfolds g l items m → l.sent.number ≤ m.sent.number
number_along g l m [] is = let e = ap (λ x. x.sent.number) is in omega (arith, e)
number_along g l m (i ∷ items) (mid, step, rest) = let a = number_grows g l mid i step in let b = number_along g mid m items rest in omega (arith, a, b)

pub none_sent : (g : Setup) (l m : TraceState) (items : List Item) (k : ℕ) → Unfolds g l items m → m.sent.number < k → server_output k items ≡ []
none_sent g l m [] k is below = refl
none_sent g l m (i ∷ items) k (mid, step, rest) below =
    let a = number_grows g l mid i step in
    let b = number_along g mid m items rest in
    ap (λ x. x ++ server_output k items) (part_apart l.sent.number k (shown i).sends (omega (arith, a, b, below)) (item_sends g l mid i step)) ∙ none_sent g mid m items k rest below

-- to one before nothing more is sent
peer_before : (number k : ℕ) (peer : Peer) (bytes : List ℕ) → k < number → PeerIs number peer → bytes_to_server k peer bytes ≡ []
peer_before number k ToClient bytes below is = refl
peer_before number k (ToServer j) bytes below is = ap (λ b. if b then bytes else []) (ne_eqb j k (λ e. absurd (omega (arith, below, is, e))))

pub part_before : (number k : ℕ) (s : Option Sending) → k < number → SendsTo number s → server_part k s ≡ []
part_before number k None below is = refl
part_before number k (Some s) below is = peer_before number k s.peer s.bytes below is

-- ---- those before the present one took all

-- behind items, of which `before` are those in front
pub record EarlierTook (took : TakenCounts) (l : TraceState) (before : List Item) : Type 0 where
  pub present : l.sent.server ≡ length (server_output l.sent.number before)
  pub earlier : (k : ℕ) → k < l.sent.number → untaken (length (server_output k before)) (taken_of took.servers k) ≡ 0

output_on : (k : ℕ) (before : List Item) (i : Item) → length (server_output k (before ++ i ∷ [])) ≡ length (server_output k before) + length (to_server k i)
output_on k [] i = let e = ap length (append-nil (to_server k i)) in omega (arith, e)
output_on k (j ∷ before) i =
    let rest = output_on k before i in
    let a = length-append (to_server k j) (server_output k (before ++ i ∷ [])) in
    let b = length-append (to_server k j) (server_output k before) in
    omega (arith, rest, a, b)

same_output : (k : ℕ) (before : List Item) (i : Item) → to_server k i ≡ [] → length (server_output k (before ++ i ∷ [])) ≡ length (server_output k before)
same_output k before i none = let e = output_on k before i in let z = ap length none in omega (arith, e, z)

-- what an item sends to the present one
part_length : (number : ℕ) (s : Option Sending) (sent : Counts) → sent.number ≡ number → SendsTo number s → (sent_part s sent).server ≡ sent.server + length (server_part number s)
part_length number None sent is to = omega arith
part_length number (Some s) sent is to = by_peer s.peer to
  where
    by_peer : (p : Peer) → PeerIs number p → (sent_to p (length s.bytes) sent).server ≡ sent.server + length (bytes_to_server number p s.bytes)
    by_peer ToClient k = omega arith
    by_peer (ToServer j) k = ap (λ b. sent.server + length (if b then s.bytes else [])) (sym (eq-eqb j number k))

-- one that renews none
kept_by : (took : TakenCounts) (l m : TraceState) (before : List Item) (i : Item) → SendsTo l.sent.number (shown i).sends → m.sent ≡ sent_after i l.sent → (shown i).renews ≡ false → EarlierTook took l before → EarlierTook took m (before ++ i ∷ [])
kept_by took l m before i to sent renews h =
    let number : m.sent.number ≡ l.sent.number = ap (λ s. s.number) sent ∙ same_number i l.sent renews in
    let server : m.sent.server ≡ l.sent.server + length (to_server l.sent.number i) = ap (λ s. s.server) sent ∙ ap (λ b. (sent_part (shown i).sends (renewed b l.sent)).server) renews ∙ part_length l.sent.number (shown i).sends l.sent refl to in
    let on = output_on l.sent.number before i in
    let out = ap (λ n. length (server_output n (before ++ i ∷ []))) number in
    let present = h.present in
    record {
      present = omega (arith, server, on, out, present);
      earlier = λ n below. (
          let less : n < l.sent.number = omega (arith, below, number) in
          ap (λ x. untaken x (taken_of took.servers n)) (same_output n before i (part_before l.sent.number n (shown i).sends less to)) ∙ h.earlier n less
          );
    }

earlier_by : (took : TakenCounts) (l m : TraceState) (before : List Item) (i : Item) → SendsTo l.sent.number (shown i).sends → m.sent ≡ sent_after i l.sent → (awaits l.phase ≡ true → to_take l.sent took Server ≡ 0) → SideBy i l.phase l m
    → ((k : ℕ) → l.sent.number < k → server_output k before ≡ []) → EarlierTook took l before → EarlierTook took m (before ++ i ∷ [])
earlier_by took l m before (Answered true) to sent all k later h =
    let number : m.sent.number ≡ l.sent.number + 1 = ap (λ s. s.number) sent in
    let server : m.sent.server ≡ 0 = ap (λ s. s.server) sent in
    let none : to_take l.sent took Server ≡ 0 = all (ap awaits k.was) in
    let same : (n : ℕ) → length (server_output n (before ++ Answered true ∷ [])) ≡ length (server_output n before) = λ n. same_output n before (Answered true) refl in
    record {
      present = (let a = same m.sent.number in let b = ap length (later m.sent.number (omega (arith, number))) in omega (arith, a, b, server));
      earlier = λ n below. ap (λ x. untaken x (taken_of took.servers n)) (same n) ∙ by_number n (omega (arith, below, number));
    }
  where
    by_number : (n : ℕ) → n ≤ l.sent.number → untaken (length (server_output n before)) (taken_of took.servers n) ≡ 0
    by_number n le = by_test (nat_cases n l.sent.number le)
      where
        nat_cases : (a b : ℕ) → a ≤ b → (a < b) ⊎ (a ≡ b)
        nat_cases zero zero e = inr refl
        nat_cases zero (suc b) e = inl (omega arith)
        nat_cases (suc a) zero e = absurd (omega (arith, e))
        nat_cases (suc a) (suc b) e = by_rest (nat_cases a b (omega (arith, e)))
          where
            by_rest : (a < b) ⊎ (a ≡ b) → (suc a < suc b) ⊎ (suc a ≡ suc b)
            by_rest (inl x) = inl (omega (arith, x))
            by_rest (inr x) = inr (ap suc x)

        by_test : (n < l.sent.number) ⊎ (n ≡ l.sent.number) → untaken (length (server_output n before)) (taken_of took.servers n) ≡ 0
        by_test (inl below) = h.earlier n below
        by_test (inr is) =
            ap (λ x. untaken (length (server_output x before)) (taken_of took.servers x)) is ∙ ap (λ x. untaken x (taken_of took.servers l.sent.number)) (sym h.present) ∙ all (ap awaits k.was)
earlier_by took l m before (Answered false) to sent all k later h = kept_by took l m before (Answered false) to sent refl h
earlier_by took l m before other to sent all k later h = kept_by took l m before other to sent refl h

-- nothing was sent to a later one
abbrev NoneLater : TraceState → List Item → Type 0
NoneLater l before = (k : ℕ) → l.sent.number < k → server_output k before ≡ []

output_joined : (k : ℕ) (before : List Item) (i : Item) → server_output k before ≡ [] → to_server k i ≡ [] → server_output k (before ++ i ∷ []) ≡ []
output_joined k [] i a b = append-nil (to_server k i) ∙ b
output_joined k (j ∷ before) i a b = by_parts (to_server k j) (server_output k before) a (output_joined k before i)
  where
    by_parts : (x y : List ℕ) → x ++ y ≡ [] → (y ≡ [] → to_server k i ≡ [] → server_output k (before ++ i ∷ []) ≡ []) → x ++ server_output k (before ++ i ∷ []) ≡ []
    by_parts [] y e rest = rest e b
    by_parts (n ∷ x) y e rest = cc

earlier_along : (g : Setup) (took : TakenCounts) (l m : TraceState) (before items : List Item) → Ordered l → TookAll took l → NoneLater l before → EarlierTook took l before → Met l.sent took items → Unfolds g l items m → EarlierTook took m (before ++ items)
earlier_along g took l m before [] h k later t met is = subst (λ b. EarlierTook took m b) (sym (append-nil before)) (subst (λ x. EarlierTook took x before) is t)
earlier_along g took l m before (i ∷ items) h k later t met (mid, step, rest) =
    let sent = sent_step g l mid i step in
    let side = side_of g l mid i h step in
    let to = item_sends g l mid i step in
    let grows = number_grows g l mid i step in
    let joined : before ++ i ∷ items ≡ (before ++ i ∷ []) ++ items = sym (append_assoc before (i ∷ []) items) in
    subst (λ b. EarlierTook took m b) (sym joined)
    (earlier_along g took mid m (before ++ i ∷ []) items (ordered_step g l mid i h step) (took_by took l mid i sent met.0 side)
    (λ n above. output_joined n before i (later n (omega (arith, above, grows))) (part_apart l.sent.number n (shown i).sends (omega (arith, above, grows)) to))
    (earlier_by took l mid before i to sent k side later t) (subst (λ s. Met s took items) (sym sent) met.1) rest)

-- from the beginning
pub earlier_took : (g : Setup) (took : TakenCounts) (client : Stream) (answers : Answers) (m : TraceState) (items : List Item) → Met no_bytes took items → Unfolds g (start g client answers) items m → EarlierTook took m items
earlier_took g took client answers m items met is =
    let s = start_ordered g client answers in
    earlier_along g took (start g client answers) m [] items s (λ e. absurd (true≢false (sym e ∙ (enter_goes g ClientAccepted false Absent (first_host g) refl).waits))) (λ k above. refl)
    (record { present = refl; earlier = λ k below. absurd (omega (arith, below)) }) met is
