-- What is queued to the server connections of one connection along items: to the last what was sent to it and not taken, and with what those before lost all that is left.
use Rattle.std.proofs.Common.{◌≡◌, refl, sym, ap, subst, ◌∙◌, ℕ, zero, suc, ◌+◌, ◌<◌, ◌≤◌, List, [], ◌∷◌, ◌++◌, append-nil, append_assoc, length, length-append, drop, Bool, true, false, ◌||◌, true≢false, if◌then◌else◌, Option, Some, None, arith, eq-eqb, zero-add}
use Rattle.std.specs.Prelude.{is_some, nat_lt}
use Rattle.std.specs.Bool.{MatchBool}
use Rattle.std.proofs.lemmas.List.{drop-append-le}
use Rattle.std.proofs.lemmas.Grind.{flat_map-append}
use Rattle.std.proofs.lemmas.Bool.Decides.{nat_tests}
use Rattle.conn_trace.specs.Heard.{SideHeard}
use Rattle.conn_trace.specs.Item.{Item, Answered, Connected, Peer, Retires, Sending, ToClient, ToServer, bytes_to_server, server_output, server_part, shown, to_server}
use Rattle.conn_trace.specs.Further.{Further, longer}
use Rattle.conn_trace.specs.Places.{is_up}
use Rattle.conn_trace.specs.Setup.{Setup}
use Rattle.conn_trace.specs.State.{Link, Stream, Does, TraceState, link_of}
use Rattle.conn_trace.specs.Trace.{Unfolds, next_item}
use Rattle.conn_trace.proofs.Fair.{PeerIs, SendsTo}
use Rattle.conn.specs.Servers.{ServerQueue, peer_bytes, queue_along, queue_behind, sending_bytes, servers_output, to_servers}
use Rattle.conn.specs.Settling.{is_given_up}
use Rattle.proxy_core.specs.Scheduler.{servers_left}
use Rattle.proxy_core.specs.Servers.{awaits, has_server, is_serving, made, took_behind}
use Rattle.proxy_core.proofs.Linking.{as_false, as_true, from_false, from_true}
use Rattle.proxy_core.proofs.ServerGone.{never}
use Rattle.proxy_core.proofs.ServerLaws.{Ordered, item_sends, made_along, ordered_step, part_apart, part_before, side_of}
use Rattle.proxy_core.proofs.ServerPhases.{Quiet, SideBy, link_by}

-- ---- what is left

-- bytes for a server are those for the one of this number
peer_same : (number : ℕ) (peer : Peer) (bytes : List ℕ) → PeerIs number peer → bytes_to_server number peer bytes ≡ peer_bytes peer bytes
peer_same number ToClient bytes is = refl
peer_same number (ToServer j) bytes is = ap (λ b. if b then bytes else []) (eq-eqb j number is)

part_same : (number : ℕ) (s : Option Sending) → SendsTo number s → server_part number s ≡ sending_bytes s
part_same number None is = refl
part_same number (Some s) is = peer_same number s.peer s.bytes is

pub to_number : (number : ℕ) (i : Item) → SendsTo number (shown i).sends → to_server number i ≡ to_servers i
to_number number i is = part_same number (shown i).sends is

-- of those from another number on as much is left as before
pub output_on : (k : ℕ) (before : List Item) (i : Item) → server_output k (before ++ i ∷ []) ≡ server_output k before ++ to_server k i
output_on k before i = flat_map-append (to_server k) before (i ∷ []) ∙ ap (λ x. server_output k before ++ x) (append-nil (to_server k i))

output_length : (k : ℕ) (before : List Item) (i : Item) → length (server_output k (before ++ i ∷ [])) ≡ length (server_output k before) + length (to_server k i)
output_length k before i = ap length (output_on k before i) ∙ length-append (server_output k before) (to_server k i)

left_same : (number j : ℕ) (cs : List (Option SideHeard)) (before : List Item) (i : Item) → SendsTo number (shown i).sends → number < j → servers_left j cs (before ++ i ∷ []) ≡ servers_left j cs before
left_same number j [] before i to below = refl
left_same number j (None ∷ more) before i to below = left_same number j more before i to below
left_same number j (Some s ∷ more) before i to below =
    let here = output_length j before i in
    let none = ap length (part_apart number j (shown i).sends below to) in
    let rest = left_same number (suc j) more before i to (omega (arith, below)) in
    omega (arith, here, none, rest)

-- the present one grows by what is sent to it
left_more : (number j : ℕ) (cs : List (Option SideHeard)) (before : List Item) (i : Item) → SendsTo number (shown i).sends → j ≤ number → number < j + made cs → ((n k : ℕ) → n ≡ j + k → took_behind k cs ≤ length (server_output n before))
    → servers_left j cs (before ++ i ∷ []) ≡ servers_left j cs before + length (to_servers i)
left_more number j [] before i to least most within = absurd (omega (arith, least, most))
left_more number j (None ∷ more) before i to least most within = left_more number j more before i to least most within
left_more number j (Some s ∷ more) before i to least most within = by_test (λ least most within. left_more number (suc j) more before i to least most within) (nat_lt j number) refl
  where
    by_test : (suc j ≤ number → number < suc j + made more → ((n k : ℕ) → n ≡ suc j + k → took_behind k more ≤ length (server_output n before)) → servers_left (suc j) more (before ++ i ∷ []) ≡ servers_left (suc j) more before + length (to_servers i))
        → (b : Bool) → nat_lt j number ≡ b → servers_left j (Some s ∷ more) (before ++ i ∷ []) ≡ servers_left j (Some s ∷ more) before + length (to_servers i)
    by_test again true e =
        let above : j < number = grind (arith, nat_tests, e) in
        let here = output_length j before i in
        let none = ap length (part_before number j (shown i).sends above to) in
        let rest = again (omega (arith, above)) (omega (arith, most)) (λ n k is. within n (suc k) (omega (arith, is))) in
        omega (arith, here, none, rest)
    by_test again false e =
        let at_most : number ≤ j = grind (arith, nat_tests, e) in
        let same : number ≡ j = omega (arith, least, at_most) in
        let T : ℕ → Type 0 = λ n. SendsTo n (shown i).sends in
        let here = output_length j before i in
        let bytes = ap length (to_number j i (subst T same to)) in
        let took = within j 0 (omega arith) in
        let rest = left_same number (suc j) more before i to (omega (arith, same)) in
        omega (arith, here, bytes, took, rest)

-- ---- along items

-- what the made ones are: those that wait and those that the trace took
abbrev pub AllMade : List (Option SideHeard) → TraceState → Type 0
AllMade cs l = made cs ≡ made l.answers.connects + l.sent.number

abbrev pub TookBehind : List (Option SideHeard) → List Item → Type 0
TookBehind cs place = (k : ℕ) → took_behind k cs ≤ length (server_output (suc k) place)

made_step : (g : Setup) (cs : List (Option SideHeard)) (l m : TraceState) (i : Item) → Ordered l → next_item g l ≡ Does i m → AllMade cs l → AllMade cs m
made_step g cs l m i h step all = all ∙ made_along g l m (i ∷ []) h (m, step, refl)

took_more : (cs : List (Option SideHeard)) (place : List Item) (i : Item) → TookBehind cs place → TookBehind cs (place ++ i ∷ [])
took_more cs place i within k = let here = output_length (suc k) place i in let w = within k in omega (arith, here, w)

front_none : (xs ys : List ℕ) → xs ++ ys ≡ [] → xs ≡ []
front_none [] ys e = refl
front_none (x ∷ xs) ys e = cc

left_step : (g : Setup) (cs : List (Option SideHeard)) (l m : TraceState) (place : List Item) (i : Item) → next_item g l ≡ Does i m → AllMade cs l → TookBehind cs place → to_server 0 i ≡ []
    → servers_left 1 cs (place ++ i ∷ []) ≡ servers_left 1 cs place + length (to_servers i)
left_step g cs l m place i step all within to_none = by_number l.sent.number refl
  where
    to : SendsTo l.sent.number (shown i).sends
    to = item_sends g l m i step

    by_number : (n : ℕ) → l.sent.number ≡ n → servers_left 1 cs (place ++ i ∷ []) ≡ servers_left 1 cs place + length (to_servers i)
    by_number zero e =
        let T : ℕ → Type 0 = λ n. SendsTo n (shown i).sends in
        let none = ap length (sym (to_number 0 i (subst T e to)) ∙ to_none) in
        let same = left_same l.sent.number 1 cs place i to (omega (arith, e)) in
        omega (arith, none, same)
    by_number (suc n) e = left_more l.sent.number 1 cs place i to (omega (arith, e)) (omega (arith, all)) (λ m k is. subst (λ x. took_behind k cs ≤ length (server_output x place)) (sym (let f : m ≡ suc k = omega (arith, is) in f)) (within k))

pub left_along : (g : Setup) (cs : List (Option SideHeard)) (l m : TraceState) (place items : List Item) → Ordered l → AllMade cs l → TookBehind cs place → server_output 0 items ≡ [] → Unfolds g l items m
    → servers_left 1 cs (place ++ items) ≡ servers_left 1 cs place + length (servers_output items)
left_along g cs l m place [] h all within to_none is = (let e = ap (servers_left 1 cs) (append-nil place) in omega (arith, e))
left_along g cs l m place (i ∷ items) h all within to_none (mid, step, rest) =
    let first = front_none (to_server 0 i) (server_output 0 items) to_none in
    let later : server_output 0 items ≡ [] = ap (λ x. x ++ server_output 0 items) (sym first) ∙ to_none in
    let here = left_step g cs l mid place i step all within first in
    let more = left_along g cs mid m (place ++ i ∷ []) items (ordered_step g l mid i h step) (made_step g cs l mid i h step all) (took_more cs place i within) later rest in
    let joined = ap (servers_left 1 cs) (append_assoc place (i ∷ []) items) in
    let sum = length-append (to_servers i) (servers_output items) in
    omega (arith, here, more, joined, sum)

-- as much more is queued and lost
pub queue_length : (items : List Item) (q : ServerQueue) → length (queue_along items q).queued + (queue_along items q).lost ≡ (length q.queued + q.lost) + length (servers_output items)
queue_length [] q = omega arith
queue_length (i ∷ items) q = by_item i (queue_length items)
  where
    plain : (i : Item) → ((q : ServerQueue) → length (queue_along items q).queued + (queue_along items q).lost ≡ (length q.queued + q.lost) + length (servers_output items)) → queue_behind i q ≡ record { queued = q.queued ++ to_servers i; lost = q.lost } → length (queue_along items (queue_behind i q)).queued + (queue_along items (queue_behind i q)).lost ≡ (length q.queued + q.lost) + length (to_servers i ++ servers_output items)
    plain i again e =
        let r = again (queue_behind i q) in
        let a = ap (λ x. length x.queued) e ∙ length-append q.queued (to_servers i) in
        let b = ap (λ x. x.lost) e in
        let s = length-append (to_servers i) (servers_output items) in
        omega (arith, r, a, b, s)

    by_item : (i : Item) → ((q : ServerQueue) → length (queue_along items q).queued + (queue_along items q).lost ≡ (length q.queued + q.lost) + length (servers_output items)) → length (queue_along items (queue_behind i q)).queued + (queue_along items (queue_behind i q)).lost ≡ (length q.queued + q.lost) + length (to_servers i ++ servers_output items)
    by_item (Connected to) again = let r = again (record { queued = []; lost = q.lost + length q.queued }) in omega (arith, r)
    by_item other again = plain other again refl

-- ---- which bytes

abbrev pub Waits : TraceState → Type 0
Waits l = MatchBool (awaits l.phase) (length l.answers.connects ≤ 1) (l.answers.connects ≡ [])

pub none_wait : (l : TraceState) → Waits l → awaits l.phase ≡ false → l.answers.connects ≡ []
none_wait l w e = as_false (length l.answers.connects ≤ 1) (l.answers.connects ≡ []) (awaits l.phase) e w

few_wait : (l : TraceState) → Waits l → awaits l.phase ≡ true → length l.answers.connects ≤ 1
few_wait l w e = as_true (length l.answers.connects ≤ 1) (l.answers.connects ≡ []) (awaits l.phase) e w

waits_none : (m : TraceState) → awaits m.phase ≡ false → m.answers.connects ≡ [] → Waits m
waits_none m e none = from_false (length m.answers.connects ≤ 1) (m.answers.connects ≡ []) (awaits m.phase) e none

last_one : (o : Option Stream) (more : List (Option Stream)) → length (o ∷ more) ≤ 1 → more ≡ []
last_one o [] le = refl
last_one o (x ∷ xs) le = absurd (omega (arith, le))

quiet_none : (l m : TraceState) (i : Item) → Waits l → Quiet i l.phase l m → l.answers.connects ≡ []
quiet_none l m i w k = by_waits (awaits l.phase) refl
  where
    by_waits : (b : Bool) → awaits l.phase ≡ b → l.answers.connects ≡ []
    by_waits true e = (k.waited e).0
    by_waits false e = none_wait l w e

waits_step : (l m : TraceState) (i : Item) → Waits l → SideBy i l.phase l m → Waits m
waits_step l m (Connected to) w k =
    let none = k.connects ∙ none_wait l w (ap awaits k.was) in
    from_true (length m.answers.connects ≤ 1) (m.answers.connects ≡ []) (awaits m.phase) (ap awaits k.phase) (let n = ap length none in omega (arith, n))
waits_step l m (Answered made) w k = waits_none m k.waits (k.connects ∙ last_one k.answer k.more (subst (λ cs. length cs ≤ 1) k.is (few_wait l w (ap awaits k.was))))
waits_step l m Retires w k = waits_none m k.waits (k.connects ∙ none_wait l w k.was)
waits_step l m other w k = waits_none m k.waits (k.connects ∙ quiet_none l m other w k)

pub waits_along : (g : Setup) (l m : TraceState) (items : List Item) → Ordered l → Waits l → Unfolds g l items m → Waits m
waits_along g l m [] h w is = subst Waits is w
waits_along g l m (i ∷ items) h w (mid, step, rest) = waits_along g mid m items (ordered_step g l mid i h step) (waits_step l mid i w (side_of g l mid i h step)) rest

pub waits_longer : (f : Further) (l : TraceState) → (longer f l).answers.connects ≡ l.answers.connects → Waits l → Waits (longer f l)
waits_longer f l same w = (let P : List (Option Stream) → Type 0 = λ cs. MatchBool (awaits l.phase) (length cs ≤ 1) (cs ≡ []) in subst P (sym same) w)

-- while one is up no answer is awaited
pub up_calm : (l : TraceState) → Ordered l → is_up (link_of l.server) ≡ true → awaits l.phase ≡ false
up_calm l h up = by_waits (awaits l.phase) refl
  where
    by_waits : (b : Bool) → awaits l.phase ≡ b → awaits l.phase ≡ false
    by_waits true w = absurd (let x = sym up ∙ ap is_up (h.going.asked w) in true≢false x)
    by_waits false w = w

-- what is queued to the last is what was sent to it and not taken
abbrev pub Queued : ℕ → ℕ → TraceState → List Item → List ℕ → Type 0
Queued n took l place queued = has_server (link_of l.server) l.answers.connects ≡ true → (queued ≡ drop took (server_output n place)) × (took ≤ length (server_output n place))

-- where nothing is sent to one
same_queued : (n took : ℕ) (place : List Item) (i : Item) (q : List ℕ) → to_server n i ≡ [] → to_servers i ≡ [] → (q ≡ drop took (server_output n place)) × (took ≤ length (server_output n place))
    → (q ++ to_servers i ≡ drop took (server_output n (place ++ i ∷ []))) × (took ≤ length (server_output n (place ++ i ∷ [])))
same_queued n took place i q none silent (is, le) =
    let out : server_output n (place ++ i ∷ []) ≡ server_output n place = output_on n place i ∙ ap (λ x. server_output n place ++ x) none ∙ append-nil (server_output n place) in
    let n' = ap length out in
    (ap (λ x. q ++ x) silent ∙ append-nil q ∙ is ∙ ap (drop took) (sym out), omega (arith, n', le))

-- where bytes are sent to it
more_queued : (n took : ℕ) (place : List Item) (i : Item) (q : List ℕ) → to_server n i ≡ to_servers i → (q ≡ drop took (server_output n place)) × (took ≤ length (server_output n place))
    → (q ++ to_servers i ≡ drop took (server_output n (place ++ i ∷ []))) × (took ≤ length (server_output n (place ++ i ∷ [])))
more_queued n took place i q same (is, le) =
    let len = output_length n place i in
    (ap (λ x. x ++ to_servers i) is ∙ ap (λ x. drop took (server_output n place) ++ x) (sym same) ∙ sym (drop-append-le took (server_output n place) (to_server n i) le) ∙ ap (drop took) (sym (output_on n place i)), omega (arith, len, le))

has_some : (k : Link) (cs : List (Option Stream)) (o : Option Stream) (more : List (Option Stream)) (b : Bool) → cs ≡ o ∷ more → is_some o ≡ b → b ≡ true → has_server k cs ≡ true
has_some k cs (Some s) more b e f g = ap (has_server k) e
has_some k cs None more b e f g = absurd (true≢false (sym g ∙ sym f))

none_there : (made : Bool) → made ≡ false → (is_serving (link_by made) || is_given_up (link_by made)) ≡ false
none_there true e = absurd (true≢false e)
none_there false e = refl

-- with no answer waiting
has_by : (k : Link) (cs : List (Option Stream)) → cs ≡ [] → has_server k cs ≡ (is_serving k || is_given_up k)
has_by k cs e = ap (has_server k) e

module _ (g : Setup) (cs : List (Option SideHeard)) (took : ℕ) where
  -- the last of all
  abbrev last : ℕ
  last = made cs

  quiet_queued : (l m : TraceState) (place : List Item) (i : Item) (q : List ℕ) → Waits l → AllMade cs l → next_item g l ≡ Does i m → Quiet i l.phase l m → Queued last took l place q → Queued last took m (place ++ i ∷ []) (q ++ to_servers i)
  quiet_queued l m place i q w all step k before there =
      let none = quiet_none l m i w k in
      let was : has_server (link_of l.server) l.answers.connects ≡ true =
      has_by (link_of l.server) l.answers.connects none ∙ ap (λ b. b || is_given_up (link_of l.server)) (sym k.serves) ∙ ap (λ b. is_serving (link_of m.server) || b) (sym k.given) ∙ sym (has_by (link_of m.server) m.answers.connects (k.connects ∙ none)) ∙ there in
      let number : last ≡ l.sent.number = all ∙ ap (λ x. made x + l.sent.number) none ∙ zero-add l.sent.number in
      let T : ℕ → Type 0 = λ n. SendsTo n (shown i).sends in
      more_queued last took place i q (to_number last i (subst T (sym number) (item_sends g l m i step))) (before was)

  step_queued : (l m : TraceState) (place : List Item) (i : Item) (q : ServerQueue) → Waits l → AllMade cs l → next_item g l ≡ Does i m → SideBy i l.phase l m → Queued last took l place q.queued → Queued last took m (place ++ i ∷ []) (queue_behind i q).queued
  step_queued l m place (Connected to) q w all step k before there =
      let none = k.connects ∙ none_wait l w (ap awaits k.was) in
      never (sym (has_by (link_of m.server) m.answers.connects none ∙ ap (λ v. is_serving (link_of v) || is_given_up (link_of v)) k.server) ∙ there)
  step_queued l m place (Answered true) q w all step k before there = same_queued last took place (Answered true) q.queued refl refl (before (has_some (link_of l.server) l.answers.connects k.answer k.more true k.is k.made_is refl))
  step_queued l m place (Answered false) q w all step k before there =
      let none = k.connects ∙ last_one k.answer k.more (subst (λ x. length x ≤ 1) k.is (few_wait l w (ap awaits k.was))) in
      never (sym (has_by (link_of m.server) m.answers.connects none ∙ ap (λ y. is_serving y || is_given_up y) k.link) ∙ there)
  step_queued l m place Retires q w all step k before there =
      same_queued last took place Retires q.queued refl refl (before (has_by (link_of l.server) l.answers.connects (none_wait l w k.was) ∙ ap (λ b. b || is_given_up (link_of l.server)) k.served))
  step_queued l m place other q w all step k before there = quiet_queued l m place other q.queued w all step k before there

  pub queued_along : (l m : TraceState) (place items : List Item) (q : ServerQueue) → Ordered l → Waits l → AllMade cs l → Queued last took l place q.queued → Unfolds g l items m → Queued last took m (place ++ items) (queue_along items q).queued
  queued_along l m place [] q h w all before is = subst (λ p. Queued last took m p q.queued) (sym (append-nil place)) (subst (λ x. Queued last took x place q.queued) is before)
  queued_along l m place (i ∷ items) q h w all before (mid, step, rest) =
      let side = side_of g l mid i h step in
      let joined : place ++ i ∷ items ≡ (place ++ i ∷ []) ++ items = sym (append_assoc place (i ∷ []) items) in
      subst (λ p. Queued last took m p (queue_along (i ∷ items) q).queued) (sym joined)
      (queued_along mid m (place ++ i ∷ []) items (queue_behind i q) (ordered_step g l mid i h step) (waits_step l mid i w side) (made_step g cs l mid i h step all) (step_queued l mid place i q w all step side before) rest)
