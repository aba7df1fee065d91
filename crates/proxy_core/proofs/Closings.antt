-- What the notes that are due leave of the ends, and which of them say that it is over.
use Rattle.std.proofs.Common.{◌≡◌, ◌⊎◌, inl, inr, refl, sym, ap, subst, ◌∙◌, ℕ, List, [], ◌∷◌, ◌++◌, append_assoc, Bool, true, false, ◌||◌, ◌&&◌, not, if◌then◌else◌}
use Rattle.std.specs.List.{list_any}
use Rattle.px_bytes.specs.declared.addr.Side.{Side}
use Rattle.px_bytes.specs.declared.addr.Side.TheVariants.{Client, Server}
use Rattle.core_events.specs.Edges.{edge_of, edges_noted}
use Rattle.core_events.specs.declared.input.Input.{Input}
use Rattle.core_events.specs.declared.input.Input.TheVariants.{Bytes, Ends, Resets, Connects, Takes}
use Rattle.conn_trace.specs.Heard.{edges_met}
use Rattle.conn_trace.specs.Gates.{TakenCounts}
use Rattle.conn_trace.specs.Queries.{half_close_due}
use Rattle.conn_trace.specs.Setup.{Setup}
use Rattle.conn_trace.specs.State.{TraceState}
use Rattle.conn_trace.specs.Trace.{next_item}
use Rattle.core_events.specs.declared.edges.Edge.{Edge}
use Rattle.core_events.specs.declared.edges.Edges.{Edges}
use Rattle.core_events.specs.declared.edges.EdgeState.TheVariants as state
use Rattle.core_events.specs.declared.note.Note.{Note}
use Rattle.core_events.specs.declared.note.Note.TheVariants as note
use Rattle.conn.specs.Settling.{client_notes, close_notes, closing, half_close, is_drained, is_over, is_there, note_if, resting, server_notes, settling, settling_at, took_all, given_up_at}
use Rattle.proxy_core.specs.Shown.{closes_for_good, ends_it}
use Rattle.proxy_core.specs.Sound.{is_closed}
use Rattle.proxy_core.proofs.EdgeNotes.{edges_joined}

-- ---- the ends

abbrev pub shut : Bool → Edge → Edge
shut b x = if b then record x { state = state.Closed } else x

abbrev pub halved : Bool → Edge → Edge
halved b x = if b then record x { half = true } else x

abbrev pub both : Edge → Edge → Edges
both c s = record { client = c; server = s }

pub server_edges : (b : Bool) (c : ℕ) (x : Edges) → edges_noted (note_if b (note.CloseServer c)) x ≡ both x.client (shut b x.server)
server_edges true c x = refl
server_edges false c x = refl

client_edges : (b : Bool) (c : ℕ) (x : Edges) → edges_noted (note_if b (note.CloseClient c)) x ≡ both (shut b x.client) x.server
client_edges true c x = refl
client_edges false c x = refl

pub half_client : (b : Bool) (c : ℕ) (x : Edges) → edges_noted (note_if b (note.HalfClose c Client)) x ≡ both (halved b x.client) x.server
half_client true c x = refl
half_client false c x = refl

pub half_server : (b : Bool) (c : ℕ) (x : Edges) → edges_noted (note_if b (note.HalfClose c Server)) x ≡ both x.client (halved b x.server)
half_server true c x = refl
half_server false c x = refl

last_edges : (b : Bool) (c d : ℕ) (x : Edges) → edges_noted (note_if b (note.Ended c d)) x ≡ x
last_edges true c d x = refl
last_edges false c d x = refl

close_edges : (c : ℕ) (server client : Bool) (e x : Edges) → edges_noted (close_notes c server client e) x ≡ both (shut (client && is_there e.client.state) x.client) (shut (server && is_there e.server.state) x.server)
close_edges c server client e x =
    edges_joined (server_notes c server e) (client_notes c client e) x ∙ ap (edges_noted (client_notes c client e)) (server_edges (server && is_there e.server.state) c x)
    ∙ client_edges (client && is_there e.client.state) c (both x.client (shut (server && is_there e.server.state) x.server))

-- the server's also while its connection is given up
pub settling_edges : (over given : Bool) (c : ℕ) (e x : Edges) (server client : Bool) (d : ℕ)
    → edges_noted (settling over given c e server client d) x ≡ both (shut (over && (client && is_there e.client.state)) x.client) (shut ((over || given) && (server && is_there e.server.state)) x.server)
settling_edges true given c e x server client d =
    edges_joined (close_notes c server client e) (note_if (client && server) (note.Ended c d)) x ∙ last_edges (client && server) c d (edges_noted (close_notes c server client e) x) ∙ close_edges c server client e x
settling_edges false true c e x server client d = server_edges (server && is_there e.server.state) c x
settling_edges false false c e x server client d = refl

pub closing_edges : (c : ℕ) (e x : Edges) (d : ℕ) → edges_noted (closing c e d) x ≡ both (shut (is_there e.client.state) x.client) (shut (is_there e.server.state) x.server)
closing_edges c e x d = edges_joined (close_notes c true true e) (note.Ended c d ∷ []) x ∙ close_edges c true true e x

abbrev pub is_due : TakenCounts → TraceState → Edges → Side → Bool
is_due took at e side = half_close_due at took side && not (edge_of side e).half

pub resting_edges : (g : Setup) (took : TakenCounts) (at : TraceState) (c : ℕ) (e x : Edges) (d : ℕ)
    → edges_noted (resting g took at c e d) x
    ≡ both (shut (is_over (next_item g at) && (took_all at took Client && is_there e.client.state)) (halved (is_due took at e Client) x.client)) (shut ((is_over (next_item g at) || given_up_at at) && (took_all at took Server && is_there e.server.state)) (halved (is_due took at e Server) x.server))
resting_edges g took at c e x d =
    let last = settling_at g took at c e d in
    let y = both (halved (is_due took at e Client) x.client) x.server in
    edges_joined (half_close took at c e Client) (half_close took at c e Server ++ last) x ∙ ap (edges_noted (half_close took at c e Server ++ last)) (half_client (is_due took at e Client) c x)
    ∙ edges_joined (half_close took at c e Server) last y ∙ ap (edges_noted last) (half_server (is_due took at e Server) c y)
    ∙ settling_edges (is_over (next_item g at)) (given_up_at at) c e (both y.client (halved (is_due took at e Server) y.server)) (took_all at took Server) (took_all at took Client) d

-- one that is shut isn't there
pub shut_gone : (x : Edge) → is_there (shut (is_there x.state) x).state ≡ false
shut_gone x = by_there (is_there x.state) refl
  where
    by_there : (b : Bool) → is_there x.state ≡ b → is_there (shut b x).state ≡ false
    by_there true e = refl
    by_there false e = e

-- one that is closed was, or was shut
pub shut_closed : (b : Bool) (x : Edge) → is_closed (shut b x).state ≡ true → b ≡ false → is_closed x.state ≡ true
shut_closed true x e n = cc
shut_closed false x e n = e

pub half_state : (b : Bool) (x : Edge) → (halved b x).state ≡ x.state
half_state true x = refl
half_state false x = refl

-- ---- what was told at a rest isn't due again

told_once : (a h : Bool) → (a && not (if a && not h then true else h)) ≡ false
told_once true true = refl
told_once true false = refl
told_once false h = refl

half_of : (a b : Bool) (x : Edge) → (shut a (halved b x)).half ≡ (if b then true else x.half)
half_of true true x = refl
half_of true false x = refl
half_of false true x = refl
half_of false false x = refl

half_again : (a due : Bool) (x : Edge) (n : Note) → note_if (due && not (shut a (halved (due && not x.half) x)).half) n ≡ []
half_again a due x n = ap (λ h. note_if (due && not h) n) (half_of a (due && not x.half) x) ∙ ap (λ b. note_if b n) (told_once due x.half)

shut_again : (took b : Bool) (x : Edge) (n : Note) → note_if (took && is_there (shut (took && is_there x.state) (halved b x)).state) n ≡ []
shut_again false b x n = refl
shut_again true b x n = by_there (is_there x.state) refl
  where
    by_there : (t : Bool) → is_there x.state ≡ t → note_if (is_there (shut t (halved b x)).state) n ≡ []
    by_there true e = refl
    by_there false e = ap (λ s. note_if (is_there s) n) (half_state b x) ∙ ap (λ t. note_if t n) e

settled_again : (over given server client bc bs : Bool) (c : ℕ) (e : Edges) (d : ℕ) → (over && (client && server)) ≡ false
    → settling over given c (both (shut (over && (client && is_there e.client.state)) (halved bc e.client)) (shut ((over || given) && (server && is_there e.server.state)) (halved bs e.server))) server client d ≡ []
settled_again false true server client bc bs c e d n = shut_again server bs e.server (note.CloseServer c)
settled_again false false server client bc bs c e d n = refl
settled_again true given server client bc bs c e d n =
    let x = both (shut (client && is_there e.client.state) (halved bc e.client)) (shut (server && is_there e.server.state) (halved bs e.server)) in
    ap (λ ns. ns ++ note_if (client && server) (note.Ended c d))
    (ap (λ ns. ns ++ client_notes c client x) (shut_again server bs e.server (note.CloseServer c)) ∙ shut_again client bc e.client (note.CloseClient c))
    ∙ ap (λ b. note_if b (note.Ended c d)) n

rested : (g : Setup) (took : TakenCounts) (at : TraceState) (c : ℕ) (e : Edges) (d : ℕ) → is_drained g took at ≡ false
    → resting g took at c
    (both (shut (is_over (next_item g at) && (took_all at took Client && is_there e.client.state)) (halved (is_due took at e Client) e.client)) (shut ((is_over (next_item g at) || given_up_at at) && (took_all at took Server && is_there e.server.state)) (halved (is_due took at e Server) e.server))) d ≡ []
rested g took at c e d n =
    let over = is_over (next_item g at) in
    let a = over && (took_all at took Client && is_there e.client.state) in
    let b = (over || given_up_at at) && (took_all at took Server && is_there e.server.state) in
    let x = both (shut a (halved (is_due took at e Client) e.client)) (shut b (halved (is_due took at e Server) e.server)) in
    ap (λ ns. ns ++ (half_close took at c x Server ++ settling_at g took at c x d)) (half_again a (half_close_due at took Client) e.client (note.HalfClose c Client))
    ∙ ap (λ ns. ns ++ settling_at g took at c x d) (half_again b (half_close_due at took Server) e.server (note.HalfClose c Server))
    ∙ settled_again over (given_up_at at) (took_all at took Server) (took_all at took Client) (is_due took at e Client) (is_due took at e Server) c e d n

pub resting_again : (g : Setup) (took : TakenCounts) (at : TraceState) (c c' : ℕ) (e : Edges) (d d' : ℕ) → is_drained g took at ≡ false → resting g took at c' (edges_noted (resting g took at c e d) e) d' ≡ []
resting_again g took at c c' e d d' n = ap (λ x. resting g took at c' x d') (resting_edges g took at c e e d) ∙ rested g took at c' e d' n

-- ---- which of them say that it is over

pub any_on : (test : Note → Bool) (some more : List Note) → list_any test (some ++ more) ≡ (list_any test some || list_any test more)
any_on test [] more = refl
any_on test (n ∷ some) more = ap (λ b. test n || b) (any_on test some more) ∙ or_assoc (test n) (list_any test some) (list_any test more)
  where
    or_assoc : (a b c : Bool) → (a || (b || c)) ≡ ((a || b) || c)
    or_assoc true b c = refl
    or_assoc false b c = refl

pub none_on : (test : Note → Bool) (some more : List Note) → list_any test some ≡ false → list_any test (some ++ more) ≡ list_any test more
none_on test some more e = any_on test some more ∙ ap (λ b. b || list_any test more) e

pub any_if : (test : Note → Bool) (b : Bool) (n : Note) → test n ≡ false → list_any test (note_if b n) ≡ false
any_if test true n e = ap (λ b. b || false) e
any_if test false n e = refl

close_goes_on : (c : ℕ) (server client : Bool) (e : Edges) → list_any ends_it (close_notes c server client e) ≡ false
close_goes_on c server client e =
    none_on ends_it (server_notes c server e) (client_notes c client e) (any_if ends_it (server && is_there e.server.state) (note.CloseServer c) refl) ∙ any_if ends_it (client && is_there e.client.state) (note.CloseClient c) refl

-- the last says so alone
pub record LastEnds (c d : ℕ) (group : List Note) : Type 0 where
  pub before : List Note
  pub is : group ≡ before ++ note.Ended c d ∷ []
  pub once : list_any ends_it before ≡ false

-- by whether it is over then
pub record EndsBy (c d : ℕ) (over : Bool) (group : List Note) : Type 0 where
  pub going : over ≡ false → list_any ends_it group ≡ false
  pub last : over ≡ true → LastEnds c d group

pub ends_behind : (c d : ℕ) (over : Bool) (front group : List Note) → list_any ends_it front ≡ false → EndsBy c d over group → EndsBy c d over (front ++ group)
ends_behind c d over front group none k = record {
  going = λ e. none_on ends_it front group none ∙ k.going e;
  last = λ e. (let l = k.last e in record { before = front ++ l.before; is = ap (λ ns. front ++ ns) l.is ∙ sym (append_assoc front l.before (note.Ended c d ∷ [])); once = none_on ends_it front l.before none ∙ l.once });
}

pub closing_ends : (c : ℕ) (e : Edges) (d : ℕ) → EndsBy c d true (closing c e d)
closing_ends c e d = record {
  going = λ n. absurd (let x : true ≡ false = n in cc);
  last = λ n. record { before = close_notes c true true e; is = refl; once = close_goes_on c true true e };
}

no_ends : (c d : ℕ) (group : List Note) → list_any ends_it group ≡ false → EndsBy c d false group
no_ends c d group e = record { going = λ n. e; last = λ n. absurd (let x : false ≡ true = n in cc) }

pub none_ends : (c d : ℕ) → EndsBy c d false []
none_ends c d = no_ends c d [] refl

pub settling_ends : (over given : Bool) (c : ℕ) (e : Edges) (server client : Bool) (d : ℕ) → EndsBy c d (over && (client && server)) (settling over given c e server client d)
settling_ends false given c e server client d = no_ends c d (server_notes c (given && server) e) (any_if ends_it ((given && server) && is_there e.server.state) (note.CloseServer c) refl)
settling_ends true given c e server client d = by_last (client && server)
  where
    by_last : (b : Bool) → EndsBy c d b (close_notes c server client e ++ note_if b (note.Ended c d))
    by_last true = record {
      going = λ n. absurd (let x : true ≡ false = n in cc);
      last = λ n. record { before = close_notes c server client e; is = refl; once = close_goes_on c server client e };
    }
    by_last false = no_ends c d (close_notes c server client e ++ []) (none_on ends_it (close_notes c server client e) [] (close_goes_on c server client e))

pub settling_at_ends : (g : Setup) (took : TakenCounts) (at : TraceState) (c : ℕ) (e : Edges) (d : ℕ) → EndsBy c d (is_drained g took at) (settling_at g took at c e d)
settling_at_ends g took at c e d = settling_ends (is_over (next_item g at)) (given_up_at at) c e (took_all at took Server) (took_all at took Client) d

pub resting_ends : (g : Setup) (took : TakenCounts) (at : TraceState) (c : ℕ) (e : Edges) (d : ℕ) → EndsBy c d (is_drained g took at) (resting g took at c e d)
resting_ends g took at c e d =
    let last = settling_at g took at c e d in
    ends_behind c d (is_drained g took at) (half_close took at c e Client) (half_close took at c e Server ++ last) (any_if ends_it (is_due took at e Client) (note.HalfClose c Client) refl)
    (ends_behind c d (is_drained g took at) (half_close took at c e Server) last (any_if ends_it (is_due took at e Server) (note.HalfClose c Server) refl) (settling_at_ends g took at c e d))

-- while the trace goes on the client's end isn't closed
pub settling_opens : (over given : Bool) (c : ℕ) (e : Edges) (server client : Bool) (d : ℕ) → list_any closes_for_good (settling over given c e server client d) ≡ true → over ≡ true
settling_opens true given c e server client d k = refl
settling_opens false given c e server client d k = absurd (let x : false ≡ true = sym (any_if closes_for_good ((given && server) && is_there e.server.state) (note.CloseServer c) refl) ∙ k in cc)

pub resting_opens : (g : Setup) (took : TakenCounts) (at : TraceState) (c : ℕ) (e : Edges) (d : ℕ) → list_any closes_for_good (resting g took at c e d) ≡ true → is_over (next_item g at) ≡ true
resting_opens g took at c e d k =
    let last = settling_at g took at c e d in
    settling_opens (is_over (next_item g at)) (given_up_at at) c e (took_all at took Server) (took_all at took Client) d
    (sym (none_on closes_for_good (half_close took at c e Client) (half_close took at c e Server ++ last) (any_if closes_for_good (is_due took at e Client) (note.HalfClose c Client) refl)
    ∙ none_on closes_for_good (half_close took at c e Server) last (any_if closes_for_good (is_due took at e Server) (note.HalfClose c Server) refl)) ∙ k)

-- by what is due an end is closed where the trace is over, and the server's also where its connection is given up, and the side took all
abbrev pub closes_at : Side → (over given : Bool) → Bool
closes_at Client over given = over
closes_at Server over given = over || given

shut_by : (flag tk there h : Bool) (y : Edge) → is_closed (shut (flag && (tk && there)) (halved h y)).state ≡ true → ((flag ≡ true) × (tk ≡ true)) ⊎ (is_closed y.state ≡ true)
shut_by true true there h y q = inl (refl, refl)
shut_by true false there h y q = inr (ap is_closed (sym (half_state h y)) ∙ q)
shut_by false tk there h y q = inr (ap is_closed (sym (half_state h y)) ∙ q)

pub settling_closed : (g : Setup) (took : TakenCounts) (at : TraceState) (c : ℕ) (e x : Edges) (d : ℕ) (side : Side) → is_closed (edge_of side (edges_noted (settling_at g took at c e d) x)).state ≡ true
    → ((closes_at side (is_over (next_item g at)) (given_up_at at) ≡ true) × (took_all at took side ≡ true)) ⊎ (is_closed (edge_of side x).state ≡ true)
settling_closed g took at c e x d side k =
    let P : Edges → Type 0 = λ y. is_closed (edge_of side y).state ≡ true in
    by_side side (subst P (settling_edges (is_over (next_item g at)) (given_up_at at) c e x (took_all at took Server) (took_all at took Client) d) k)
  where
    by_side : (s : Side) → is_closed (edge_of s (both (shut (is_over (next_item g at) && (took_all at took Client && is_there e.client.state)) x.client) (shut ((is_over (next_item g at) || given_up_at at) && (took_all at took Server && is_there e.server.state)) x.server))).state ≡ true
        → ((closes_at s (is_over (next_item g at)) (given_up_at at) ≡ true) × (took_all at took s ≡ true)) ⊎ (is_closed (edge_of s x).state ≡ true)
    by_side Client q = shut_by (is_over (next_item g at)) (took_all at took Client) (is_there e.client.state) false x.client q
    by_side Server q = shut_by (is_over (next_item g at) || given_up_at at) (took_all at took Server) (is_there e.server.state) false x.server q

pub resting_closed : (g : Setup) (took : TakenCounts) (at : TraceState) (c : ℕ) (e x : Edges) (d : ℕ) (side : Side) → is_closed (edge_of side (edges_noted (resting g took at c e d) x)).state ≡ true
    → ((closes_at side (is_over (next_item g at)) (given_up_at at) ≡ true) × (took_all at took side ≡ true)) ⊎ (is_closed (edge_of side x).state ≡ true)
resting_closed g took at c e x d side k =
    let P : Edges → Type 0 = λ y. is_closed (edge_of side y).state ≡ true in
    by_side side (subst P (resting_edges g took at c e x d) k)
  where
    by_side : (s : Side)
        → is_closed (edge_of s (both (shut (is_over (next_item g at) && (took_all at took Client && is_there e.client.state)) (halved (is_due took at e Client) x.client)) (shut ((is_over (next_item g at) || given_up_at at) && (took_all at took Server && is_there e.server.state)) (halved (is_due took at e Server) x.server)))).state ≡ true
        → ((closes_at s (is_over (next_item g at)) (given_up_at at) ≡ true) × (took_all at took s ≡ true)) ⊎ (is_closed (edge_of s x).state ≡ true)
    by_side Client q = shut_by (is_over (next_item g at)) (took_all at took Client) (is_there e.client.state) (is_due took at e Client) x.client q
    by_side Server q = shut_by (is_over (next_item g at) || given_up_at at) (took_all at took Server) (is_there e.server.state) (is_due took at e Server) x.server q

-- where it is over neither end is there any more
pub record Gone (e : Edges) : Type 0 where
  pub client : is_there e.client.state ≡ false
  pub server : is_there e.server.state ≡ false

gone : (x y : Edges) → x ≡ y → Gone y → Gone x
gone x y e k = let P : Edges → Type 0 = λ z. Gone z in subst P (sym e) k

pub closing_gone : (c : ℕ) (e : Edges) (d : ℕ) → Gone (edges_noted (closing c e d) e)
closing_gone c e d = gone (edges_noted (closing c e d) e) (both (shut (is_there e.client.state) e.client) (shut (is_there e.server.state) e.server)) (closing_edges c e e d) (record { client = shut_gone e.client; server = shut_gone e.server })

half_gone : (b : Bool) (x : Edge) → is_there (shut (is_there x.state) (halved b x)).state ≡ false
half_gone b x = by_there (is_there x.state) refl
  where
    by_there : (t : Bool) → is_there x.state ≡ t → is_there (shut t (halved b x)).state ≡ false
    by_there true e = refl
    by_there false e = ap is_there (half_state b x) ∙ e

both_gone : (over given tc ts bc bs : Bool) (e : Edges) → (over && (tc && ts)) ≡ true → Gone (both (shut (over && (tc && is_there e.client.state)) (halved bc e.client)) (shut ((over || given) && (ts && is_there e.server.state)) (halved bs e.server)))
both_gone true given true true bc bs e n = record { client = half_gone bc e.client; server = half_gone bs e.server }
both_gone true given true false bc bs e n = absurd (cc)
both_gone true given false ts bc bs e n = absurd (cc)
both_gone false given tc ts bc bs e n = absurd (cc)

pub settling_gone : (g : Setup) (took : TakenCounts) (at : TraceState) (c : ℕ) (e : Edges) (d : ℕ) → is_drained g took at ≡ true → Gone (edges_noted (settling_at g took at c e d) e)
settling_gone g took at c e d n =
    let over = is_over (next_item g at) in
    gone (edges_noted (settling_at g took at c e d) e) (both (shut (over && (took_all at took Client && is_there e.client.state)) e.client) (shut ((over || given_up_at at) && (took_all at took Server && is_there e.server.state)) e.server))
    (settling_edges over (given_up_at at) c e e (took_all at took Server) (took_all at took Client) d) (both_gone over (given_up_at at) (took_all at took Client) (took_all at took Server) false false e n)

pub resting_gone : (g : Setup) (took : TakenCounts) (at : TraceState) (c : ℕ) (e : Edges) (d : ℕ) → is_drained g took at ≡ true → Gone (edges_noted (resting g took at c e d) e)
resting_gone g took at c e d n =
    let over = is_over (next_item g at) in
    gone (edges_noted (resting g took at c e d) e)
    (both (shut (over && (took_all at took Client && is_there e.client.state)) (halved (is_due took at e Client) e.client)) (shut ((over || given_up_at at) && (took_all at took Server && is_there e.server.state)) (halved (is_due took at e Server) e.server)))
    (resting_edges g took at c e e d) (both_gone over (given_up_at at) (took_all at took Client) (took_all at took Server) (is_due took at e Client) (is_due took at e Server) e n)

-- nothing that comes closes an end, nor does a note of an item
pub met_closed : (input : Input) (x : Edges) (side : Side) → is_closed (edge_of side (edges_met input x)).state ≡ true → is_closed (edge_of side x).state ≡ true
met_closed (Bytes from bytes) x side k = k
met_closed (Ends Client) x Client k = k
met_closed (Ends Client) x Server k = k
met_closed (Ends Server) x Client k = k
met_closed (Ends Server) x Server k = k
met_closed (Resets Client) x Client k = k
met_closed (Resets Client) x Server k = k
met_closed (Resets Server) x Client k = k
met_closed (Resets Server) x Server k = k
met_closed (Connects made) x Client k = k
met_closed (Connects true) x Server k = cc
met_closed (Connects false) x Server k = cc
met_closed (Takes from n) x side k = k
