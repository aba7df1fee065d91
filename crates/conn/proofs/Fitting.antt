-- Where a connection goes behind an event, or where one is entered: whether it has finished, and whether there may be a server connection.
use Rattle.std.proofs.Common.{◌≡◌, refl, sym, ap, subst, ℕ, zero, suc, List, [], ◌∷◌, Bool, true, false, true≢false, Option, Some, None, not, ◌||◌, ap}
use Rattle.std.specs.Option.{is_some}
use Rattle.std.specs.Prelude.{if◌then◌else◌}
use Rattle.px_bytes.specs.declared.addr.Side.{Side}
use Rattle.px_bytes.specs.declared.addr.Side.TheVariants.{Client, Server}
use Rattle.irule_net.specs.declared.state.Asks.{Asks}
use Rattle.irule_net.specs.declared.state.Asks.TheVariants.{NotAsked, Stated}
use Rattle.irule_net.specs.declared.state.Ending.{Ending}
use Rattle.irule_net.specs.declared.state.Ending.TheVariants.{Rejects, Closes}
use Rattle.irule_net.specs.declared.state.Selected.{Selected}
use Rattle.http_frames.specs.declared.state.BodyState.{BodyState}
use Rattle.irule_http.specs.State.{expects_by}
use Rattle.irule_http.specs.declared.state.Http.{Http}
use Rattle.conn_trace.specs.Http.{wanted_more}
use Rattle.conn_trace.specs.Routing.{is_left}
use Rattle.conn.specs.declared.ends.Behind.{Behind}
use Rattle.conn.specs.declared.ends.Behind.TheVariants as behind
use Rattle.conn.specs.Hosts.{seen_host}
use Rattle.conn.specs.declared.ends.Link.{Link}
use Rattle.conn.specs.declared.ends.Link.TheVariants as link
use Rattle.conn.specs.declared.events.At.{At}
use Rattle.conn.specs.declared.events.At.TheVariants as at
use Rattle.conn.specs.declared.host.RuleHost.{RuleHost}
use Rattle.conn.specs.declared.setup.Place.{Place}
use Rattle.conn.specs.declared.stage.Finish.TheVariants as finish
use Rattle.conn.specs.declared.stage.Stage.{Stage}
use Rattle.conn.specs.declared.stage.Stage.TheVariants as stage
use Rattle.conn.specs.Ends.{is_leaving, is_settled, is_sought, is_up}
use Rattle.conn.specs.Events.{is_closed, is_closing}
use Rattle.conn.specs.Stages.{InEvent as HostIn, accepted_stage, after_stage, at_fits, connected_stage, connecting_stage, data_stage, entered_by, failed_stage, fits, gathering_stage, has_body, has_finished, http_in, is_asking, leaving_stage, open_stage, request_data_stage, request_stage, response_stage, routed_stage, unless_ended}

-- an event that closes nothing leaves it going on
pub still_open : (at : At) → is_closing at ≡ false → is_closed at ≡ false
still_open at.Accepted e = refl
still_open at.ClientData e = refl
still_open at.Selected e = refl
still_open at.Failed e = refl
still_open at.Connected e = refl
still_open at.Request e = refl
still_open at.RequestData e = refl
still_open at.Response e = refl
still_open at.ResponseData e = refl
still_open at.ServerData e = refl
still_open at.Leaving e = refl
still_open at.ServerClosed e = absurd (true≢false e)
still_open at.Closed e = absurd (true≢false e)

-- what holds of a stage and of every stage that finishes holds however bodies end the connection
ended_keeps : (P : Stage → Type 0) → P (stage.Finishing finish.Rejected) → P (stage.Finishing finish.Closed) → (o : Option Ending) (st : Stage) → P st → P (unless_ended o st)
ended_keeps P r c None st k = k
ended_keeps P r c (Some Rejects) st k = r
ended_keeps P r c (Some Closes) st k = c

accepted_keeps : (P : Stage → Type 0) → P stage.AtHead → P stage.Choosing → P stage.Collecting → (http : Bool) (asks : Asks) → P (accepted_stage http asks)
accepted_keeps P h r c true asks = h
accepted_keeps P h r c false NotAsked = r
accepted_keeps P h r c false (Stated n) = c

failed_keeps : (P : Stage → Type 0) (x : Http) → P (stage.Dropping x.reader) → P stage.Choosing → P (stage.Finishing finish.Unselected) → (answer : Option Bool) (reselects : Bool) → P (failed_stage answer reselects x)
failed_keeps P x d r c (Some closing) reselects = d
failed_keeps P x d r c None true = r
failed_keeps P x d r c None false = c

routed_keeps : (P : Stage → Type 0) → P stage.Choosing → P (stage.GivingUp behind.BeforeSelect) → P stage.AtReuse → (up left : Bool) → P (routed_stage up left)
routed_keeps P r g u false left = r
routed_keeps P r g u true true = g
routed_keeps P r g u true false = u

gathering_keeps : (P : Stage → Type 0) (side : Side) (x : Http) (st : Stage) → P st → ((n : ℕ) → P (stage.Gathering side (suc n) x.reader)) → (n : ℕ) → P (gathering_stage side n x st)
gathering_keeps P side x st r k zero = r
gathering_keeps P side x st r k (suc n) = k n

request_keeps : (P : Stage → Type 0) (k : Link) (h : RuleHost) → P (stage.Finishing finish.Closed) → P (stage.Dropping (http_in h).reader) → P stage.Continuing → P (routed_stage (is_up k) (is_left (seen_host h))) → ((n : ℕ) → P (stage.Gathering Client (suc n) (http_in h).reader)) → (answer : Option Bool) (expects : Bool) → P (request_stage answer expects k h)
request_keeps P k h f d c r n (Some closing) true = f
request_keeps P k h f d c r n (Some closing) false = d
request_keeps P k h f d c r n None true = c
request_keeps P k h f d c r n None false = gathering_keeps P Client (http_in h) (routed_stage (is_up k) (is_left (seen_host h))) r n (wanted_more (http_in h))

request_data_keeps : (P : Stage → Type 0) (k : Link) (h : RuleHost) → P (stage.Dropping (http_in h).reader) → P (routed_stage (is_up k) (is_left (seen_host h))) → ((n : ℕ) → P (stage.Gathering Client (suc n) (http_in h).reader)) → (answer : Option Bool) → P (request_data_stage answer k h)
request_data_keeps P k h d r n (Some closing) = d
request_data_keeps P k h d r n None = gathering_keeps P Client (http_in h) (routed_stage (is_up k) (is_left (seen_host h))) r n (wanted_more (http_in h))

response_keeps : (P : Stage → Type 0) (x : Http) → P (stage.GivingUp behind.BehindMessage) → P (stage.Heading Server) → ((n : ℕ) → P (stage.Gathering Server (suc n) x.reader)) → (answer : Option Bool) → P (response_stage answer x)
response_keeps P x g h n (Some closing) = g
response_keeps P x g h n None = gathering_keeps P Server x (stage.Heading Server) h n (wanted_more x)

leaving_keeps : (P : Stage → Type 0) → ((b : Behind) → P (stage.Retiring b)) → P stage.Choosing → (k : Link) → P (leaving_stage k)
leaving_keeps P t r (link.Leaving b) = t b
leaving_keeps P t r link.Absent = r
leaving_keeps P t r link.Asked = r
leaving_keeps P t r link.Refused = r
leaving_keeps P t r link.Made = r
leaving_keeps P t r link.Up = r
leaving_keeps P t r link.GivenUp = r

data_keeps : (P : Stage → Type 0) → P (stage.Relaying Server) → P stage.Choosing → P stage.Collecting → (up released : Bool) → P (data_stage up released)
data_keeps P up r c true released = up
data_keeps P up r c false true = r
data_keeps P up r c false false = c

connected_keeps : (P : Stage → Type 0) → P (stage.Heading Client) → P (stage.Relaying Client) → P stage.Releasing → (http : Bool) (loose : List ℕ) → P (connected_stage http loose)
connected_keeps P h r c true loose = h
connected_keeps P h r c false [] = r
connected_keeps P h r c false (b ∷ bs) = c

selected_keeps : (P : Stage → Type 0) → P (stage.Finishing finish.Unselected) → ((s : Selected) → P (stage.Connecting s.addr)) → (o : Option Selected) → P (connecting_stage o)
selected_keeps P r c None = r
selected_keeps P r c (Some s) = c s

-- what holds of every stage behind an event that doesn't close it, holds where it goes
record Everywhere (P : Stage → Type 0) : Type 0 where
  choosing : P stage.Choosing
  collecting : P stage.Collecting
  at_head : P stage.AtHead
  continuing : P stage.Continuing
  gathering : (side : Side) (n : ℕ) (reader : BodyState) → P (stage.Gathering side (suc n) reader)
  at_reuse : P stage.AtReuse
  giving_up : (b : Behind) → P (stage.GivingUp b)
  retiring : (b : Behind) → P (stage.Retiring b)
  heading : (side : Side) → P (stage.Heading side)
  dropping : (reader : BodyState) → P (stage.Dropping reader)
  releasing : P stage.Releasing
  relaying : (first : Side) → P (stage.Relaying first)
  connecting : (s : Selected) → P (stage.Connecting s.addr)
  unselected : P (stage.Finishing finish.Unselected)
  rejected : P (stage.Finishing finish.Rejected)
  closed : P (stage.Finishing finish.Closed)

goes_keeps : (P : Stage → Type 0) → Everywhere P → (at : At) (k : Link) (h : RuleHost) → is_closed at ≡ false → P (after_stage at k h)
goes_keeps P e at.Accepted k h open_yet = ended_keeps P e.rejected e.closed h.net.wishes.ends _ (accepted_keeps P e.at_head e.choosing e.collecting (is_some h.http) h.net.client.asks)
goes_keeps P e at.ClientData k h open_yet = ended_keeps P e.rejected e.closed h.net.wishes.ends _ (data_keeps P (e.relaying Server) e.choosing e.collecting (is_up k) h.net.wishes.released)
goes_keeps P e at.Selected k h open_yet = ended_keeps P e.rejected e.closed h.net.wishes.ends _ (selected_keeps P e.unselected e.connecting h.net.selected)
goes_keeps P e at.Failed k h open_yet = ended_keeps P e.rejected e.closed h.net.wishes.ends _ (failed_keeps P (http_in h) (e.dropping (http_in h).reader) e.choosing e.unselected (http_in h).answer h.net.wishes.reselects)
goes_keeps P e at.Connected k h open_yet = ended_keeps P e.rejected e.closed h.net.wishes.ends _ (connected_keeps P (e.heading Client) (e.relaying Client) e.releasing (is_some h.http) h.net.loose)
goes_keeps P e at.Request k h open_yet =
    ended_keeps P e.rejected e.closed h.net.wishes.ends _
    (request_keeps P k h e.closed (e.dropping (http_in h).reader) e.continuing (routed_keeps P e.choosing (e.giving_up behind.BeforeSelect) e.at_reuse (is_up k) (is_left (seen_host h))) (λ n. e.gathering Client n (http_in h).reader) (http_in h).answer (expects_by (http_in h).came))
goes_keeps P e at.RequestData k h open_yet =
    ended_keeps P e.rejected e.closed h.net.wishes.ends _
    (request_data_keeps P k h (e.dropping (http_in h).reader) (routed_keeps P e.choosing (e.giving_up behind.BeforeSelect) e.at_reuse (is_up k) (is_left (seen_host h))) (λ n. e.gathering Client n (http_in h).reader) (http_in h).answer)
goes_keeps P e at.ResponseData k h open_yet = ended_keeps P e.rejected e.closed h.net.wishes.ends _ (response_keeps P (http_in h) (e.giving_up behind.BehindMessage) (e.heading Server) (λ n. e.gathering Server n (http_in h).reader) (http_in h).answer)
goes_keeps P e at.Response k h open_yet = ended_keeps P e.rejected e.closed h.net.wishes.ends _ (response_keeps P (http_in h) (e.giving_up behind.BehindMessage) (e.heading Server) (λ n. e.gathering Server n (http_in h).reader) (http_in h).answer)
goes_keeps P e at.Leaving k h open_yet = leaving_keeps P e.retiring e.choosing k
goes_keeps P e at.ServerData k h open_yet = ended_keeps P e.rejected e.closed h.net.wishes.ends _ (e.relaying Client)
goes_keeps P e at.ServerClosed k h open_yet = absurd (true≢false open_yet)
goes_keeps P e at.Closed k h open_yet = absurd (true≢false open_yet)

-- a stage behind the bodies of an event: it has finished where the event is a closing one, and asks nothing
pub record Plain (closed : Bool) (st : Stage) : Type 0 where
  pub finished : closed ≡ has_finished st
  pub awake : is_asking st ≡ false
  pub event : (e : At) → HostIn st e

plain : (st : Stage) → has_finished st ≡ false → is_asking st ≡ false → ((e : At) → HostIn st e) → Plain false st
plain st f a e = record { finished = sym f; awake = a; event = e }

everywhere_plain : Everywhere (Plain false)
everywhere_plain = record {
  choosing = plain stage.Choosing refl refl (λ e. tt);
  collecting = plain stage.Collecting refl refl (λ e. tt);
  at_head = plain stage.AtHead refl refl (λ e. tt);
  continuing = plain stage.Continuing refl refl (λ e. tt);
  gathering = λ side n reader. plain (stage.Gathering side (suc n) reader) refl refl (λ e. tt);
  at_reuse = plain stage.AtReuse refl refl (λ e. tt);
  giving_up = λ b. plain (stage.GivingUp b) refl refl (λ e. tt);
  retiring = λ b. plain (stage.Retiring b) refl refl (λ e. tt);
  heading = λ side. plain (stage.Heading side) refl refl (λ e. tt);
  dropping = λ reader. plain (stage.Dropping reader) refl refl (λ e. tt);
  releasing = plain stage.Releasing refl refl (λ e. tt);
  relaying = λ first. plain (stage.Relaying first) refl refl (λ e. tt);
  connecting = λ s. plain (stage.Connecting s.addr) refl refl (λ e. tt);
  unselected = plain (stage.Finishing finish.Unselected) refl refl (λ e. tt);
  rejected = plain (stage.Finishing finish.Rejected) refl refl (λ e. tt);
  closed = plain (stage.Finishing finish.Closed) refl refl (λ e. tt);
}

pub after_plain : (at : At) (k : Link) (h : RuleHost) → Plain (is_closed at) (after_stage at k h)
after_plain at k h = by_close (is_closed at) refl
  where
    by_close : (b : Bool) → is_closed at ≡ b → Plain b (after_stage at k h)
    by_close true is = subst (λ b. Plain true (if b then stage.Draining else open_stage at k h)) (sym is) (record { finished = refl; awake = refl; event = λ e. tt })
    by_close false is = goes_keeps (Plain false) everywhere_plain at k h is

-- nor does a body run there
everywhere_no_body : Everywhere (λ st. has_body st ≡ false)
everywhere_no_body = record { choosing = refl; collecting = refl; at_head = refl; continuing = refl; gathering = λ side n reader. refl; at_reuse = refl; giving_up = λ b. refl; retiring = λ b. refl; heading = λ side. refl; dropping = λ reader. refl; releasing = refl; relaying = λ first. refl; connecting = λ s. refl; unselected = refl; rejected = refl; closed = refl }

pub after_no_body : (at : At) (k : Link) (h : RuleHost) → has_body (after_stage at k h) ≡ false
after_no_body at k h = by_close (is_closed at) refl
  where
    by_close : (b : Bool) → is_closed at ≡ b → has_body (after_stage at k h) ≡ false
    by_close true is = ap (λ b. has_body (if b then stage.Draining else open_stage at k h)) is
    by_close false is = goes_keeps (λ st. has_body st ≡ false) everywhere_no_body at k h is

-- behind CLIENT_DATA it relays where there is a server
data_fits : (k : Link) (released : Bool) → at_fits at.ClientData k ≡ true → fits (data_stage (is_up k) released) k ≡ true
data_fits link.Absent true fit = refl
data_fits link.Absent false fit = refl
data_fits link.GivenUp true fit = refl
data_fits (link.Leaving w) true fit = refl
data_fits link.GivenUp false fit = refl
data_fits (link.Leaving w) false fit = refl
data_fits link.Asked released fit = absurd (true≢false (sym fit))
data_fits link.Refused released fit = absurd (true≢false (sym fit))
data_fits link.Made released fit = absurd (true≢false (sym fit))
data_fits link.Up released fit = refl

-- a request goes to the server that is there, or to one that is selected
routed_fits : (k : Link) (left : Bool) → is_settled k ≡ true → fits (routed_stage (is_up k) left) k ≡ true
routed_fits link.Absent left fit = refl
routed_fits link.GivenUp left fit = refl
routed_fits (link.Leaving w) left fit = refl
routed_fits link.Asked left fit = absurd (true≢false (sym fit))
routed_fits link.Refused left fit = absurd (true≢false (sym fit))
routed_fits link.Made left fit = absurd (true≢false (sym fit))
routed_fits link.Up true fit = refl
routed_fits link.Up false fit = refl

leaving_fits : (k : Link) → is_leaving k ≡ true → fits (leaving_stage k) k ≡ true
leaving_fits (link.Leaving w) fit = refl
leaving_fits link.Absent fit = absurd (true≢false (sym fit))
leaving_fits link.GivenUp fit = absurd (true≢false (sym fit))
leaving_fits link.Asked fit = absurd (true≢false (sym fit))
leaving_fits link.Refused fit = absurd (true≢false (sym fit))
leaving_fits link.Made fit = absurd (true≢false (sym fit))
leaving_fits link.Up fit = absurd (true≢false (sym fit))

-- where no server is asked for none waits for an answer
pub free_settled : (k : Link) → not (is_sought k) ≡ true → is_settled k ≡ true
free_settled link.Absent fit = refl
free_settled link.GivenUp fit = refl
free_settled (link.Leaving w) fit = refl
free_settled link.Asked fit = absurd (true≢false (sym fit))
free_settled link.Refused fit = absurd (true≢false (sym fit))
free_settled link.Made fit = absurd (true≢false (sym fit))
free_settled link.Up fit = absurd (true≢false (sym fit))

pub up_settled : (k : Link) → is_up k ≡ true → is_settled k ≡ true
up_settled k fit = ap (λ b. b || not (is_sought k)) fit

pub after_fits : (at : At) (h : RuleHost) (k : Link) → at_fits at k ≡ true → fits (after_stage at k h) k ≡ true
after_fits at.Accepted h k fit = ended_keeps (λ st. fits st k ≡ true) refl refl h.net.wishes.ends _ (accepted_keeps (λ st. fits st k ≡ true) (free_settled k fit) fit fit (is_some h.http) h.net.client.asks)
after_fits at.ClientData h k fit = ended_keeps (λ st. fits st k ≡ true) refl refl h.net.wishes.ends _ (data_fits k h.net.wishes.released fit)
after_fits at.Selected h k fit = ended_keeps (λ st. fits st k ≡ true) refl refl h.net.wishes.ends _ (selected_keeps (λ st. fits st k ≡ true) refl (λ s. fit) h.net.selected)
after_fits at.Failed h k fit = ended_keeps (λ st. fits st k ≡ true) refl refl h.net.wishes.ends _ (failed_keeps (λ st. fits st k ≡ true) (http_in h) (free_settled k fit) fit refl (http_in h).answer h.net.wishes.reselects)
after_fits at.Connected h k fit = ended_keeps (λ st. fits st k ≡ true) refl refl h.net.wishes.ends _ (connected_keeps (λ st. fits st k ≡ true) fit fit fit (is_some h.http) h.net.loose)
after_fits at.Request h k fit =
    ended_keeps (λ st. fits st k ≡ true) refl refl h.net.wishes.ends _
    (request_keeps (λ st. fits st k ≡ true) k h refl fit fit (routed_fits k (is_left (seen_host h)) fit) (λ n. fit) (http_in h).answer (expects_by (http_in h).came))
after_fits at.RequestData h k fit =
    ended_keeps (λ st. fits st k ≡ true) refl refl h.net.wishes.ends _
    (request_data_keeps (λ st. fits st k ≡ true) k h fit (routed_fits k (is_left (seen_host h)) fit) (λ n. fit) (http_in h).answer)
after_fits at.Response h k fit = ended_keeps (λ st. fits st k ≡ true) refl refl h.net.wishes.ends _ (response_keeps (λ st. fits st k ≡ true) (http_in h) fit fit (λ n. fit) (http_in h).answer)
after_fits at.ResponseData h k fit = ended_keeps (λ st. fits st k ≡ true) refl refl h.net.wishes.ends _ (response_keeps (λ st. fits st k ≡ true) (http_in h) fit fit (λ n. fit) (http_in h).answer)
after_fits at.Leaving h k fit = leaving_fits k fit
after_fits at.ServerData h k fit = ended_keeps (λ st. fits st k ≡ true) refl refl h.net.wishes.ends (stage.Relaying Client) fit
after_fits at.ServerClosed h k fit = refl
after_fits at.Closed h k fit = refl

-- no call is open where an event is entered
pub entered_awake : (at : At) (k : Link) (h : RuleHost) (ps : List Place) → is_asking (entered_by at k h ps) ≡ false
entered_awake at k h [] = (after_plain at k h).awake
entered_awake at k h (p ∷ ps) = refl

-- nor a body
pub entered_no_body : (at : At) (k : Link) (h : RuleHost) (ps : List Place) → has_body (entered_by at k h ps) ≡ false
entered_no_body at k h [] = after_no_body at k h
entered_no_body at k h (p ∷ ps) = refl
