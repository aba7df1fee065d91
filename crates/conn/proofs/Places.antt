-- Where a connection goes stands for where its trace goes.
use Rattle.std.proofs.Common.{◌≡◌, refl, sym, ap, subst, ◌∙◌, ℕ, zero, suc, ◌+◌, ◌<◌, List, [], ◌∷◌, ◌++◌, drop, length, Bool, true, false, not, ◌&&◌, ◌||◌, nat_lt, arith, ◌≤◌, Option, Some, None, true≢false, if◌then◌else◌}
use Rattle.std.specs.Option.{is_some}
use Rattle.std.specs.Bool.{MatchBool}
use Rattle.std.specs.Prelude.{option_and_then, option_map, slice_get}
use Rattle.std.proofs.lemmas.Bool.Decides.{nat_tests}
use Rattle.px_bytes.specs.declared.addr.Side.TheVariants.{Client, Server}
use Rattle.px_bytes.specs.declared.fault.Reply.{Reply}
use Rattle.tcl_trees.specs.Tree.{Tree}
use Rattle.tcl_vars.specs.Scopes.{Scopes}
use Rattle.event_order.specs.declared.event.EventName.{EventName}
use Rattle.event_order.specs.declared.event.EventName.TheVariants.{ClientClosed, ServerClosed}
use Rattle.irule_http.specs.State as messages
use Rattle.rule_model.specs.Evaluator.{evaluate}
use Rattle.rule_model.specs.Outcome.{Outcome, state}
use Rattle.rule_model.specs.Setting as given
use Rattle.irule_net.specs.State.{collected}
use Rattle.irule_net.specs.declared.state.Asks.{Asks}
use Rattle.irule_net.specs.declared.state.Asks.TheVariants.{NotAsked, Stated}
use Rattle.irule_net.specs.declared.state.Ending.{Ending}
use Rattle.irule_net.specs.declared.state.Ending.TheVariants.{Rejects, Closes}
use Rattle.irule_net.specs.declared.state.Selected.{Selected}
use Rattle.irule_http.specs.State.{expects_by}
use Rattle.irule_http.specs.declared.state.Http.{Http}
use Rattle.conn_trace.specs.Host.{HostState, body_setting, http_of}
use Rattle.conn_trace.specs.Http.{wanted_more}
use Rattle.conn_trace.specs.Item.{Unselected}
use Rattle.conn_trace.specs.Places as model
use Rattle.conn_trace.specs.Routing.{behind_accept, behind_accepted, behind_answer, behind_connect, behind_connected, behind_failed, behind_request, behind_request_data, behind_response, behind_told, gathering, is_left, routed}
use Rattle.conn_trace.specs.Places.{Place, place, at as put, after_event, after_server, begun, giving_up, behind_data, bodies_left, closed, closed_client, closed_server, connecting, enter, entered, http_begun, next_body}
use Rattle.conn_trace.specs.Setup.{Handler, Setup}
use Rattle.conn_trace.specs.State.{Absent, AtReuse, BeforeSelect, Choosing, Collecting, Finishing, Gated, GivingUp, Heading, Relaying, Running, InEvent, Phase, TraceState, link_of}
use Rattle.conn_trace.specs.State.{Link as ModelLink}
use Rattle.conn_trace.specs.State as state
use Rattle.frames.specs.Frames.{full_room, meaning, comes_to}
use Rattle.frames.specs.declared.frame.Frame.{Frame}
use Rattle.frames.specs.declared.frame.Mode.{Mode}
use Rattle.frames.specs.declared.frame.Mode.TheVariants as mode
use Rattle.frames.specs.declared.frame.Standing.{Standing}
use Rattle.conn.specs.Changes.{Begins, ClosesClient, ClosesServer, Closes as ClosesAll, Enters, GoesTo, Leaves, LeavesServer, NextBody, StartsBody, left_stage}
use Rattle.conn.specs.Ends.{behind_of, is_leaving, is_sought, is_up, link_by, server_by}
use Rattle.conn.specs.Events.{event_of, is_closed, is_closing}
use Rattle.conn.specs.Holds.{Around, Between, BodyGoesOn, GatedBefore, HoldsEnds, RunsFirst, Stands}
use Rattle.conn.specs.Hosts.{Told, begun_host, seen_host}
use Rattle.conn.specs.Setups.{body_at, body_in, places_at, Serves}
use Rattle.conn.specs.Stages.{InEvent as HostIn, accepted_stage, after_stage, at_fits, collect_stage, connected_stage, connecting_stage, data_stage, entered_by, failed_stage, fits, gathering_stage, has_finished, is_asking, leaving_stage, loose_stage, request_data_stage, request_stage, response_stage, routed_stage, unless_ended}
use Rattle.conn.specs.declared.connection.Conn.{Conn}
use Rattle.conn.specs.declared.ends.Behind.{Behind}
use Rattle.conn.specs.declared.ends.ConnectionEnd.{ConnectionEnd}
use Rattle.conn.specs.declared.ends.Ends.{Ends}
use Rattle.conn.specs.declared.ends.Link.{Link}
use Rattle.conn.specs.declared.ends.Link.TheVariants as link
use Rattle.conn.specs.declared.events.At.{At}
use Rattle.conn.specs.declared.events.At.TheVariants as event
use Rattle.conn.specs.declared.host.RuleHost.{RuleHost}
use Rattle.conn.specs.declared.setup.Place.{Place as Body}
use Rattle.conn.specs.declared.setup.Setup as code_setup
use Rattle.conn.specs.declared.stage.Finish.TheVariants as finish
use Rattle.conn.specs.declared.stage.Stage.{Stage}
use Rattle.conn.specs.declared.stage.Stage.TheVariants as stage
use Rattle.conn.proofs.Fitting.{after_fits, after_plain, still_open}

-- an item that is found stands within a list
some_within : {A : Type 0} (xs : List A) (n : ℕ) (x : A) → slice_get xs n ≡ Some x → n < length xs
some_within [] zero x e = absurd (cc)
some_within [] (suc n) x e = absurd (cc)
some_within (y ∷ xs) zero x e = omega arith
some_within (y ∷ xs) (suc n) x e = let k = some_within xs n x e in omega (arith, k)

-- a number that has a body is below their number
pub within : (s : code_setup.Setup) (at : At) (n : ℕ) (h : Handler) → body_at s at n ≡ Some h → n < length (places_at s at)
within s at n h e = by_place (slice_get (places_at s at) n) refl e
  where
    by_place : (p : Option Body) → slice_get (places_at s at) n ≡ p → option_and_then (body_in s.rules.now (event_of at)) p ≡ Some h → n < length (places_at s at)
    by_place None got e = absurd (cc)
    by_place (Some p) got e = some_within (places_at s at) n p got

-- those that are left
pub first_left : (hs : List Handler) (n : ℕ) (h : Handler) → slice_get hs n ≡ Some h → drop n hs ≡ h ∷ drop (n + 1) hs
first_left [] zero h e = absurd (cc)
first_left [] (suc n) h e = absurd (cc)
first_left (x ∷ hs) zero h e = let same : x ≡ h = cc in ap (λ y. y ∷ hs) same
first_left (x ∷ hs) (suc n) h e =
    let more : suc n + 1 ≡ suc (n + 1) = omega arith in
    first_left hs n h e ∙ ap (λ r. h ∷ r) (sym (ap (λ k. drop k (x ∷ hs)) more))

some_left : (hs : List Handler) (n : ℕ) → n < length hs → (b : Handler) × (bs : List Handler) × (drop n hs ≡ b ∷ bs)
some_left [] n e = absurd (omega (arith, e))
some_left (x ∷ hs) zero e = (x, hs, refl)
some_left (x ∷ hs) (suc n) e = some_left hs n (omega (arith, e))

none_left : (hs : List Handler) (n : ℕ) → length hs ≤ n → drop n hs ≡ []
none_left [] zero e = refl
none_left [] (suc n) e = refl
none_left (x ∷ hs) zero e = absurd (omega (arith, e))
none_left (x ∷ hs) (suc n) e = none_left hs n (omega (arith, e))

pub none_here : (hs : List Handler) (n : ℕ) → slice_get hs n ≡ None → drop n hs ≡ []
none_here [] zero e = refl
none_here [] (suc n) e = refl
none_here (x ∷ hs) zero e = absurd (cc)
none_here (x ∷ hs) (suc n) e = none_here hs n e

-- a body that begins comes to what its evaluation does
begins_same : {H : Type 0} (g : given.Setting H) (tree : Tree) (budget : ℕ) (vars : Scopes) (host : H) (more : List Reply) (m : Standing) → m.frames.items ≡ [] → m.mode ≡ mode.Begin → m.budget ≡ budget
    → evaluate g tree vars host more budget ≡ comes_to g tree m vars host more 0 []
unfolding evaluate
begins_same {H = H} g tree budget vars host more m frames begins units =
    let F : List Frame → Mode → ℕ → Outcome H = λ fs md b. meaning g full_room tree fs md [] (state vars host more b 0 []) in
    sym (ap (λ fs. F fs m.mode m.budget) frames ∙ ap (λ md. F [] md m.budget) begins ∙ ap (λ b. F [] mode.Begin b) units)

-- what it goes from: the variables of the trace, no reply that wasn't taken, and what its rules are told
pub record From (g : Setup) (l : TraceState) (mid : Conn) : Type 0 where
  pub vars : l.vars ≡ mid.vars
  pub replies : l.answers.replies ≡ []
  pub told : Told g mid.ends.link mid.host

-- It went to a place of its trace, with these ends, and no call is open.
pub record GoneTo (g : Setup) (fin : Bool) (p : Place) (l : TraceState) (e : Ends) (new : Conn) : Type 0 where
  pub stands : Stands g new.stage (put p l) new
  pub finished : fin ≡ has_finished new.stage
  pub fits : fits new.stage new.ends.link ≡ true
  pub told : Told g new.ends.link new.host
  pub ends : new.ends ≡ e
  pub awake : is_asking new.stage ≡ false
  pub event : HostIn new.stage new.host.event

-- the same is told of the same host, with the same ends
pub same_told : (g : Setup) (old new : Conn) → new.host ≡ old.host → new.ends ≡ old.ends → Told g old.ends.link old.host → Told g new.ends.link new.host
same_told g old new host ends k = subst (λ e. Told g e.link new.host) (sym ends) (subst (λ h. Told g old.ends.link h) (sym host) k)

-- what they are told that no event changes
pub record Known (g : Setup) (h : RuleHost) : Type 0 where
  pub from : h.net.from ≡ g.from
  pub spoken : is_some h.http ≡ g.http

pub known : (g : Setup) (k : Link) (h : RuleHost) → Told g k h → Known g h
known g k h t = record { from = t.from; spoken = t.spoken }

pub told_of : (g : Setup) (k : Link) (h : RuleHost) → Known g h → (h.net.relays ≡ true → is_up k ≡ true) → Told g k h
told_of g k h t relays = record { from = t.from; relays = relays; spoken = t.spoken }

-- of a host with the same client, that knows as much of a request
pub known_same : (g : Setup) (h i : RuleHost) → i.net.from ≡ h.net.from → is_some i.http ≡ is_some h.http → Known g h → Known g i
known_same g h i from http t = record { from = from ∙ t.from; spoken = http ∙ t.spoken }

-- of the same host and link
pub told_kept : (g : Setup) (old new : Conn) → new.host ≡ old.host → new.ends.link ≡ old.ends.link → Told g old.ends.link old.host → Told g new.ends.link new.host
told_kept g old new host link k = subst (λ m. Told g m new.host) (sym link) (subst (λ h. Told g old.ends.link h) (sym host) k)

-- where an event begins they are told whether there is a server connection
pub still_some : {A : Type 0} (f : A → A) (o : Option A) → is_some (option_map f o) ≡ is_some o
still_some f None = refl
still_some f (Some a) = refl

pub begun_told : (g : Setup) (at : At) (k : Link) (old new : RuleHost) → new ≡ begun_host at (is_up k) old → Known g old → Told g k new
begun_told g at k old new is t =
    subst (λ h. Told g k h) (sym is) (record { from = t.from; relays = λ e. e; spoken = still_some (http_begun old.net) old.http ∙ t.spoken })

begins_told : (g : Setup) (at : At) (old mid : Conn) → Begins at old mid → Told g old.ends.link old.host → Told g mid.ends.link mid.host
begins_told g at old mid k told = subst (λ e. Told g e.link mid.host) (sym k.ends) (begun_told g at old.ends.link old.host mid.host k.host (known g old.ends.link old.host told))

up_is : (k : Link) → model.is_up (link_by k) ≡ is_up k
up_is link.Absent = refl
up_is link.Asked = refl
up_is link.Refused = refl
up_is link.Made = refl
up_is link.Up = refl
up_is link.GivenUp = refl
up_is (link.Leaving w) = refl

link_side : (k : Link) (e : ConnectionEnd) → link_of (server_by k e) ≡ link_by k
link_side link.Absent e = refl
link_side link.Asked e = refl
link_side link.Refused e = refl
link_side link.Made e = refl
link_side link.Up e = refl
link_side link.GivenUp e = refl
link_side (link.Leaving w) e = refl

-- the link is that of the trace
pub link_is : (a : Around) (l : TraceState) (e : Ends) → HoldsEnds a l e → link_of l.server ≡ link_by e.link
link_is a l e h = ap link_of h.server ∙ link_side e.link e.server

-- an event begins alike
pub begun_is : (at : At) (k : Link) (old new : RuleHost) → new ≡ begun_host at (is_up k) old → seen_host new ≡ begun (event_of at) (link_by k) (seen_host old)
begun_is at k old new is = ap seen_host is ∙ ap (λ up. seen_host (begun_host at up old)) (sym (up_is k))

or_false : (b : Bool) → (b || false) ≡ b
or_false true = refl
or_false false = refl

-- of two events that begin one after another the second one says all
begun_again : (e f : EventName) (k : ModelLink) (h : HostState) → begun f k (begun e k h) ≡ begun f k h
begun_again e f k h = ap (λ o. record (begun f k h) { http = o }) (by_http h.http)
  where
    by_http : (o : Option Http) → option_map (http_begun (begun e k h).net) (option_map (http_begun h.net) o) ≡ option_map (http_begun h.net) o
    by_http None = refl
    by_http (Some x) = ap (λ d. Some (record (messages.begun x) { detaches = d })) (or_false (x.detaches || h.net.wishes.detaches))

closed_again : (g : Setup) (k : ModelLink) (h : HostState) → next_body g ServerClosed true k (g.handlers ServerClosed) (begun ServerClosed k h) ≡ closed_server g k h
closed_again g k h = ap (λ x. bodies_left ServerClosed (g.handlers ServerClosed) (begun ServerClosed k h) (bodies_left ClientClosed (g.handlers ClientClosed) x (place state.Draining x))) (begun_again ServerClosed ClientClosed k h)

module _ (g : Setup) (l : TraceState) where
  -- behind an event that is entered again by no other
  after_stands : (at : At) (fin : Bool) (k : Link) (new : Conn) → (at ≡ event.ServerClosed → ⊥) → From g l new → at_fits at k ≡ true → fin ≡ is_closed at → Stands g (after_stage at k new.host) (put (after_event g (event_of at) fin (link_by k) (seen_host new.host)) l) new
  after_stands at fin k new plain f fit is = by_event at plain fit is
    where
      here : Phase → TraceState
      here p = record l { phase = p; host = seen_host new.host }

      between : (p : Phase) → Between (here p) new
      between p = record { vars = f.vars; host = refl; replies = f.replies }

      by_end : (o : Option Ending) (st : Stage) (p : Phase) → Stands g st (here p) new → Stands g (unless_ended o st) (here (model.unless_ended o p)) new
      by_end None st p k = k
      by_end (Some Rejects) st p k = (refl, between _)
      by_end (Some Closes) st p k = (refl, between _)

      by_server : (o : Option Selected) → Stands g (connecting_stage o) (here (connecting o)) new
      by_server None = (refl, between _)
      by_server (Some s) = (refl, between _)

      by_bool : (b : Bool) → Stands g (if b then stage.Choosing else stage.Finishing finish.Unselected) (here (if b then Choosing else Finishing Unselected)) new
      by_bool true = (refl, between _)
      by_bool false = (refl, between _)

      by_failed : (o : Option Bool) → Stands g (failed_stage o (seen_host new.host).net.wishes.reselects (http_of (seen_host new.host))) (here (behind_failed o (seen_host new.host))) new
      by_failed (Some closing) = (refl, between _)
      by_failed None = by_bool (seen_host new.host).net.wishes.reselects

      by_asks : (asks : Asks) → Stands g (collect_stage asks) (here (behind_accepted asks)) new
      by_asks NotAsked = (refl, between _)
      by_asks (Stated n) = (refl, between _)

      by_accept : (http : Bool) → Stands g (accepted_stage http (seen_host new.host).net.client.asks) (here (behind_accept http (seen_host new.host))) new
      by_accept true = (refl, between _)
      by_accept false = by_asks (seen_host new.host).net.client.asks

      -- where a request goes
      by_left : (b : Bool) → Stands g (routed_stage true b) (here (if b then GivingUp BeforeSelect else AtReuse)) new
      by_left true = (refl, between _)
      by_left false = (refl, between _)

      by_routed : (x : Link) → Stands g (routed_stage (is_up x) (is_left (seen_host new.host))) (here (routed (link_by x) (seen_host new.host))) new
      by_routed link.Absent = (refl, between _)
      by_routed link.GivenUp = (refl, between _)
      by_routed (link.Leaving w) = (refl, between _)
      by_routed link.Asked = (refl, between _)
      by_routed link.Refused = (refl, between _)
      by_routed link.Made = (refl, between _)
      by_routed link.Up = by_left (is_left (seen_host new.host))

      by_wanted : (x : Link) (n : ℕ) → Stands g (gathering_stage Client n (http_of (seen_host new.host)) (routed_stage (is_up x) (is_left (seen_host new.host)))) (here (gathering Client n (seen_host new.host) (routed (link_by x) (seen_host new.host)))) new
      by_wanted x zero = by_routed x
      by_wanted x (suc n) = (refl, between _)

      by_expects : (x : Link) (expects : Bool) → Stands g (request_stage None expects x new.host) (here (behind_told expects (link_by x) (seen_host new.host))) new
      by_expects x true = (refl, between _)
      by_expects x false = by_wanted x (wanted_more (http_of (seen_host new.host)))

      by_answered : (x : Link) (closing expects : Bool) → Stands g (request_stage (Some closing) expects x new.host) (here (behind_answer expects (seen_host new.host))) new
      by_answered x closing true = (refl, between _)
      by_answered x closing false = (refl, between _)

      by_request : (x : Link) (o : Option Bool) → Stands g (request_stage o (expects_by (http_of (seen_host new.host)).came) x new.host) (here (behind_request o (link_by x) (seen_host new.host))) new
      by_request x (Some closing) = by_answered x closing (expects_by (http_of (seen_host new.host)).came)
      by_request x None = by_expects x (expects_by (http_of (seen_host new.host)).came)

      by_request_data : (x : Link) (o : Option Bool) → Stands g (request_data_stage o x new.host) (here (behind_request_data o (link_by x) (seen_host new.host))) new
      by_request_data x (Some closing) = (refl, between _)
      by_request_data x None = by_wanted x (wanted_more (http_of (seen_host new.host)))

      -- and a response
      by_gathered : (n : ℕ) → Stands g (gathering_stage Server n (http_of (seen_host new.host)) (stage.Heading Server)) (here (gathering Server n (seen_host new.host) (Heading Server))) new
      by_gathered zero = (refl, between _)
      by_gathered (suc n) = (refl, between _)

      by_response : (o : Option Bool) → Stands g (response_stage o (http_of (seen_host new.host))) (here (behind_response o (seen_host new.host))) new
      by_response (Some closing) = (refl, between _)
      by_response None = by_gathered (wanted_more (http_of (seen_host new.host)))

      -- behind the closing event of a server connection that is given up
      by_leaving : (x : Link) → is_leaving x ≡ true → (b : Bool) → b ≡ false → Stands g (leaving_stage x) (put (after_server g b (link_by x) (seen_host new.host)) l) new
      by_leaving (link.Leaving w) fit true e = absurd (true≢false e)
      by_leaving (link.Leaving w) fit false e = (refl, between _)
      by_leaving link.Absent fit b e = absurd (true≢false (sym fit))
      by_leaving link.GivenUp fit b e = absurd (true≢false (sym fit))
      by_leaving link.Asked fit b e = absurd (true≢false (sym fit))
      by_leaving link.Refused fit b e = absurd (true≢false (sym fit))
      by_leaving link.Made fit b e = absurd (true≢false (sym fit))
      by_leaving link.Up fit b e = absurd (true≢false (sym fit))

      by_release : (b : Bool) → Stands g (data_stage false b) (here (if b then Choosing else Collecting)) new
      by_release true = (refl, between _)
      by_release false = (refl, between _)

      by_link : (x : Link) (b : Bool) → Stands g (data_stage (is_up x) b) (here (behind_data (link_by x) b)) new
      by_link link.Absent b = by_release b
      by_link link.Asked b = by_release b
      by_link link.Refused b = by_release b
      by_link link.Made b = by_release b
      by_link link.GivenUp b = by_release b
      by_link (link.Leaving w) b = by_release b
      by_link link.Up b = (refl, between _)

      by_loose : (bytes : List ℕ) → Stands g (loose_stage bytes) (here (behind_connected bytes)) new
      by_loose [] = (refl, between _)
      by_loose (b ∷ bs) = (refl, between _)

      by_connect : (http : Bool) → Stands g (connected_stage http (seen_host new.host).net.loose) (here (behind_connect http (seen_host new.host))) new
      by_connect true = (refl, between _)
      by_connect false = by_loose (seen_host new.host).net.loose

      by_event : (at : At) → (at ≡ event.ServerClosed → ⊥) → at_fits at k ≡ true → fin ≡ is_closed at → Stands g (after_stage at k new.host) (put (after_event g (event_of at) fin (link_by k) (seen_host new.host)) l) new
      by_event event.Accepted p fit is = by_end new.host.net.wishes.ends _ _ (by_accept (is_some new.host.http))
      by_event event.ClientData p fit is = by_end new.host.net.wishes.ends (data_stage (is_up k) new.host.net.wishes.released) (behind_data (link_by k) new.host.net.wishes.released) (by_link k new.host.net.wishes.released)
      by_event event.Selected p fit is = by_end new.host.net.wishes.ends (connecting_stage new.host.net.selected) (connecting new.host.net.selected) (by_server new.host.net.selected)
      by_event event.Failed p fit is = by_end new.host.net.wishes.ends _ _ (by_failed (http_of (seen_host new.host)).answer)
      by_event event.Connected p fit is = by_end new.host.net.wishes.ends _ _ (by_connect (is_some new.host.http))
      by_event event.Request p fit is = by_end new.host.net.wishes.ends _ _ (by_request k (http_of (seen_host new.host)).answer)
      by_event event.RequestData p fit is = by_end new.host.net.wishes.ends _ _ (by_request_data k (http_of (seen_host new.host)).answer)
      by_event event.Response p fit is = by_end new.host.net.wishes.ends _ _ (by_response (http_of (seen_host new.host)).answer)
      by_event event.ResponseData p fit is = by_end new.host.net.wishes.ends _ _ (by_response (http_of (seen_host new.host)).answer)
      by_event event.Leaving p fit is = by_leaving k fit fin is
      by_event event.ServerData p fit is = by_end new.host.net.wishes.ends (stage.Relaying Client) Relaying (refl, between _)
      by_event event.ServerClosed p fit is = absurd (p refl)
      by_event event.Closed p fit is = (refl, between _)

  goes_gone : (at : At) (fin : Bool) (mid new : Conn) → (at ≡ event.ServerClosed → ⊥) → GoesTo (left_stage at mid) mid new → From g l mid → at_fits at mid.ends.link ≡ true → fin ≡ is_closed at
      → GoneTo g fin (after_event g (event_of at) fin (link_by mid.ends.link) (seen_host mid.host)) l mid.ends new
  goes_gone at fin mid new plain c f fit is =
      let k = mid.ends.link in
      let p = after_plain at k mid.host in
      let f' : From g l new = record { vars = f.vars ∙ sym c.vars; replies = f.replies; told = same_told g mid new c.host c.ends f.told } in
      let S : Stage → RuleHost → Type 0 = λ st h. Stands g st (put (after_event g (event_of at) fin (link_by k) (seen_host h)) l) new in
      record {
        stands = subst (λ st. S st mid.host) (sym c.there) (subst (λ h. S (after_stage at k h) h) c.host (after_stands at fin k new plain f' fit is));
        finished = is ∙ p.finished ∙ ap has_finished (sym c.there);
        fits = ap (λ st. fits st new.ends.link) c.there ∙ ap (λ e. fits (left_stage at mid) e.link) c.ends ∙ after_fits at mid.host k fit;
        told = f'.told;
        ends = c.ends;
        awake = ap is_asking c.there ∙ p.awake;
        event = subst (λ st. HostIn st new.host.event) (sym c.there) (p.event new.host.event);
      }

  module _ (s : code_setup.Setup) (serves : Serves s g) where
    -- a body that begins comes to what its evaluation does
    pub body_begins : (e : EventName) (b : Handler) (bs : List Handler) (mid new : Conn) (at : At) (n : ℕ) → StartsBody s at n mid new → From g l mid
        → BodyGoesOn g e b bs 0 (record l { phase = InEvent e (Running b bs 0); host = seen_host mid.host }) new
    body_begins e b bs mid new at n k f =
        let S = body_setting g b.procedures in
        let m = new.body.machine.at in
        record {
          acts = [];
          cost = 0;
          phase = refl;
          kept = λ side free. ap (λ h. collected side h.net) k.host;
          same = λ more.
              ap (λ rs. evaluate S b.body l.vars (seen_host mid.host) (rs ++ more) g.budget) f.replies
              ∙ ap (λ v. evaluate S b.body v (seen_host mid.host) more g.budget) (f.vars ∙ sym k.vars)
              ∙ ap (λ h. evaluate S b.body new.vars (seen_host h) more g.budget) (sym k.host)
              ∙ ap (λ u. evaluate S b.body new.vars (seen_host new.host) more u) serves.budget
              ∙ begins_same S b.body s.budget new.vars (seen_host new.host) more m k.fresh.frames k.fresh.mode k.fresh.units;
        }

    -- the body of this number begins
    pub starts_gone : (at : At) (n : ℕ) (fin : Bool) (b : Handler) (bs : List Handler) (mid new : Conn) → drop n (g.handlers (event_of at)) ≡ b ∷ bs → StartsBody s at n mid new → From g l mid → event_of mid.host.event ≡ event_of at → at_fits at mid.ends.link ≡ true → fin ≡ is_closed at
        → GoneTo g fin (place (InEvent (event_of at) (Running b bs 0)) (seen_host mid.host)) l mid.ends new
    starts_gone at n fin b bs mid new left c f ev fit is =
        let l' : TraceState = record l { phase = InEvent (event_of at) (Running b bs 0); host = seen_host mid.host } in
        let body : RunsFirst g (event_of at) (drop n (g.handlers (event_of at))) 0 l' new = subst (λ hs. RunsFirst g (event_of at) hs 0 l' new) (sym left) (body_begins (event_of at) b bs mid new at n c f) in
        record {
          stands = subst (λ st. Stands g st l' new) (sym c.there) (body, c.fresh.runs);
          finished = is ∙ ap has_finished (sym c.there);
          fits = ap (λ st. fits st new.ends.link) c.there ∙ ap (λ e. at_fits at e.link) c.ends ∙ fit;
          told = same_told g mid new c.host c.ends f.told;
          ends = c.ends;
          awake = ap is_asking c.there;
          event = subst (λ st. HostIn st new.host.event) (sym c.there) (ap (λ h. event_of h.event) c.host ∙ ev);
        }

    -- it begins where there is one, and else this comes
    bodies_gone : (at : At) (n : ℕ) (fin : Bool) (after : Place) (mid new : Conn) (Left : Type 0) → MatchBool (nat_lt n (length (places_at s at))) (StartsBody s at n mid new) Left → From g l mid → event_of mid.host.event ≡ event_of at → at_fits at mid.ends.link ≡ true → fin ≡ is_closed at
        → (Left → GoneTo g fin after l mid.ends new) → GoneTo g fin (bodies_left (event_of at) (drop n (g.handlers (event_of at))) (seen_host mid.host) after) l mid.ends new
    bodies_gone at n fin after mid new Left k f ev fit is left = by_test (nat_lt n (length (places_at s at))) refl k
      where
        G : List Handler → Type 0
        G hs = GoneTo g fin (bodies_left (event_of at) hs (seen_host mid.host) after) l mid.ends new

        by_test : (b : Bool) → nat_lt n (length (places_at s at)) ≡ b → MatchBool b (StartsBody s at n mid new) Left → G (drop n (g.handlers (event_of at)))
        by_test true e c =
            let below : n < length (places_at s at) = grind (arith, nat_tests, e) in
            let some = some_left (g.handlers (event_of at)) n (omega (arith, below, serves.count (event_of at))) in
            subst G (sym some.2) (starts_gone at n fin some.0 some.1 mid new some.2 c f ev fit is)
        by_test false e c =
            let past : length (places_at s at) ≤ n = grind (arith, nat_tests, e) in
            subst G (sym (none_left (g.handlers (event_of at)) n (omega (arith, past, serves.count (event_of at))))) (left c)

    -- CLIENT_CLOSED comes
    pub client_gone : (old new : Conn) → ClosesClient s old new → From g l old → GoneTo g true (closed_client g (link_by old.ends.link) (seen_host old.host)) l old.ends new
    client_gone old new k f =
        let mid = k.mid in
        let f' : From g l mid = record { vars = f.vars ∙ sym k.begins.vars; replies = f.replies; told = begins_told g event.Closed old mid k.begins f.told } in
        let gone = bodies_gone event.Closed 0 true (place state.Draining (seen_host mid.host)) mid new (GoesTo stage.Draining mid new) k.goes f' (ap (λ h. event_of h.event) k.begins.host) refl refl (λ c. goes_gone event.Closed true mid new (λ e. cc) c f' refl refl) in
        subst (λ e. GoneTo g true (closed_client g (link_by old.ends.link) (seen_host old.host)) l e new) k.begins.ends
        (subst (λ h. GoneTo g true (bodies_left (event_of event.Closed) (g.handlers (event_of event.Closed)) h (place state.Draining h)) l mid.ends new) (begun_is event.Closed old.ends.link old.host mid.host k.begins.host) gone)

    -- all bodies of an event have ended
    leaves_gone : (at : At) (fin : Bool) (mid new : Conn) → Leaves s at mid new → From g l mid → at_fits at mid.ends.link ≡ true → fin ≡ is_closed at → GoneTo g fin (after_event g (event_of at) fin (link_by mid.ends.link) (seen_host mid.host)) l mid.ends new
    leaves_gone event.Accepted fin mid new k f fit is = goes_gone event.Accepted fin mid new (λ e. cc) k f fit is
    leaves_gone event.ClientData fin mid new k f fit is = goes_gone event.ClientData fin mid new (λ e. cc) k f fit is
    leaves_gone event.Selected fin mid new k f fit is = goes_gone event.Selected fin mid new (λ e. cc) k f fit is
    leaves_gone event.Failed fin mid new k f fit is = goes_gone event.Failed fin mid new (λ e. cc) k f fit is
    leaves_gone event.Connected fin mid new k f fit is = goes_gone event.Connected fin mid new (λ e. cc) k f fit is
    leaves_gone event.Request fin mid new k f fit is = goes_gone event.Request fin mid new (λ e. cc) k f fit is
    leaves_gone event.RequestData fin mid new k f fit is = goes_gone event.RequestData fin mid new (λ e. cc) k f fit is
    leaves_gone event.Response fin mid new k f fit is = goes_gone event.Response fin mid new (λ e. cc) k f fit is
    leaves_gone event.ResponseData fin mid new k f fit is = goes_gone event.ResponseData fin mid new (λ e. cc) k f fit is
    leaves_gone event.Leaving fin mid new k f fit is = goes_gone event.Leaving fin mid new (λ e. cc) k f fit is
    leaves_gone event.ServerData fin mid new k f fit is = goes_gone event.ServerData fin mid new (λ e. cc) k f fit is
    leaves_gone event.ServerClosed fin mid new k f fit is = subst (λ b. GoneTo g b (after_event g (event_of event.ServerClosed) b (link_by mid.ends.link) (seen_host mid.host)) l mid.ends new) (sym is) (client_gone mid new k f)
    leaves_gone event.Closed fin mid new k f fit is = goes_gone event.Closed fin mid new (λ e. cc) k f fit is

    -- behind a body
    pub next_gone : (at : At) (n : ℕ) (fin : Bool) (mid new : Conn) → NextBody s at n mid new → From g l mid → event_of mid.host.event ≡ event_of at → at_fits at mid.ends.link ≡ true → fin ≡ is_closed at
        → GoneTo g fin (next_body g (event_of at) fin (link_by mid.ends.link) (drop n (g.handlers (event_of at))) (seen_host mid.host)) l mid.ends new
    next_gone at n fin mid new k f ev fit is =
        bodies_gone at n fin (after_event g (event_of at) fin (link_by mid.ends.link) (seen_host mid.host)) mid new (Leaves s at mid new) k f ev fit is (λ c. leaves_gone at fin mid new c f fit is)

    -- SERVER_CLOSED comes
    server_gone : (old new : Conn) → ClosesServer s old new → From g l old → GoneTo g true (closed_server g (link_by old.ends.link) (seen_host old.host)) l old.ends new
    server_gone old new k f =
        let mid = k.mid in
        let f' : From g l mid = record { vars = f.vars ∙ sym k.begins.vars; replies = f.replies; told = begins_told g event.ServerClosed old mid k.begins f.told } in
        let gone = next_gone event.ServerClosed 0 true mid new k.goes f' (ap (λ h. event_of h.event) k.begins.host) refl refl in
        let on : GoneTo g true (next_body g (event_of event.ServerClosed) true (link_by old.ends.link) (g.handlers (event_of event.ServerClosed)) (seen_host mid.host)) l old.ends new = subst (λ e. GoneTo g true (next_body g (event_of event.ServerClosed) true (link_by e.link) (g.handlers (event_of event.ServerClosed)) (seen_host mid.host)) l e new) k.begins.ends gone in
        subst (λ p. GoneTo g true p l old.ends new) (closed_again g (link_by old.ends.link) (seen_host old.host))
        (subst (λ h. GoneTo g true (next_body g (event_of event.ServerClosed) true (link_by old.ends.link) (g.handlers (event_of event.ServerClosed)) h) l old.ends new) (begun_is event.ServerClosed old.ends.link old.host mid.host k.begins.host) on)

    -- the closing events come
    pub closes_gone : (old new : Conn) → ClosesAll s old new → From g l old → GoneTo g true (closed g (link_by old.ends.link) (seen_host old.host)) l old.ends new
    closes_gone old new k f = by_link old.ends.link refl k
      where
        by_link : (x : Link) → old.ends.link ≡ x → MatchBool (is_sought x) (ClosesServer s old new) (ClosesClient s old new) → GoneTo g true (closed g (link_by x) (seen_host old.host)) l old.ends new
        by_link link.Absent is c = subst (λ x. GoneTo g true (closed_client g (link_by x) (seen_host old.host)) l old.ends new) is (client_gone old new c f)
        by_link link.GivenUp is c = subst (λ x. GoneTo g true (closed_client g (link_by x) (seen_host old.host)) l old.ends new) is (client_gone old new c f)
        by_link (link.Leaving w) is c = subst (λ x. GoneTo g true (closed_client g (link_by x) (seen_host old.host)) l old.ends new) is (client_gone old new c f)
        by_link link.Asked is c = subst (λ x. GoneTo g true (closed_server g (link_by x) (seen_host old.host)) l old.ends new) is (server_gone old new c f)
        by_link link.Refused is c = subst (λ x. GoneTo g true (closed_server g (link_by x) (seen_host old.host)) l old.ends new) is (server_gone old new c f)
        by_link link.Made is c = subst (λ x. GoneTo g true (closed_server g (link_by x) (seen_host old.host)) l old.ends new) is (server_gone old new c f)
        by_link link.Up is c = subst (λ x. GoneTo g true (closed_server g (link_by x) (seen_host old.host)) l old.ends new) is (server_gone old new c f)

    -- the closing event of a server connection comes that is given up
    pub leaving_gone : (w : Behind) (old new : Conn) → LeavesServer s w old new → From g l old → GoneTo g false (giving_up g (behind_of w) (seen_host old.host)) l (record old.ends { link = link.Leaving w }) new
    leaving_gone w old new k f =
        let mid = k.mid in
        let f' : From g l mid = record { vars = f.vars ∙ sym k.vars; replies = f.replies; told = subst (λ e. Told g e.link mid.host) (sym k.ends) (begun_told g event.Leaving (link.Leaving w) old.host mid.host k.host (known g old.ends.link old.host f.told)) } in
        let gone = next_gone event.Leaving 0 false mid new k.goes f' (ap (λ h. event_of h.event) k.host) (ap (λ e. is_leaving e.link) k.ends) refl in
        let on = subst (λ e. GoneTo g false (next_body g ServerClosed false (link_by e.link) (g.handlers ServerClosed) (seen_host mid.host)) l e new) k.ends gone in
        subst (λ h. GoneTo g false (next_body g ServerClosed false (link_by (link.Leaving w)) (g.handlers ServerClosed) h) l (record old.ends { link = link.Leaving w }) new) (begun_is event.Leaving (link.Leaving w) old.host mid.host k.host) on

    -- an event is entered
    pub enters_gone : (at : At) (host : RuleHost) (ends : Ends) (old new : Conn) → Enters s at host ends old new → l.vars ≡ old.vars → l.answers.replies ≡ [] → Known g host → at_fits at ends.link ≡ true → is_closing at ≡ false → (at ≡ event.ServerClosed → ⊥)
        → GoneTo g false (enter g (event_of at) (link_by ends.link) (seen_host host)) l ends new
    enters_gone at host ends old new k vars replies known fit not_closing plain =
        let e = event_of at in
        let f : From g l new = record { vars = vars ∙ sym k.vars; replies = replies; told = subst (λ e. Told g e.link new.host) (sym k.ends) (begun_told g at ends.link host new.host k.host known) } in
        subst (λ h. GoneTo g false (entered g e (link_by ends.link) (g.handlers e) h) l ends new) (begun_is at ends.link host new.host k.host) (by_bodies f (g.handlers e) (places_at s at) refl refl (serves.count e))
      where
        here : (f : From g l new) (hs : List Handler) → Type 0
        here f hs = GoneTo g false (entered g (event_of at) (link_by ends.link) hs (seen_host new.host)) l ends new

        by_bodies : (f : From g l new) (hs : List Handler) (ps : List Body) → g.handlers (event_of at) ≡ hs → places_at s at ≡ ps → length hs ≡ length ps → here f hs
        by_bodies f [] [] e p n =
            let there : new.stage ≡ left_stage at new = k.there ∙ ap (entered_by at ends.link new.host) p ∙ ap (λ x. after_stage at x.link new.host) (sym k.ends) in
            subst (λ x. GoneTo g false (after_event g (event_of at) false (link_by x.link) (seen_host new.host)) l x new) k.ends
            (goes_gone at false new new plain (record { there = there; vars = refl; host = refl; ends = refl }) f (ap (λ x. at_fits at x.link) k.ends ∙ fit) (sym (still_open at not_closing)))
        by_bodies f [] (p ∷ ps) e q n = absurd (omega (arith, n))
        by_bodies f (h ∷ hs) [] e q n = absurd (omega (arith, n))
        by_bodies f (h ∷ hs) (p ∷ ps) e q n =
            let there : new.stage ≡ stage.Gated at = k.there ∙ ap (entered_by at ends.link new.host) q in
            let l' : TraceState = record l { phase = InEvent (event_of at) (Gated h hs); host = seen_host new.host } in
            let gate : GatedBefore (event_of at) (g.handlers (event_of at)) (InEvent (event_of at) (Gated h hs)) = subst (λ ms. GatedBefore (event_of at) ms (InEvent (event_of at) (Gated h hs))) (sym e) refl in
            record {
              stands = subst (λ st. Stands g st l' new) (sym there) (gate, record { vars = f.vars; host = refl; replies = f.replies });
              finished = ap has_finished (sym there);
              fits = ap (λ st. fits st new.ends.link) there ∙ ap (λ b. not b && at_fits at new.ends.link) not_closing ∙ ap (λ x. at_fits at x.link) k.ends ∙ fit;
              told = f.told;
              ends = k.ends;
              awake = ap is_asking there;
              event = subst (λ st. HostIn st new.host.event) (sym there) (ap (λ h. event_of h.event) k.host);
            }
