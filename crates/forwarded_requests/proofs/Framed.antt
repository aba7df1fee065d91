-- Each head that is about to be sent says how long its body is.
use Rattle.std.proofs.Common.{Bool, List, None, Option, Some, [], arith, false, not, refl, subst, true, ◌||◌, ◌∷◌, ◌≡◌}
use Rattle.std.specs.Prelude.{if◌then◌else◌}
use Rattle.px_bytes.specs.declared.addr.Side.TheVariants.{Client, Server}
use Rattle.event_order.specs.declared.event.EventName.TheVariants.{ClientAccepted}
use Rattle.http_heads.specs.Fronts.{head_part}
use Rattle.http_heads.specs.declared.request.RequestHead.{RequestHead}
use Rattle.http_frames.specs.Parts.{part_of}
use Rattle.irule_http.specs.State.{no_http}
use Rattle.irule_http.specs.declared.state.Http.{Http}
use Rattle.conn_trace.specs.Gates.{Counts, may_give}
use Rattle.conn_trace.specs.Host.{first_host, http_known, http_of, with_selected}
use Rattle.conn_trace.specs.Http.{the_heads}
use Rattle.conn_trace.specs.Item.{CutBy, Item}
use Rattle.conn_trace.specs.Phases.{Orderly, OrderlyIn}
use Rattle.conn_trace.specs.Places.{finish}
use Rattle.conn_trace.specs.Relay.{incoming, relay_act}
use Rattle.conn_trace.specs.Setup.{Setup}
use Rattle.conn_trace.specs.State.{Absent, Answering, Answers, AtHead, AtResponse, AtReuse, Choosing, Collecting, Connecting, Continuing, Cut, Does, Draining, Dropping, Finishing, Forwarding, Gathering, GivingUp, Heading, InEvent, Link, Next, Over, Phase, Relaying, Releasing, Retiring, Selecting, Stream, TraceState, Waits, link_of, stream_of}
use Rattle.conn_trace.specs.Trace.{Unfolds, counted, cut_next, cut_open, cut_takes, next_item, phase_next, start, uncut}
use Rattle.conn_trace.proofs.Stepping.{start_orderly, steps}
use Rattle.forwarded_requests.specs.Forwarded.{IsFramed, HeadsAreFramed}
use Rattle.forwarded_requests.proofs.ChoicesFramed.{answering_framed, choosing_framed, client_framed, collecting_framed, giving_up_framed, relay_framed, retiring_framed, reuse_framed, selecting_framed, server_framed}
use Rattle.forwarded_requests.proofs.HostFramed.{Awaits, Framed, HeadTells}
use Rattle.forwarded_requests.proofs.ItemsFramed.{FramedNext, FramedState, StaysFramed, answer_framed, bodies_framed, dropping_framed, finish_next, head_framed, heading_framed, sending_framed}
use Rattle.forwarded_requests.proofs.PhasesFramed.{InPhase}
use Rattle.forwarded_requests.proofs.PlacesFramed.{asked_at, enter_framed}
use Rattle.forwarded_requests.proofs.ReadHeads.{Tells}

module _ (g : Setup) (heads : g.heads ≡ the_heads) where
  pub phase_framed : (p : Phase) (l : TraceState) → StaysFramed l → OrderlyIn p l.finished (link_of l.server)
      → InPhase l.finished (link_of l.server) p (http_of l.host) → FramedNext (phase_next g p l)
  phase_framed (InEvent e bodies) l host was is = bodies_framed g heads e bodies l host is
  phase_framed AtHead l host was is = head_framed g heads l (head_part l.client.unread l.client.ended) host
  phase_framed Continuing l host was is =
      record { phase = asked_at l.finished (link_of l.server) (link_of l.server) l.host host is; host = host }
  phase_framed (Gathering Client wanted s) l host was is =
      client_framed g heads l wanted s (part_of s l.client.unread l.client.ended) refl host is
  phase_framed (Gathering Server wanted s) l host was is =
      server_framed g heads l wanted s (part_of s (stream_of Server l).unread (stream_of Server l).ended) host is
  phase_framed AtReuse l host was is = reuse_framed g l l.answers.choices host is
  phase_framed (GivingUp b) l host was is = giving_up_framed g l b was.1 host is
  phase_framed (Retiring b) l host was is = retiring_framed g l b host is
  phase_framed (Heading side) l host was is = heading_framed g heads l side host
  phase_framed (Forwarding side s standing) l host was is =
      sending_framed g heads l side s standing (part_of s (stream_of side l).unread (stream_of side l).ended) host
  phase_framed (Dropping s) l host was is = dropping_framed g heads l s (part_of s l.client.unread l.client.ended) host
  phase_framed AtResponse l host was is =
      answer_framed g heads l (head_part (stream_of Server l).unread (stream_of Server l).ended) host
  phase_framed Choosing l host was is = choosing_framed g heads l (with_selected None l.host) l.host.net.target host is
  phase_framed (Selecting call) l host was is = selecting_framed g heads call l l.answers.replies host is
  phase_framed (Connecting a) l host was is = record { phase = is; host = host }
  phase_framed (Answering a) l host was is = answering_framed g heads l l.answers.connects host is
  phase_framed Releasing l host was is = record { phase = is; host = host }
  phase_framed Relaying l host was is = relay_framed g heads l (relay_act (incoming Client l) (incoming Server l) l.answers.choices) host is
  phase_framed Collecting l host was is = collecting_framed g heads l l.host.net.client.asks host is
  phase_framed (Finishing r) l host was is = finish_next g heads r l host
  phase_framed Draining l host was is = tt

  -- ---- with a cut

  cut_framed : (l : TraceState) (cut : Option Cut) (o : Next) → StaysFramed l → FramedNext o → FramedNext (cut_next g cut l o)
  cut_framed l None o host is = is
  cut_framed l (Some c) o host is = by_end l.finished
    where
      ends : FramedNext (finish g (CutBy c.reason) (uncut l))
      ends = finish_next g heads (CutBy c.reason) (uncut l) host

      by_test : (b : Bool) (x y : Next) → FramedNext x → FramedNext y → FramedNext (if b then x else y)
      by_test true x y p q = p
      by_test false x y p q = q

      by_place : (o : Next) → FramedNext o → FramedNext (cut_open g c l o)
      by_place (Does i m) is = by_test (may_give i l.sent c.took || not (cut_takes g.http c.reason None)) (Does i m) _ is ends
      by_place (Waits w) is = by_test (cut_takes g.http c.reason (Some w)) _ (Waits w) ends is
      by_place Over is = tt

      by_end : (b : Bool) → FramedNext (if b then o else cut_open g c l o)
      by_end true = is
      by_end false = by_place o is

  counted_framed : (sent : Counts) (o : Next) → FramedNext o → FramedNext (counted sent o)
  counted_framed sent (Does i m) is = record { phase = is.phase; host = is.host }
  counted_framed sent (Waits w) is = tt
  counted_framed sent Over is = tt

  item_framed : (l m : TraceState) (i : Item) → FramedState l → Orderly l → next_item g l ≡ Does i m → FramedState m
  unfolding next_item
  item_framed l m i k was is =
      subst FramedNext is
      (counted_framed l.sent _ (cut_framed l l.answers.cut (phase_next g l.phase l) k.host (phase_framed l.phase l k.host was k.phase)))

  items_framed : (l m : TraceState) (items : List Item) → FramedState l → Orderly l → Unfolds g l items m → FramedState m
  items_framed l m [] k was is = subst FramedState is k
  items_framed l m (i ∷ items) k was (mid, step, rest) =
      items_framed mid m items (item_framed l mid i k was step) (steps g l mid i was step).orderly rest

  -- ---- from the start

  none_framed : Framed no_http
  none_framed = record { head = tt; payload = omega arith; stands = (refl, refl) }

  first_framed : (b : Bool) → Framed (http_known (if b then Some no_http else None))
  first_framed true = none_framed
  first_framed false = none_framed

  first_awaits : (b : Bool) → Awaits (http_known (if b then Some no_http else None))
  first_awaits true = refl
  first_awaits false = refl

  start_framed : (client : Stream) (answers : Answers) → FramedState (start g client answers)
  start_framed client answers =
      let p = enter_framed false Absent g ClientAccepted Absent (first_host g) (λ e. first_framed g.http) (first_awaits g.http) in
      record { phase = p.phase; host = p.host }

-- where a head is about to be sent
framed_head : (h : Http) (head : RequestHead) → h.request ≡ Some head → Framed h → IsFramed h head
framed_head h head there f =
    let t : Tells h.body head = subst (HeadTells h.body) there f.head in
    record { is = t.is; codings = t.codings; sizes = t.sizes; framed = t.framed; payload = f.payload; stands = f.stands }

heading_awaits : (finished : Bool) (link : Link) (p : Phase) (h : Http) → p ≡ Heading Client → InPhase finished link p h → Awaits h
heading_awaits finished link p h heading is = subst (λ q. InPhase finished link q h) heading is

pub heads_framed : HeadsAreFramed
heads_framed g client answers before l head heads is heading there =
    let from = start g client answers in
    let k = items_framed g heads from l before (start_framed g heads client answers) (start_orderly g client answers) is in
    framed_head (http_of l.host) head there
    (k.host (heading_awaits l.finished (link_of l.server) l.phase (http_of l.host) heading k.phase))
