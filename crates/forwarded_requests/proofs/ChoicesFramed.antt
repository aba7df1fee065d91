-- The same where bytes of a body are gathered, a server is chosen or given up, and bytes are passed on.
use Rattle.std.proofs.Common.{Bool, List, None, Option, Some, [], ap, false, refl, subst, suc, sym, take, true, true≢false, zero, ℕ, ◌∙◌, ◌∷◌, ◌≡◌}
use Rattle.std.specs.Prelude.{is_some}
use Rattle.px_bytes.specs.declared.addr.Addr.{Addr}
use Rattle.px_bytes.specs.declared.addr.Side.{Side}
use Rattle.px_bytes.specs.declared.addr.Side.TheVariants.{Client, Server}
use Rattle.px_bytes.specs.declared.fault.Reply.{Reply}
use Rattle.event_order.specs.declared.event.EventName.TheVariants.{LbFailed, LbSelected, ServerClosed, ServerConnected}
use Rattle.irule_net.specs.Steps.{target_pool}
use Rattle.irule_net.specs.declared.state.Asks.{Asks}
use Rattle.irule_net.specs.declared.state.Asks.TheVariants.{NotAsked, Stated}
use Rattle.irule_net.specs.declared.state.Target.{Target}
use Rattle.irule_net.specs.declared.state.Target.TheVariants.{Default, MemberOf, NodeAt, PoolOf}
use Rattle.http_frames.specs.Parts.{Bad, Byte, Chunk, End, Part, Pending, part_of}
use Rattle.http_frames.specs.declared.state.BodyState.{BodyState}
use Rattle.irule_http.specs.declared.state.Http.{Http}
use Rattle.conn_trace.specs.Fronts.{after_byte, is_at_end, one_less}
use Rattle.conn_trace.specs.Host.{HostState, http_of, with_selected}
use Rattle.conn_trace.specs.Http.{the_heads, with_gathered, with_whole}
use Rattle.conn_trace.specs.Item.{Choice, Closed, Fires, PassesOn, Reuses}
use Rattle.conn_trace.specs.Messages.{gathered_on, gathered_place, gathering_next, giving_up_next, http_at, retiring_next, reuse_next}
use Rattle.conn_trace.specs.Places.{at, begun, bodies_left, data_event, gather_event, is_up, place}
use Rattle.conn_trace.specs.Relay.{BothDone, Firing, Passing, RelayAct, Resting, behind_fires, collect_act, fired_host}
use Rattle.conn_trace.specs.Selected.{addr_of}
use Rattle.conn_trace.specs.Setup.{Handler, Setup}
use Rattle.conn_trace.specs.State.{Absent, BeforeSelect, BehindMessage, GivingUp, Left, Retiring, Stream, TraceState, Up, leaving, link_of, read_server, retired, stream_of, with_replies, Behind}
use Rattle.conn_trace.specs.Trace.{answering_next, choosing_next, collect_next, collecting_next, default_next, fired_next, relay_next, selected_next, selecting_next, serving}
use Rattle.forwarded_requests.proofs.GatherFramed.{Gathers, byte_framed, byte_gathers, end_framed, line_gathers}
use Rattle.forwarded_requests.proofs.HostFramed.{Awaits, Framed, UnlessAnswered, begun_kept, framed_kept, serving_kept}
use Rattle.forwarded_requests.proofs.ItemsFramed.{FramedNext, FramedState, StaysFramed, Waiting, enters_next, finish_next, left_up, reads_framed, refused_next}
use Rattle.forwarded_requests.proofs.PhasesFramed.{Answered, Enters, FramedPlace, InPhase, MayClose, awaits_may_close}
use Rattle.forwarded_requests.proofs.PlacesFramed.{enter_framed, next_request_at}
use Rattle.px_bytes.specs.declared.fault.Reply.TheVariants as reply

-- ---- a server connection is used again, or given up

-- behind a message it may close
message_closes : (finished : Bool) (h : Http) → MayClose finished (Left BehindMessage) h
message_closes true h = tt
message_closes false h = tt

module _ (g : Setup) where
  pub reuse_framed : (l : TraceState) (choices : List Choice) → StaysFramed l → Waiting l → FramedNext (reuse_next g l choices)
  reuse_framed l [] host is = tt
  reuse_framed l (Reuses true ∷ more) host is = record { phase = is; host = host }
  reuse_framed l (Reuses false ∷ more) host is = record { phase = is; host = host }
  reuse_framed l (PassesOn side n ∷ more) host is = tt
  reuse_framed l (Fires side ∷ more) host is = tt

  closing_framed : (l : TraceState) (b : Behind) → StaysFramed l
      → MayClose l.finished (link_of (leaving b l.server)) (http_of (begun ServerClosed (Left b) l.host))
      → InPhase l.finished (link_of (leaving b l.server)) (Retiring b) (http_of (begun ServerClosed (Left b) l.host))
      → FramedNext (giving_up_next g l b)
  closing_framed l b host closes retires = by_bodies (g.handlers ServerClosed)
    where
      h : HostState
      h = begun ServerClosed (Left b) l.host

      begins : UnlessAnswered (http_of h)
      begins = framed_kept (http_of l.host) (http_of h) (begun_kept ServerClosed (Left b) l.host) host

      by_bodies : (bs : List Handler)
          → FramedState (at (bodies_left ServerClosed bs h (place (Retiring b) h)) (record l { server = leaving b l.server }))
      by_bodies [] = record { phase = retires; host = begins }
      by_bodies (body ∷ bs) = record { phase = closes; host = begins }

  pub giving_up_framed : (l : TraceState) (b : Behind) → is_up (link_of l.server) ≡ true → StaysFramed l
      → InPhase l.finished (link_of l.server) (GivingUp b) (http_of l.host) → FramedNext (giving_up_next g l b)
  giving_up_framed l BehindMessage up host is =
      let t = http_of (begun ServerClosed (Left BehindMessage) l.host) in
      closing_framed l BehindMessage host
      (subst (λ k. MayClose l.finished k t) (sym (left_up BehindMessage l.server up)) (message_closes l.finished t)) tt
  giving_up_framed l BeforeSelect up host is =
      let k = begun_kept ServerClosed (Left BeforeSelect) l.host in
      let t = http_of (begun ServerClosed (Left BeforeSelect) l.host) in
      closing_framed l BeforeSelect host (awaits_may_close l.finished (link_of (leaving BeforeSelect l.server)) t (k.answered_by ∙ is))
      (k.answered_by ∙ is)

  pub retiring_framed : (l : TraceState) (b : Behind) → StaysFramed l → InPhase l.finished (link_of l.server) (Retiring b) (http_of l.host)
      → FramedNext (retiring_next l b)
  retiring_framed l BeforeSelect host is = record { phase = is; host = host }
  retiring_framed l BehindMessage host is =
      record { phase = next_request_at l.finished (link_of (retired l.server)) l.host l.host; host = host }

  -- ---- a server is selected

  module _ (heads : g.heads ≡ the_heads) where
    pub choosing_framed : (l : TraceState) (h : HostState) (target : Target) → UnlessAnswered (http_of h) → Awaits (http_of h)
        → FramedNext (choosing_next g l h target)
    choosing_framed l h Default host is = by_pool h.net.pool
      where
        by_pool : (pool : List ℕ) → FramedNext (default_next g l h pool)
        by_pool [] = enters_next g heads LbFailed h l host is
        by_pool (b ∷ bs) = record { phase = is; host = host }
    choosing_framed l h (PoolOf pool) host is = record { phase = is; host = host }
    choosing_framed l h (MemberOf pool a) host is = record { phase = is; host = host }
    choosing_framed l h (NodeAt a) host is =
        enters_next g heads LbSelected (with_selected (Some (record { pool = []; addr = a })) h) l host is

    selected_framed : (l : TraceState) (more : List Reply) (a : Option Addr) → StaysFramed l → Waiting l
        → FramedNext (selected_next g l more a)
    selected_framed l more None host is = enters_next g heads LbFailed l.host (with_replies more l) host is
    selected_framed l more (Some a) host is =
        enters_next g heads LbSelected
        (with_selected (Some (record { pool = target_pool l.host.net.pool l.host.net.target; addr = a })) l.host) (with_replies more l)
        host is

    pub selecting_framed : (call : List (List ℕ)) (l : TraceState) (replies : List Reply) → StaysFramed l → Waiting l
        → FramedNext (selecting_next g call l replies)
    selecting_framed call l [] host is = tt
    selecting_framed call l (reply.Ok v ∷ more) host is = selected_framed l more (addr_of v) host is
    selecting_framed call l (reply.Fault f ∷ more) host is = selected_framed l more None host is

    pub answering_framed : (l : TraceState) (connects : List (Option Stream)) → StaysFramed l → Waiting l
        → FramedNext (answering_next g l connects)
    answering_framed l [] host is = tt
    answering_framed l (Some s ∷ more) host is =
        let k = serving_kept l.host in
        let p = enter_framed l.finished Up g ServerConnected Up (serving l.host)
        (framed_kept (http_of l.host) (http_of (serving l.host)) k host) (k.answered_by ∙ is) in
        record { phase = p.phase; host = p.host }
    answering_framed l (None ∷ more) host is =
        let p = enter_framed l.finished Absent g LbFailed Absent l.host host is in record { phase = p.phase; host = p.host }

    -- ---- bytes are collected, or passed on

    fired_framed : (l : TraceState) (side : Side) (n : ℕ) (more : List Choice) → StaysFramed l → Waiting l
        → FramedNext (fired_next g l side n more)
    fired_framed l Client n more host is =
        let p = enter_framed l.finished (link_of l.server) g (data_event Client) (link_of l.server)
        (fired_host Client (take n l.client.unread) l.host) host is in
        record { phase = p.phase; host = p.host }
    fired_framed l Server n more host is =
        let link = link_of (read_server n l.server) in
        let p = enter_framed l.finished link g (data_event Server) (link_of l.server)
        (fired_host Server (take n (stream_of Server l).unread) l.host) host is in
        record { phase = p.phase; host = p.host }

    pub relay_framed : (l : TraceState) (a : RelayAct) → StaysFramed l → Waiting l → FramedNext (relay_next g l a)
    relay_framed l BothDone host is = finish_next g heads Closed l host
    relay_framed l (Passing Client n more) host is = record { phase = is; host = host }
    relay_framed l (Passing Server n more) host is = record { phase = is; host = host }
    relay_framed l (Firing side n more) host is = fired_framed l side n more host is
    relay_framed l Resting host is = tt

    collect_framed : (l : TraceState) (a : RelayAct) → StaysFramed l → Waiting l → FramedNext (collect_next g l a)
    collect_framed l BothDone host is = finish_next g heads Closed l host
    collect_framed l (Passing side n more) host is = tt
    collect_framed l (Firing side n more) host is = fired_framed l side n more host is
    collect_framed l Resting host is = tt

    pub collecting_framed : (l : TraceState) (asks : Asks) → StaysFramed l → Waiting l → FramedNext (collecting_next g l asks)
    collecting_framed l NotAsked host is = tt
    collecting_framed l (Stated n) host is = collect_framed l (collect_act n l.client.unread (behind_fires l.answers.choices)) host is

    -- ---- bytes of a body are gathered

    gathered_framed : (l : TraceState) (side : Side) (h : HostState) → UnlessAnswered (http_of h) → Enters (gather_event side) (http_of h)
        → FramedPlace l.finished (link_of l.server) (gathered_place g side (link_of l.server) h)
    gathered_framed l side h host is = enter_framed l.finished (link_of l.server) g (gather_event side) (link_of l.server) h host is

    -- of the request
    client_on : (l : TraceState) (wanted : ℕ) (s : BodyState) (whole : Bool) (h : HostState) → Framed (http_of h) → Awaits (http_of h)
        → ((n : ℕ) → wanted ≡ suc n → Gathers (suc n) s (http_of h))
        → FramedPlace l.finished (link_of l.server) (gathered_on g Client (link_of l.server) wanted s whole h)
    client_on l wanted s true h f is more = gathered_framed l Client h (λ e. f) is
    client_on l zero s false h f is more = gathered_framed l Client h (λ e. f) is
    client_on l (suc n) s false h f is more = record { phase = more n refl; host = λ e. f }

    pub client_framed : (l : TraceState) (wanted : ℕ) (s : BodyState) (p : Part) → part_of s l.client.unread l.client.ended ≡ p
        → StaysFramed l
        → Gathers wanted s (http_of l.host) → FramedNext (gathering_next g l Client wanted s p)
    client_framed l wanted s Byte part host k =
        let h = http_of l.host in
        let t = with_gathered (take 1 l.client.unread) (after_byte s) h in
        reads_framed g heads l Client 1 _
        (client_on l (one_less wanted) (after_byte s) (is_at_end (after_byte s)) (http_at t l.host)
        (byte_framed l.client.unread l.client.ended s h part wanted (host k.awaits) k) k.awaits
        (λ n less. byte_gathers l.client.unread l.client.ended s h part wanted n less k))
    client_framed l wanted s (Chunk n size) part host k =
        let phase = line_gathers l.client.unread l.client.ended n wanted s (http_of l.host) size part (host k.awaits) k in
        reads_framed g heads l Client n _ (record { phase = phase; host = host })
    client_framed l wanted s (End n) part host k =
        let f = end_framed l.client.unread l.client.ended n wanted s (http_of l.host) part (host k.awaits) k in
        reads_framed g heads l Client n _ (gathered_framed l Client (http_at (with_whole (http_of l.host)) l.host) (λ e. f) k.awaits)
    client_framed l wanted s Pending part host k = tt
    client_framed l wanted s (Bad f) part host k = refused_next g heads l Client f host

    -- of the response
    vacuous : (h : Http) → Answered h → UnlessAnswered h
    vacuous h is awaits = absurd (true≢false (sym is ∙ ap is_some awaits))

    server_on : (l : TraceState) (wanted : ℕ) (s : BodyState) (whole : Bool) (h : HostState) → Answered (http_of h)
        → FramedPlace l.finished (link_of l.server) (gathered_on g Server (link_of l.server) wanted s whole h)
    server_on l wanted s true h is = gathered_framed l Server h (vacuous (http_of h) is) is
    server_on l zero s false h is = gathered_framed l Server h (vacuous (http_of h) is) is
    server_on l (suc n) s false h is = record { phase = is; host = vacuous (http_of h) is }

    pub server_framed : (l : TraceState) (wanted : ℕ) (s : BodyState) (p : Part) → StaysFramed l → Answered (http_of l.host)
        → FramedNext (gathering_next g l Server wanted s p)
    server_framed l wanted s Byte host is =
        reads_framed g heads l Server 1 _
        (server_on l (one_less wanted) (after_byte s) (is_at_end (after_byte s))
        (http_at (with_gathered (take 1 (stream_of Server l).unread) (after_byte s) (http_of l.host)) l.host) is)
    server_framed l wanted s (Chunk n size) host is = reads_framed g heads l Server n _ (record { phase = is; host = host })
    server_framed l wanted s (End n) host is =
        let h = http_at (with_whole (http_of l.host)) l.host in
        reads_framed g heads l Server n _ (gathered_framed l Server h (vacuous (http_of h) is) is)
    server_framed l wanted s Pending host is = tt
    server_framed l wanted s (Bad f) host is = refused_next g heads l Server f host
