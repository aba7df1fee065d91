-- What stands in front where no more of a body is gathered, and the whole action.
use Rattle.std.proofs.Common.{◌≡◌, refl, sym, ap, subst, ◌∙◌, ℕ, ◌+◌, ◌-◌, List, [], ◌∷◌, ◌++◌, append-nil, take, Bool, true, false, Option, None, Some, inl, inr}
use Rattle.std.specs.Option.{is_some}
use Rattle.px_bytes.specs.declared.addr.Side.{Side}
use Rattle.px_bytes.specs.declared.addr.Side.TheVariants.{Client, Server}
use Rattle.px_bytes.specs.declared.fault.HttpFault.{HttpFault}
use Rattle.core_events.specs.Edges.{edges_noted}
use Rattle.core_events.specs.declared.note.Note.{Note}
use Rattle.core_events.specs.declared.note.Note.TheVariants as note
use Rattle.http_frames.specs.Parts.{Part, Byte, Chunk, End, Pending, Bad}
use Rattle.http_frames.specs.declared.state.BodyState.{BodyState}
use Rattle.irule_http.specs.declared.state.Http.{Http}
use Rattle.conn_trace.specs.Fronts.{after_byte, is_at_end}
use Rattle.conn_trace.specs.Host.{http_known, http_of}
use Rattle.conn_trace.specs.Http.{with_gathered, with_whole}
use Rattle.conn_trace.specs.Item.{Read}
use Rattle.conn_trace.specs.Messages.{fault_next, gathered_place, gathering_next, http_at, reads_next}
use Rattle.conn_trace.specs.Places.{Place, at as put, enter}
use Rattle.conn_trace.specs.SentBodies.{is_answered}
use Rattle.conn_trace.specs.Setup.{Setup}
use Rattle.conn_trace.specs.State.{Gathering, Next, Stream, TraceState, Does, link_of, read_side, stream_of}
use Rattle.conn_trace.specs.Trace.{counted, next_item}
use Rattle.conn.specs.Acts.{RefusesBy, cut_by, is_server}
use Rattle.conn.specs.Ends.{end_of, link_by}
use Rattle.conn.specs.Events.{event_of, gathered_at}
use Rattle.conn.specs.Gathering.{EntersGathered, Gathered, Gathers, GathersBody, GathersBy, GathersUnit, Line, NoneYet, Piece, Then, gathered, gathered_to, http_of_host, is_last, part_there}
use Rattle.conn.specs.Holds.{Around, Between, Holds}
use Rattle.conn.specs.Hosts.{seen_host}
use Rattle.conn.specs.Messages.{RefusesOf}
use Rattle.conn.specs.Relaying.{read_ends}
use Rattle.conn.specs.Servers.{queue_at_server}
use Rattle.conn.specs.Setups.{Serves}
use Rattle.conn.specs.Stages.{cause_for, fits, http_in}
use Rattle.conn.specs.declared.connection.Conn.{Conn}
use Rattle.conn.specs.declared.gather.Portion.{Portion}
use Rattle.conn.specs.declared.setup.Setup as code_setup
use Rattle.conn.specs.declared.stage.Finish.TheVariants as finish
use Rattle.conn.specs.declared.stage.Stage.TheVariants as stage
use Rattle.conn.specs.declared.turn.Act as step_act
use Rattle.conn.specs.declared.turn.Act.TheVariants as done
use Rattle.conn.proofs.Acting.{ActGave, finishes_gave, gone_holds, rest_group, rest_noted, waits_gave}
use Rattle.conn.proofs.Giving.{Gave, gave_more, gave_one, quiet_queue}
use Rattle.conn.proofs.Moving.{keeps_answers, keeps_finished, keeps_vars, read_link}
use Rattle.conn.proofs.Places.{Known, enters_gone, link_is}
use Rattle.conn.proofs.Refusing.{refused_by, refuses}
use Rattle.conn.proofs.RequestActs.{GoesOrRests, refuses_or}
use Rattle.conn.proofs.Sending.{message_group}
use Rattle.conn.proofs.Telling.{Tells, refused_tells, rest_tells}
use Rattle.conn.proofs.GatherReads.{client_stays, servers_stay, edges_stay, fits_behind, ends_read, stream_there, event_is, never_closes, never_closed, on_last}
use Rattle.conn.proofs.Gathering.{gathers, step}

-- ---- what stands in front

-- the notes there
abbrev pub gathered_group : Part → Side → ℕ → Conn → List Note
gathered_group Byte side c mid = []
gathered_group (Chunk line size) side c mid = []
gathered_group (End n) side c mid = []
gathered_group Pending side c mid = rest_group c (cut_by (is_server side) mid)
gathered_group (Bad f) side c mid = message_group side f c

front_noted : (s : code_setup.Setup) (c : ℕ) (mid new : Conn) (before after : List Note) (did : step_act.Act) (side : Side) (p : Portion) (x : Part) → GathersBy x side p s c mid new before after did → after ≡ before ++ gathered_group x side c mid
front_noted s c mid new before after did side p Byte k = k.3 ∙ sym (append-nil before)
front_noted s c mid new before after did side p (Chunk line size) k = absurd k
front_noted s c mid new before after did side p (End n) k = k.2 ∙ sym (append-nil before)
front_noted s c mid new before after did side p Pending k = rest_noted s c mid new before after did (cut_by (is_server side) mid) k
front_noted s c mid new before after did side p (Bad f) k = by_answer (is_answered side f) k
  where
    by_answer : (x : Bool) → RefusesBy x f s c mid new before after did → after ≡ before ++ refused_by x f c
    by_answer true k = k.2 ∙ sym (append-nil before)
    by_answer false k = k.1.1

module _ (s : code_setup.Setup) (g : Setup) (serves : Serves s g) (a : Around) (l : TraceState) (c : ℕ) (base new : Conn) (side : Side) (p : Gathered) (h : Holds g a l (gathered_to side p base)) where
  abbrev mid : Conn
  mid = gathered_to side p base

  between : Between l mid
  between = h.stage.1

  at_part : (x : Part) → part_there side p ≡ x → next_item g l ≡ counted l.sent (gathering_next g l side p.at.wanted p.at.reader x)
  at_part x is = step s g serves a c base side l p h ∙ ap (λ y. counted l.sent (gathering_next g l side p.at.wanted p.at.reader y)) is

  -- the event of what was gathered, behind the last bytes that are read
  enters : (n : ℕ) (http : Http) → next_item g l ≡ counted l.sent (reads_next l side n (gathered_place g side (link_of l.server) (seen_host (http_of_host http base.host)))) → EntersGathered side n http s mid new → ActGave g a l c mid new [] done.Goes
  enters n http item k =
      let host = http_of_host http base.host in
      let ends = read_ends side n p.ends in
      let at : TraceState = record (read_side side n l) { sent = l.sent } in
      let to : Place → Next = λ x. counted l.sent (reads_next l side n x) in
      let place = enter g (event_of (gathered_at side)) (link_by ends.link) (seen_host host) in
      let known : Known g host = record { from = h.told.from; spoken = h.told.spoken } in
      let gone = enters_gone g at s serves (gathered_at side) host ends mid new k (keeps_vars side n l ∙ between.vars) (ap (λ x. x.replies) (keeps_answers side n l) ∙ between.replies) known (fits_behind side n p.ends h.fits) (never_closes side) (never_closed side) in
      let linked : link_of l.server ≡ link_by ends.link = link_is a l p.ends h.ends ∙ ap link_by (sym (read_link side n p.ends)) in
      let here : next_item g l ≡ Does (Read side n) (put place at) =
      item ∙ ap (λ m. to (gathered_place g side m (seen_host host))) linked ∙ ap (λ e. to (enter g e (link_by ends.link) (seen_host host))) (event_is side) in
      record {
        at = put place at;
        gave = gave_one g a l (put place at) c mid new (Read side n) h.no_cut (record { calls = refl; client = refl; to_none = refl; opens = λ c s t. refl; takes = (refl, λ t. refl) }) here refl
            (gone_holds g a false place at ends new gone (keeps_finished side n l ∙ h.finished) (ends_read side a l (put place at) n p.ends h.ends h.fits refl refl (ap (λ x. x.connects) (keeps_answers side n l)) refl) (ap (λ x. x.choices) (keeps_answers side n l) ∙ h.no_choice) (ap (λ x. x.cut) (keeps_answers side n l) ∙ h.no_cut))
            (ap (λ x. x.client.queued) gone.ends ∙ client_stays side n p.ends) (ap queue_at_server gone.ends ∙ servers_stay side n p.ends ∙ sym (quiet_queue (queue_at_server p.ends))) (ap (λ x. x.edges) gone.ends ∙ edges_stay side n p.ends) (λ f. keeps_finished side n l ∙ f);
        stops = gone.awake;
      }

  -- the last byte
  by_byte : is_last p.at ≡ true → next_item g l ≡ counted l.sent (gathering_next g l side p.at.wanted p.at.reader Byte) → EntersGathered side 1 (with_gathered (take 1 (end_of side p.ends).unread) (after_byte p.at.reader) p.http) s mid new → ActGave g a l c mid new [] done.Goes
  by_byte last item k =
      let r = after_byte p.at.reader in
      let u = (end_of side p.ends).unread in
      let to : Place → Next = λ x. counted l.sent (reads_next l side 1 x) in
      let m = link_of l.server in
      enters 1 (with_gathered (take 1 u) r p.http)
      (item
      ∙ ap to (on_last g side m p.at.wanted r (http_at (with_gathered (take 1 (stream_of side l).unread) r (http_of l.host)) l.host) (is_at_end r) last)
      ∙ ap (λ (t : Stream). to (gathered_place g side m (http_at (with_gathered (take 1 t.unread) r (http_of l.host)) l.host))) (stream_there side a l p.ends h.ends h.fits)
      ∙ ap (λ hs. to (gathered_place g side m (http_at (with_gathered (take 1 u) r (http_of hs)) hs))) between.host) k

  by_fault : (f : HttpFault) (before after : List Note) (did : step_act.Act) → next_item g l ≡ counted l.sent (fault_next g l side f) → RefusesOf side f s c mid new before after did → ActGave g a l c mid new (message_group side f c) did
  by_fault f before after did item k = by_side side item k
    where
      by_side : (x : Side) → next_item g l ≡ counted l.sent (fault_next g l x f) → RefusesOf x f s c mid new before after did → ActGave g a l c mid new (message_group x f c) did
      by_side Client item k = refuses s g serves a l c mid new h between refl h.finished f item before after did k
      by_side Server item (goes, k) = subst (λ d. ActGave g a l c mid new (note.Finish c (cause_for (finish.Http f)) ∷ []) d) (sym goes) (finishes_gave s g serves a l c mid new h between (finish.Http f) tt k.0 item)

  pub fronts : (before after : List Note) (did : step_act.Act) → GathersBy (part_there side p) side p.at s c mid new before after did → ActGave g a l c mid new (gathered_group (part_there side p) side c mid) did
  fronts before after did k = by_part (part_there side p) refl k
    where
      by_part : (x : Part) → part_there side p ≡ x → GathersBy x side p.at s c mid new before after did → ActGave g a l c mid new (gathered_group x side c mid) did
      by_part Byte is (goes, last, k, none) = subst (λ d. ActGave g a l c mid new [] d) (sym goes) (by_byte last (at_part Byte is) k)
      by_part (Chunk line size) is k = absurd k
      by_part (End n) is (goes, k, none) =
          let to : Place → Next = λ x. counted l.sent (reads_next l side n x) in
          subst (λ d. ActGave g a l c mid new [] d) (sym goes)
          (enters n (with_whole p.http) (at_part (End n) is ∙ ap (λ hs. to (gathered_place g side (link_of l.server) (http_at (with_whole (http_of hs)) hs))) between.host) k)
      by_part Pending is k = waits_gave s g serves a l c mid new h between side before after did refl (at_part Pending is) k
      by_part (Bad f) is k = by_fault f before after did (at_part (Bad f) is) k

-- ---- from where the connection stands

pub gathers_noted : (s : code_setup.Setup) (c : ℕ) (side : Side) (wanted : ℕ) (reader : BodyState) (old new : Conn) (before after : List Note) (did : step_act.Act) (k : GathersBody side wanted reader s c old new before after did) → after ≡ before ++ gathered_group (part_there side k.to) side c (gathered_to side k.to old)
gathers_noted s c side wanted reader old new before after did k = front_noted s c (gathered_to side k.to old) new before after did side k.to.at (part_there side k.to) k.goes

module _ (s : code_setup.Setup) (g : Setup) (serves : Serves s g) (a : Around) (l : TraceState) (c : ℕ) (old new : Conn) (h : Holds g a l old) (spoken : is_some old.host.http ≡ true) where
  pub gathers_body : (side : Side) (wanted : ℕ) (reader : BodyState) → old.stage ≡ stage.Gathering side wanted reader → (before after : List Note) (did : step_act.Act) (k : GathersBody side wanted reader s c old new before after did)
      → ActGave g a l c old new (gathered_group (part_there side k.to) side c (gathered_to side k.to old)) did
  gathers_body side wanted reader is before after did k =
      let from = gathered (record { wanted = wanted; reader = reader }) (http_in old.host) old.ends in
      let same : gathered_to side from old ≡ old = by_http old.host.http refl spoken in
      let w = gathers s g serves a c old side l from k.to (subst (Holds g a l) (sym same) h) k.passes in
      let mid = gathered_to side k.to old in
      let group = gathered_group (part_there side k.to) side c mid in
      let second = fronts s g serves a w.0 c old new side k.to w.1.holds before after did k.goes in
      let first : Gave g a l w.0 c old mid [] [] = subst (λ x. Gave g a l w.0 c x mid [] []) same w.1 in
      record { at = second.at; gave = gave_more g a l w.0 second.at c old mid new [] group h.no_cut first second.gave; stops = second.stops }
    where
      by_http : (o : Option Http) → old.host.http ≡ o → is_some o ≡ true → record old { stage = stage.Gathering side wanted reader; host = http_of_host (http_in old.host) old.host } ≡ old
      by_http None e some = absurd (cc some)
      by_http (Some x) e some =
          ap (λ t. record old { stage = t; host = http_of_host (http_in old.host) old.host }) (sym is)
          ∙ ap (λ o. record old { host = record old.host { http = Some (http_known o) } }) e
          ∙ ap (λ o. record old { host = record old.host { http = o } }) (sym e)

-- ---- what is told, and whether it rests

pub gathers_edges : (side : Side) (from to : Gathered) → Gathers side from to → to.ends.edges ≡ from.ends.edges
gathers_edges side from _ NoneYet = refl
gathers_edges side from _ (Then p q before u) = unit_edges p q u ∙ gathers_edges side from p before
  where
    unit_edges : (p q : Gathered) → GathersUnit side p q → q.ends.edges ≡ p.ends.edges
    unit_edges p _ (Piece n k) = edges_stay side n p.ends
    unit_edges p _ (Line line size k) = edges_stay side line p.ends

gathered_tells : (s : code_setup.Setup) (c : ℕ) (base new : Conn) (before after : List Note) (did : step_act.Act) (side : Side) (p : Portion) (x : Part) → GathersBy x side p s c base new before after did → Tells (gathered_group x side c base) base new
gathered_tells s c base new before after did side p Byte k = ap (λ e. e.edges) k.2.ends ∙ edges_stay side 1 base.ends
gathered_tells s c base new before after did side p (Chunk line size) k = absurd k
gathered_tells s c base new before after did side p (End n) k = ap (λ e. e.edges) k.1.ends ∙ edges_stay side n base.ends
gathered_tells s c base new before after did side p Pending k = rest_tells s c base new before after did (cut_by (is_server side) base) k
gathered_tells s c base new before after did side p (Bad f) k = refused_tells s c (is_answered side f) f base new before after did k

pub gathers_tells : (s : code_setup.Setup) (c : ℕ) (side : Side) (wanted : ℕ) (reader : BodyState) (old new : Conn) (before after : List Note) (did : step_act.Act) (k : GathersBody side wanted reader s c old new before after did) → Tells (gathered_group (part_there side k.to) side c (gathered_to side k.to old)) old new
gathers_tells s c side wanted reader old new before after did k =
    let mid = gathered_to side k.to old in
    gathered_tells s c mid new before after did side k.to.at (part_there side k.to) k.goes ∙ ap (edges_noted (gathered_group (part_there side k.to) side c mid)) (gathers_edges side _ k.to k.passes)

part_or : (s : code_setup.Setup) (c : ℕ) (base new : Conn) (before after : List Note) (did : step_act.Act) (side : Side) (p : Portion) (x : Part) → GathersBy x side p s c base new before after did → GoesOrRests s c base new before after did
part_or s c base new before after did side p Byte k = inl k.0
part_or s c base new before after did side p (Chunk line size) k = absurd k
part_or s c base new before after did side p (End n) k = inl k.0
part_or s c base new before after did side p Pending k = inr (is_server side, k)
part_or s c base new before after did side p (Bad f) k = refuses_or s c base new before after did (is_answered side f) f k

pub gathers_or : (s : code_setup.Setup) (c : ℕ) (side : Side) (wanted : ℕ) (reader : BodyState) (old new : Conn) (before after : List Note) (did : step_act.Act) (k : GathersBody side wanted reader s c old new before after did) → GoesOrRests s c (gathered_to side k.to old) new before after did
gathers_or s c side wanted reader old new before after did k = part_or s c (gathered_to side k.to old) new before after did side k.to.at (part_there side k.to) k.goes
