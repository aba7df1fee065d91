-- A response is read, and those before the final one go on: the next items of each state that the connection may stand
-- for.
use Rattle.std.proofs.Common.{◌≡◌, refl, sym, ap, subst, ◌∙◌, ℕ, ◌≤◌, List, [], ◌∷◌, ◌++◌, append-nil, take, length, Bool, true, false, Option, Result, Ok, Err}
use Rattle.std.specs.Option.{is_some}
use Rattle.px_bytes.specs.declared.addr.Side.TheVariants.{Server}
use Rattle.px_bytes.specs.declared.fault.HttpFault.{HttpFault}
use Rattle.px_bytes.specs.declared.fault.HttpFault.TheVariants as fault
use Rattle.core_events.specs.declared.note.Note.{Note}
use Rattle.core_events.specs.declared.note.Note.TheVariants as note
use Rattle.event_order.specs.declared.event.EventName.TheVariants.{HttpResponse}
use Rattle.http_heads.specs.Fronts.{head_part}
use Rattle.http_heads.specs.Reading.{IsTold}
use Rattle.http_heads.specs.declared.fault.HeadFault.TheVariants.{Fault}
use Rattle.http_heads.specs.declared.front.HeadPart.{HeadPart}
use Rattle.http_heads.specs.declared.front.HeadPart.TheVariants.{HeadOf, StreamEnds, Faulty, NoHead}
use Rattle.http_heads.specs.declared.line.Version.{Version}
use Rattle.http_heads.specs.declared.line.Version.TheVariants.{Http10, Http11}
use Rattle.http_messages.specs.Messages.{response_of}
use Rattle.irule_http.specs.Sent.{interim_head}
use Rattle.irule_http.specs.declared.state.Request.{Request}
use Rattle.irule_http.specs.declared.state.Response.{Response}
use Rattle.conn_trace.specs.Host.{HostState, http_of}
use Rattle.conn_trace.specs.Http.{Heads}
use Rattle.conn_trace.specs.Item.{Http as HttpReason, Read}
use Rattle.conn_trace.specs.Messages.{answer_next, asked_version, final_next, interim_next, is_interim, moves_next, response_host, response_next, status_next}
use Rattle.conn_trace.specs.Places.{at as put, enter, finish}
use Rattle.conn_trace.specs.Setup.{Setup}
use Rattle.conn_trace.specs.State.{AtResponse, ForBytes, Link, Next, TraceState, Does, Waits, read_side, stream_of}
use Rattle.conn_trace.specs.Trace.{GivesNoMore, counted, next_item, phase_next}
use Rattle.conn_trace.proofs.Longer.{plain_next}
use Rattle.conn_trace.proofs.Parts.{HeadIn, head_inside}
use Rattle.conn.specs.Acts.{Finishes, Rests, cut_by, cut_of}
use Rattle.conn.specs.Changes.{Enters}
use Rattle.conn.specs.Ends.{is_up, link_by}
use Rattle.conn.specs.Forwarding.{AnswerGoes, HasRoom, LacksRoom, Interim, Interims, InterimsPass, NoneYet, PassesInterim, answer_by, answer_of, answer_with, interim_ends, switches}
use Rattle.conn.specs.Holds.{Around, Between, Holds, Stands}
use Rattle.conn.specs.Hosts.{responded_host, seen_host}
use Rattle.conn.specs.Messages.{AnswerBy, ReadsResponse, StatusBy, with_ends}
use Rattle.conn.specs.Relaying.{moved_as, read_ends}
use Rattle.conn.specs.Servers.{queue_at_server}
use Rattle.conn.specs.Setups.{Serves}
use Rattle.conn.specs.Stages.{cause_for, fits, has_finished, http_in, is_in_body}
use Rattle.conn.specs.declared.connection.Conn.{Conn}
use Rattle.conn.specs.declared.ends.Ends.{Ends}
use Rattle.conn.specs.declared.ends.Link.TheVariants as link
use Rattle.conn.specs.declared.events.At.TheVariants as event
use Rattle.conn.specs.declared.response.Answer.{Answer}
use Rattle.conn.specs.declared.response.Answer.TheVariants as answer
use Rattle.conn.specs.declared.setup.Setup as code_setup
use Rattle.conn.specs.declared.stage.Finish.TheVariants as finish
use Rattle.conn.specs.declared.stage.Stage.TheVariants as stage
use Rattle.conn.specs.declared.turn.Act as step_act
use Rattle.conn.specs.declared.turn.Act.TheVariants as done
use Rattle.conn.proofs.Acting.{ActGave, finishes_gave, gone_holds, plain_rest, rest_group, rest_noted, rests_gave, waits_gave}
use Rattle.conn.proofs.Going.{calm}
use Rattle.conn.proofs.Giving.{Gave, gave_more, gave_none, gave_one, quiet_queue}
use Rattle.conn.proofs.Moving.{moves_gave, reads_gave, room_is, side_read, stream_is}
use Rattle.conn.proofs.Passing.{up_is}
use Rattle.conn.proofs.Places.{Known, enters_gone, link_is}
use Rattle.conn.proofs.Refusing.{heads_are}

-- what stands there is a head, and these bytes read as its response
pub record IsHead (came : Option Request) (unread : List ℕ) (p : HeadPart) (n : ℕ) (r : Response) : Type 0 where
  pub part : p ≡ HeadOf n
  pub reads : response_of came (take n unread) ≡ Ok r

head_with : (came : Option Request) (unread : List ℕ) (m n : ℕ) (r : Response) (o : Result Response HttpFault) → response_of came (take m unread) ≡ o → answer_with m o ≡ answer.Head n r → IsHead came unread (HeadOf m) n r
head_with came unread m n r (Ok q) e is =
    let at : m ≡ n = cc in
    let same : q ≡ r = cc in
    record { part = ap HeadOf at; reads = ap (λ x. response_of came (take x unread)) (sym at) ∙ e ∙ ap Ok same }
head_with came unread m n r (Err f) e is = absurd (cc)

pub head_is : (came : Option Request) (unread : List ℕ) (p : HeadPart) (n : ℕ) (r : Response) → answer_by p came unread ≡ answer.Head n r → IsHead came unread p n r
head_is came unread (HeadOf m) n r is = head_with came unread m n r (response_of came (take m unread)) refl is
head_is came unread StreamEnds n r is = absurd (cc)
head_is came unread (Faulty f) n r is = absurd (cc)
head_is came unread NoHead n r is = absurd (cc)

-- it came whole
pub head_there : (came : Option Request) (unread : List ℕ) (ended : Bool) (n : ℕ) (r : Response) → answer_by (head_part unread ended) came unread ≡ answer.Head n r → n ≤ length unread
head_there came unread ended n r is = subst (HeadIn unread) (head_is came unread (head_part unread ended) n r is).part (head_inside unread ended)

-- ---- the notes

abbrev pub status_group : (switches interim : Bool) → ℕ → Conn → List Note
status_group true interim c mid = note.Finish c (cause_for (finish.Http fault.Switching)) ∷ []
status_group false true c mid = rest_group c (cut_of mid)
status_group false false c mid = []

abbrev pub answer_group : Answer → ℕ → Conn → List Note
answer_group (answer.Head n r) c mid = status_group (switches r) (is_interim r.head) c mid
answer_group answer.Ends c mid = note.Finish c (cause_for (finish.Http fault.ShortBody)) ∷ []
answer_group (answer.Fault f) c mid = note.Finish c (cause_for (finish.Http f)) ∷ []
answer_group answer.NoHead c mid = rest_group c (cut_by true mid)

status_noted : (s : code_setup.Setup) (c n : ℕ) (r : Response) (mid new : Conn) (before after : List Note) (did : step_act.Act) (x y : Bool) → StatusBy x y n r s c mid new before after did → after ≡ before ++ status_group x y c mid
status_noted s c n r mid new before after did true y k = k.1.1
status_noted s c n r mid new before after did false true k = rest_noted s c mid new before after did (cut_of mid) k.1
status_noted s c n r mid new before after did false false k = k.2 ∙ sym (append-nil before)

pub answers_noted : (s : code_setup.Setup) (c : ℕ) (mid new : Conn) (before after : List Note) (did : step_act.Act) (x : Answer) → AnswerBy x s c mid new before after did → after ≡ before ++ answer_group x c mid
answers_noted s c mid new before after did (answer.Head n r) k = status_noted s c n r mid new before after did (switches r) (is_interim r.head) k
answers_noted s c mid new before after did answer.Ends k = k.1.1
answers_noted s c mid new before after did (answer.Fault f) k = k.1.1
answers_noted s c mid new before after did answer.NoHead k = rest_noted s c mid new before after did (cut_by true mid) k

-- ---- where it stands, with these ends

module _ (s : code_setup.Setup) (g : Setup) (serves : Serves s g) (a : Around) (c : ℕ) (base : Conn) (is : base.stage ≡ stage.AtResponse) (spoken : is_some base.host.http ≡ true) where
  abbrev on : Ends → Conn
  on e = with_ends e base

  abbrev came : Option Request
  came = (http_in base.host).came

  module _ (l : TraceState) (e : Ends) (h : Holds g a l (on e)) where
    st : Stands g stage.AtResponse l (on e)
    st = subst (λ x. Stands g x l (on e)) is h.stage

    up : e.link ≡ link.Up
    up = up_is e.link (sym (ap (λ x. fits x e.link) is) ∙ h.fits)

    going : l.finished ≡ false
    going = h.finished ∙ ap has_finished is

    pub item : next_item g l ≡ counted l.sent (answer_next g l (head_part e.server.unread e.server.ended))
    item =
        plain_next g l h.no_cut
        ∙ ap (λ x. counted l.sent (phase_next g x l)) st.0
        ∙ ap (λ t. counted l.sent (answer_next g l (head_part t.unread t.ended))) (stream_is a l e h.ends up Server)

    -- a response that came whole
    pub head_item : (n : ℕ) (r : Response) → answer_of came e.server ≡ answer.Head n r → next_item g l ≡ counted l.sent (status_next g l n r (switches r) (is_interim r.head))
    head_item n r there =
        let k = head_is came e.server.unread (head_part e.server.unread e.server.ended) n r there in
        item
        ∙ ap (λ p. counted l.sent (answer_next g l p)) k.part
        ∙ ap (λ hs. counted l.sent (response_next g l n (g.heads.response (http_of hs).came (take n (stream_of Server l).unread)))) st.1.host
        ∙ ap (λ t. counted l.sent (response_next g l n (g.heads.response came (take n t.unread)))) (stream_is a l e h.ends up Server)
        ∙ ap (λ hd. counted l.sent (response_next g l n (reading hd))) (heads_are s g serves a l c (on e) (on e) h st.1 spoken going)
        ∙ ap (λ x. counted l.sent (response_next g l n x)) k.reads
      where
        reading : Heads → Result Response HttpFault
        reading hd = hd.response came (take n e.server.unread)

    abbrev Went : Ends → Type 0
    Went f = (at : TraceState) × Gave g a l at c (on e) (on f) [] []

    went : (f : Ends) → ActGave g a l c (on e) (on f) [] done.Goes → Went f
    went f k = (k.at, k.gave)

    -- one before the final one goes on
    pub interim_goes : (n : ℕ) (r : Response) → PassesInterim came n r e → Went (interim_ends (asked_version came) n r e)
    interim_goes n r k =
        by_version (asked_version came) k.room
        (head_item n r k.head
        ∙ ap (λ x. counted l.sent (status_next g l n r x (is_interim r.head))) k.stays
        ∙ ap (λ x. counted l.sent (status_next g l n r false x)) k.interim
        ∙ ap (λ hs. counted l.sent (interim_next g l n r (asked_version (http_of hs).came))) st.1.host)
      where
        by_version : (v : Version) → HasRoom v e → next_item g l ≡ counted l.sent (interim_next g l n r v) → Went (interim_ends v n r e)
        by_version Http10 room i =
            went (read_ends Server n e)
            (reads_gave g a l c (on e) (on (read_ends Server n e)) h st.1 up going Server n stage.AtResponse AtResponse (calm _ _ refl refl refl refl (λ x. tt)) i (record { there = is; vars = refl; host = refl; ends = refl }) (λ at p x. (p, x)))
        by_version Http11 room i =
            let f = moved_as Server n (interim_head r) e in
            went f
            (moves_gave g a l c (on e) (on f) h st.1 up going Server n stage.AtResponse AtResponse (calm _ _ refl refl refl refl (λ x. tt)) (interim_head r)
            (i ∙ ap (λ hd. counted l.sent (moves_next l Server n (interim_by hd) AtResponse)) (heads_are s g serves a l c (on e) (on e) h st.1 spoken going)) room (record { there = is; vars = refl; host = refl; ends = refl }) (λ at p x. (p, x)))
          where
            interim_by : Heads → List ℕ
            interim_by hd = hd.interim r

  pub interims : (l : TraceState) (from to : Ends) → Holds g a l (on from) → Interims came from to → (at : TraceState) × Gave g a l at c (on from) (on to) [] []
  interims l from _ h NoneYet = (l, gave_none g a l c (on from) h)
  interims l from _ h (Interim n r e more k) =
      let w = interims l from e h more in
      let v = interim_goes w.0 e w.1.holds n r k in
      (v.0, gave_more g a l w.0 v.0 c (on from) (on e) (on (interim_ends (asked_version came) n r e)) [] [] h.no_cut w.1 v.1)

  -- ---- what stands behind them
  module _ (l : TraceState) (e : Ends) (new : Conn) (h : Holds g a l (on e)) (before after : List Note) (did : step_act.Act) where
    abbrev mid : Conn
    mid = on e

    b : Between l mid
    b = (st l e h).1

    -- it finishes for a fault
    fails : (f : HttpFault) → next_item g l ≡ finish g (HttpReason f) l → (did ≡ done.Goes) × Finishes s c (finish.Http f) mid new before after → ActGave g a l c mid new (note.Finish c (cause_for (finish.Http f)) ∷ []) did
    fails f i (goes, k) = subst (λ d. ActGave g a l c mid new (note.Finish c (cause_for (finish.Http f)) ∷ []) d) (sym goes) (finishes_gave s g serves a l c mid new h b (finish.Http f) tt k.0 i)

    -- a final one is read
    final : (n : ℕ) (r : Response) → next_item g l ≡ counted l.sent (final_next g l n r) → Enters s event.Response (responded_host r base.host) (read_ends Server n e) mid new → ActGave g a l c mid new [] done.Goes
    final n r i k =
        let host = responded_host r base.host in
        let ends = read_ends Server n e in
        let l' = read_side Server n l in
        let p = enter g HttpResponse (link_by e.link) (seen_host host) in
        let known : Known g host = record { from = h.told.from; spoken = sym spoken ∙ h.told.spoken } in
        let gone = enters_gone g l' s serves event.Response host ends mid new k b.vars b.replies known (ap is_up (up l e h)) refl (λ x. cc) in
        let to : Link → HostState → Next = λ m x. Does (Read Server n) (put (enter g HttpResponse m (response_host r x)) l') in
        let here : next_item g l ≡ Does (Read Server n) (put p l') = i ∙ ap (λ m. to m l.host) (link_is a l e h.ends) ∙ ap (to (link_by e.link)) b.host in
        record {
          at = put p l';
          gave = gave_one g a l (put p l') c mid new (Read Server n) h.no_cut (record { calls = refl; client = refl; to_none = refl; opens = λ c s t. refl; takes = (refl, λ t. refl) }) here refl
              (gone_holds g a false p l' ends new gone (going l e h) (side_read a l (put p l') Server n e h.ends (up l e h) refl refl refl refl) h.no_choice h.no_cut)
              (ap (λ x. x.client.queued) gone.ends) (ap queue_at_server gone.ends ∙ sym (quiet_queue (queue_at_server e))) (ap (λ x. x.edges) gone.ends) (λ f. f);
          stops = gone.awake;
        }

    -- one before it waits for room
    by_version : (n : ℕ) (r : Response) (v : Version) → next_item g l ≡ counted l.sent (interim_next g l n r v) → LacksRoom v e → Rests s c mid new before after did → ActGave g a l c mid new (rest_group c (cut_of mid)) did
    by_version n r Http10 i room k = absurd room
    by_version n r Http11 i room k =
        let stop : GivesNoMore false l.sent a.took (next_item g l) = subst (λ o. GivesNoMore false l.sent a.took o) (sym i) (room_is a l e h.ends Server n (g.heads.interim r) ∙ room) in
        rests_gave s g serves a l c mid new h b before after did (ap is_in_body is) stop (ap plain_rest i) k

    by_status : (n : ℕ) (r : Response) (x y : Bool) → next_item g l ≡ counted l.sent (status_next g l n r x y) → StatusBy x y n r s c mid new before after did → ActGave g a l c mid new (status_group x y c mid) did
    by_status n r true y i k = fails fault.Switching i k
    by_status n r false true i (room, k) = by_version n r (asked_version came) (i ∙ ap (λ hs. counted l.sent (interim_next g l n r (asked_version (http_of hs).came))) b.host) room k
    by_status n r false false i (goes, k, none) = subst (λ d. ActGave g a l c mid new [] d) (sym goes) (final n r i k)

    abbrev here : HeadPart
    here = head_part e.server.unread e.server.ended

    -- what can't be read
    by_read : (n : ℕ) (f : HttpFault) (o : Result Response HttpFault) → response_of came (take n e.server.unread) ≡ o → answer_with n o ≡ answer.Fault f → here ≡ HeadOf n → next_item g l ≡ finish g (HttpReason f) l
    by_read n f (Ok r) o is p = absurd (cc)
    by_read n f (Err x) o is p =
        let same : x ≡ f = cc in
        item l e h
        ∙ ap (λ q. counted l.sent (answer_next g l q)) p
        ∙ ap (λ hs. counted l.sent (response_next g l n (g.heads.response (http_of hs).came (take n (stream_of Server l).unread)))) b.host
        ∙ ap (λ t. counted l.sent (response_next g l n (g.heads.response came (take n t.unread)))) (stream_is a l e h.ends (up l e h) Server)
        ∙ ap (λ hd. counted l.sent (response_next g l n (reading hd))) (heads_are s g serves a l c mid mid h b spoken (going l e h))
        ∙ ap (λ y. counted l.sent (response_next g l n y)) o
        ∙ ap (λ y. finish g (HttpReason y) l) same
      where
        reading : Heads → Result Response HttpFault
        reading hd = hd.response came (take n e.server.unread)

    faulty : (f : HttpFault) (p : HeadPart) → here ≡ p → answer_by p came e.server.unread ≡ answer.Fault f → next_item g l ≡ finish g (HttpReason f) l
    faulty f (HeadOf n) p is = by_read n f (response_of came (take n e.server.unread)) refl is p
    faulty f StreamEnds p is = absurd (cc)
    faulty f (Faulty x) p is = (let same : x ≡ f = cc in item l e h ∙ ap (λ q. counted l.sent (answer_next g l q)) p ∙ ap (λ y. finish g (HttpReason y) l) same)
    faulty f NoHead p is = absurd (cc)

    ends_there : (p : HeadPart) → here ≡ p → answer_by p came e.server.unread ≡ answer.Ends → next_item g l ≡ finish g (HttpReason fault.ShortBody) l
    ends_there (HeadOf n) p is = absurd (by_result (response_of came (take n e.server.unread)) is)
      where
        by_result : (o : Result Response HttpFault) → answer_with n o ≡ answer.Ends → ⊥
        by_result (Ok r) is = cc
        by_result (Err f) is = cc
    ends_there StreamEnds p is = item l e h ∙ ap (λ q. counted l.sent (answer_next g l q)) p
    ends_there (Faulty x) p is = absurd (cc)
    ends_there NoHead p is = absurd (cc)

    waits_there : (p : HeadPart) → here ≡ p → answer_by p came e.server.unread ≡ answer.NoHead → next_item g l ≡ Waits (ForBytes Server)
    waits_there (HeadOf n) p is = absurd (by_result (response_of came (take n e.server.unread)) is)
      where
        by_result : (o : Result Response HttpFault) → answer_with n o ≡ answer.NoHead → ⊥
        by_result (Ok r) is = cc
        by_result (Err f) is = cc
    waits_there StreamEnds p is = absurd (cc)
    waits_there (Faulty x) p is = absurd (cc)
    waits_there NoHead p is = item l e h ∙ ap (λ q. counted l.sent (answer_next g l q)) p

    pub answers : AnswerBy (answer_of came e.server) s c mid new before after did → ActGave g a l c mid new (answer_group (answer_of came e.server) c mid) did
    answers k = by_answer (answer_of came e.server) refl k
      where
        by_answer : (x : Answer) → answer_of came e.server ≡ x → AnswerBy x s c mid new before after did → ActGave g a l c mid new (answer_group x c mid) did
        by_answer (answer.Head n r) there k = by_status n r (switches r) (is_interim r.head) (head_item l e h n r there) k
        by_answer answer.Ends there k = fails fault.ShortBody (ends_there here refl there) k
        by_answer (answer.Fault f) there k = fails f (faulty f here refl there) k
        by_answer answer.NoHead there k = waits_gave s g serves a l c mid new h b Server before after did (ap is_in_body is) (waits_there here refl there) k

pub response_noted : (s : code_setup.Setup) (c : ℕ) (old new : Conn) (before after : List Note) (did : step_act.Act) (k : ReadsResponse s c old new before after did) → after ≡ before ++ answer_group (answer_of (http_in old.host).came k.to.server) c (with_ends k.to old)
response_noted s c old new before after did k = answers_noted s c (with_ends k.to old) new before after did (answer_of (http_in old.host).came k.to.server) k.goes

pub reads_response : (s : code_setup.Setup) (g : Setup) → Serves s g → (a : Around) (l : TraceState) (c : ℕ) (old new : Conn) → Holds g a l old → old.stage ≡ stage.AtResponse → is_some old.host.http ≡ true → (before after : List Note) (did : step_act.Act) (k : ReadsResponse s c old new before after did)
    → ActGave g a l c old new (answer_group (answer_of (http_in old.host).came k.to.server) c (with_ends k.to old)) did
reads_response s g serves a l c old new h is spoken before after did k =
    let w = interims s g serves a c old is spoken l old.ends k.to h k.passes in
    let mid = with_ends k.to old in
    let group = answer_group (answer_of (http_in old.host).came k.to.server) c mid in
    let second = answers s g serves a c old is spoken w.0 k.to new w.1.holds before after did k.goes in
    record { at = second.at; gave = gave_more g a l w.0 second.at c old mid new [] group h.no_cut w.1 second.gave; stops = second.stops }

-- what was told of a response is what stands there
pub told_response : (response : Response) (r : Result Response HttpFault) → IsTold (Ok response) r → r ≡ Ok response
told_response response (Ok other) is = cc is
told_response response (Err f) is = absurd (cc is)

pub told_failed : (f : HttpFault) (r : Result Response HttpFault) → IsTold {A = Response} (Err (Fault f)) r → r ≡ Err f
told_failed f (Ok response) is = absurd (cc is)
told_failed f (Err g) is = cc is

-- a head that came whole, by what its bytes read as
pub answer_here : (came : Option Request) (unread : List ℕ) (n : ℕ) (p : HeadPart) (o : Result Response HttpFault) → p ≡ HeadOf n → response_of came (take n unread) ≡ o → answer_with n o ≡ answer_by p came unread
answer_here came unread n p o is reads = ap (answer_with n) (sym reads) ∙ ap (λ x. answer_by x came unread) (sym is)

-- one more response before the final one went on
pub interims_more : (asked : Option Request) (from e to : Ends) (a : Answer) → Interims asked from e → a ≡ answer_of asked e.server → AnswerGoes true asked a e to → Interims asked from to
interims_more asked from e to (answer.Head n r) before is (k, moves) =
    let passes : PassesInterim asked n r e = record { head = sym is; stays = k.0; interim = k.1.0; room = k.1.1 } in
    subst (Interims asked from) (sym moves) (Interim n r e before passes)
interims_more asked from e to answer.Ends before is k = absurd k
interims_more asked from e to (answer.Fault f) before is k = absurd k
interims_more asked from e to answer.NoHead before is k = absurd k

-- no more of them goes on
pub interims_stop : (asked : Option Request) (from e to : Ends) (a : Answer) → Interims asked from e → a ≡ answer_of asked e.server → AnswerGoes false asked a e to → InterimsPass asked from to a
interims_stop asked from e to a before is (stops, same) =
    subst (λ x. InterimsPass asked from x a) (sym same) (before, (is, stops))

-- by the answer behind them
pub response_by : (s : code_setup.Setup) (c : ℕ) (old new : Conn) (to : Ends) (before after : List Note) (did : step_act.Act) (a : Answer) → InterimsPass (http_in old.host).came old.ends to a → AnswerBy a s c (with_ends to old) new before after did → ReadsResponse s c old new before after did
response_by s c old new to before after did a k goes = record {
  to = to;
  passes = k.0;
  goes = subst (λ x. AnswerBy x s c (with_ends to old) new before after did) k.1.0 goes;
}
