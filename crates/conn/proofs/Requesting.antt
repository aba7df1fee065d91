-- A request's head is read: the next items of each state that the connection may stand for.
use Rattle.std.proofs.Common.{◌≡◌, refl, sym, ap, subst, ◌∙◌, ℕ, List, [], ◌∷◌, ◌++◌, append-nil, take, true, false, Result, Ok, Err}
use Rattle.std.specs.Option.{is_some}
use Rattle.core_events.specs.declared.note.Note.{Note}
use Rattle.core_events.specs.declared.note.Note.TheVariants as note
use Rattle.px_bytes.specs.declared.addr.Side.TheVariants.{Client}
use Rattle.px_bytes.specs.declared.fault.HttpFault.{HttpFault}
use Rattle.event_order.specs.declared.event.EventName.TheVariants.{HttpRequest}
use Rattle.http_heads.specs.Reading.{IsTold}
use Rattle.http_heads.specs.declared.fault.HeadFault.TheVariants.{Fault}
use Rattle.http_messages.specs.Messages.{request_of}
use Rattle.irule_http.specs.declared.state.Request.{Request}
use Rattle.http_heads.specs.declared.front.HeadPart.{HeadPart}
use Rattle.http_heads.specs.declared.front.HeadPart.TheVariants.{HeadOf, StreamEnds, Faulty, NoHead}
use Rattle.http_heads.specs.Fronts.{head_part}
use Rattle.conn_trace.specs.Host.{HostState}
use Rattle.conn_trace.specs.Http.{Heads}
use Rattle.conn_trace.specs.Item.{Read}
use Rattle.conn_trace.specs.Messages.{head_next, request_host, request_next}
use Rattle.conn_trace.specs.Places.{at as put, enter}
use Rattle.conn_trace.specs.Setup.{Setup}
use Rattle.conn_trace.specs.State.{Link, TraceState, Next, Does, ForBytes, Waits, read_side}
use Rattle.conn_trace.specs.Trace.{GivesNoMore, counted, next_item, phase_next}
use Rattle.conn_trace.proofs.Longer.{plain_next}
use Rattle.conn.specs.Acts.{HeadBy, ReadsHead, RequestBy, cut_of}
use Rattle.conn.specs.Changes.{Enters}
use Rattle.conn.specs.Ends.{link_by}
use Rattle.conn.specs.Holds.{Around, Between, Holds, Stands}
use Rattle.conn.specs.Hosts.{requested_host, seen_host}
use Rattle.conn.specs.Relaying.{read_ends}
use Rattle.conn.specs.Setups.{Serves}
use Rattle.conn.specs.Stages.{cause_for, fits, has_finished, is_in_body}
use Rattle.conn.specs.declared.connection.Conn.{Conn}
use Rattle.conn.specs.declared.events.At.TheVariants as event
use Rattle.conn.specs.declared.setup.Setup as code_setup
use Rattle.conn.specs.declared.stage.Finish.TheVariants as finish
use Rattle.conn.specs.declared.stage.Stage.TheVariants as stage
use Rattle.conn.specs.declared.turn.Act as step_act
use Rattle.conn.specs.declared.turn.Act.TheVariants as done
use Rattle.conn.proofs.Acting.{ActGave, finishes_gave, gone_holds, rest_group, rest_noted, rests_gave, plain_rest}
use Rattle.conn.proofs.Dropped.{client_read}
use Rattle.conn.proofs.Giving.{gave_one, quiet_queue}
use Rattle.conn.specs.Servers.{queue_at_server}
use Rattle.conn.proofs.Places.{Known, enters_gone, link_is}
use Rattle.conn.proofs.Refusing.{heads_are, refused_group, refused_noted, refuses}

-- the notes there
abbrev pub request_group : ℕ → Result Request HttpFault → List Note
request_group c (Ok r) = []
request_group c (Err f) = refused_group f c

abbrev pub head_group : ℕ → Conn → HeadPart → List Note
head_group c old (HeadOf n) = request_group c (request_of (take n old.ends.client.unread))
head_group c old StreamEnds = note.Finish c (cause_for finish.Closed) ∷ []
head_group c old (Faulty f) = refused_group f c
head_group c old NoHead = rest_group c (cut_of old)

request_noted : (s : code_setup.Setup) (c n : ℕ) (old new : Conn) (before after : List Note) (did : step_act.Act) (r : Result Request HttpFault) → RequestBy r n s c old new before after did → after ≡ before ++ request_group c r
request_noted s c n old new before after did (Ok r) k = k.2 ∙ sym (append-nil before)
request_noted s c n old new before after did (Err f) k = refused_noted s c f old new before after did k

pub head_noted : (s : code_setup.Setup) (c : ℕ) (old new : Conn) (before after : List Note) (did : step_act.Act) (p : HeadPart) → HeadBy p s c old new before after did → after ≡ before ++ head_group c old p
head_noted s c old new before after did (HeadOf n) k = request_noted s c n old new before after did (request_of (take n old.ends.client.unread)) k
head_noted s c old new before after did StreamEnds k = k.1.1
head_noted s c old new before after did (Faulty f) k = refused_noted s c f old new before after did k
head_noted s c old new before after did NoHead k = rest_noted s c old new before after did (cut_of old) k

module _ (s : code_setup.Setup) (g : Setup) (serves : Serves s g) (a : Around) (l : TraceState) (c : ℕ) (old new : Conn) (h : Holds g a l old) (is : old.stage ≡ stage.AtHead) (st : Stands g stage.AtHead l old) (spoken : is_some old.host.http ≡ true) where
  b : Between l old
  b = st.1

  going : l.finished ≡ false
  going = h.finished ∙ ap has_finished is

  abbrev front : HeadPart
  front = head_part old.ends.client.unread old.ends.client.ended

  step : next_item g l ≡ counted l.sent (head_next g l front)
  step = plain_next g l h.no_cut ∙ ap (λ p. counted l.sent (phase_next g p l)) st.0 ∙ ap (λ t. counted l.sent (head_next g l (head_part t.unread t.ended))) h.ends.client

  -- a request is read
  reads_request : (n : ℕ) (r : Request) → next_item g l ≡ counted l.sent (request_next g l n (Ok r)) → Enters s event.Request (requested_host r old.host) (read_ends Client n old.ends) old new → ActGave g a l c old new [] done.Goes
  reads_request n r here k =
      let host = requested_host r old.host in
      let ends = read_ends Client n old.ends in
      let l' = read_side Client n l in
      let p = enter g HttpRequest (link_by old.ends.link) (seen_host host) in
      let known : Known g host = record { from = h.told.from; spoken = sym spoken ∙ h.told.spoken } in
      let gone = enters_gone g l' s serves event.Request host ends old new k b.vars b.replies known (sym (ap (λ x. fits x old.ends.link) is) ∙ h.fits) refl (λ x. cc) in
      let to : Link → HostState → Next = λ m x. Does (Read Client n) (put (enter g HttpRequest m (request_host r x)) l') in
      let item : next_item g l ≡ Does (Read Client n) (put p l') = here ∙ ap (λ m. to m l.host) (link_is a l old.ends h.ends) ∙ ap (to (link_by old.ends.link)) b.host in
      record {
        at = put p l';
        gave = gave_one g a l (put p l') c old new (Read Client n) h.no_cut (record { calls = refl; client = refl; to_none = refl; opens = λ c s t. refl; takes = (refl, λ t. refl) }) item refl
            (gone_holds g a false p l' ends new gone going (client_read a l (put p l') n old.ends h.ends refl refl refl refl) h.no_choice h.no_cut)
            (ap (λ e. e.client.queued) gone.ends) (ap queue_at_server gone.ends ∙ sym (quiet_queue (queue_at_server old.ends))) (ap (λ e. e.edges) gone.ends) (λ f. f);
        stops = gone.awake;
      }

  by_request : (n : ℕ) (o : Result Request HttpFault) (before after : List Note) (did : step_act.Act) → next_item g l ≡ counted l.sent (request_next g l n o) → RequestBy o n s c old new before after did → ActGave g a l c old new (request_group c o) did
  by_request n (Ok r) before after did here (goes, k, none) = subst (λ d. ActGave g a l c old new [] d) (sym goes) (reads_request n r here k)
  by_request n (Err f) before after did here k = refuses s g serves a l c old new h b spoken going f here before after did k

  pub heads : (before after : List Note) (did : step_act.Act) → ReadsHead s c old new before after did → ActGave g a l c old new (head_group c old front) did
  heads before after did k = by_part front refl k
    where
      to : (n : ℕ) → front ≡ HeadOf n → next_item g l ≡ counted l.sent (request_next g l n (request_of (take n old.ends.client.unread)))
      to n there =
          step ∙ ap (λ p. counted l.sent (head_next g l p)) there
          ∙ ap (λ t. counted l.sent (request_next g l n (g.heads.request (take n t.unread)))) h.ends.client
          ∙ ap (λ hd. counted l.sent (request_next g l n (asks hd (take n old.ends.client.unread)))) (heads_are s g serves a l c old new h b spoken going)
        where
          asks : Heads → List ℕ → Result Request HttpFault
          asks hd bytes = hd.request bytes

      by_part : (p : HeadPart) → front ≡ p → HeadBy p s c old new before after did → ActGave g a l c old new (head_group c old p) did
      by_part (HeadOf n) there k = by_request n (request_of (take n old.ends.client.unread)) before after did (to n there) k
      by_part StreamEnds there (goes, k) = subst (λ d. ActGave g a l c old new (note.Finish c (cause_for finish.Closed) ∷ []) d) (sym goes)
          (finishes_gave s g serves a l c old new h b finish.Closed tt k.0 (step ∙ ap (λ p. counted l.sent (head_next g l p)) there))
      by_part (Faulty f) there k = refuses s g serves a l c old new h b spoken going f (step ∙ ap (λ p. counted l.sent (head_next g l p)) there) before after did k
      by_part NoHead there k =
          let waits : next_item g l ≡ Waits (ForBytes Client) = step ∙ ap (λ p. counted l.sent (head_next g l p)) there in
          rests_gave s g serves a l c old new h b before after did (ap is_in_body is) (subst (λ o. GivesNoMore false l.sent a.took o) (sym waits) refl) (ap plain_rest waits) k

-- the client's unread bytes are these, as they were
abbrev pub looked_at : List ℕ → Conn → Conn
looked_at unread c = record c { ends = record c.ends { client = record c.ends.client { unread = unread } } }

pub heads_by : (s : code_setup.Setup) (c : ℕ) (old new : Conn) (before after : List Note) (did : step_act.Act) (part : HeadPart) (unread : List ℕ) → unread ≡ old.ends.client.unread → part ≡ head_part old.ends.client.unread old.ends.client.ended → HeadBy part s c (looked_at unread old) new before after did → ReadsHead s c old new before after did
heads_by s c old new before after did part unread same is k = subst (λ p. HeadBy p s c old new before after did) is (subst (λ u. HeadBy part s c (looked_at u old) new before after did) same k)

-- what was told of a head is what stands there
pub told_request : (request : Request) (r : Result Request HttpFault) → IsTold (Ok request) r → r ≡ Ok request
told_request request (Ok other) is = cc is
told_request request (Err f) is = absurd (cc is)

pub told_fault : (f : HttpFault) (r : Result Request HttpFault) → IsTold {A = Request} (Err (Fault f)) r → r ≡ Err f
told_fault f (Ok request) is = absurd (cc is)
told_fault f (Err g) is = cc is
