-- A connection of the code whose shared call is answered: what it goes on with, for what was heard then.
use Rattle.std.proofs.Common.{◌≡◌, ◌⊎◌, inl, inr, refl, sym, ap, subst, ◌∙◌, ℕ, ◌+◌, ◌*◌, List, [], ◌∷◌, length, drop, map, append-nil, Bool, true, false, ◌||◌, Option, Some, None, if◌then◌else◌}
use Rattle.px_bytes.specs.declared.fault.Reply.{Reply}
use Rattle.core_events.specs.declared.edges.Edges.{Edges}
use Rattle.core_events.specs.declared.note.Cause.TheVariants.{Memory}
use Rattle.core_events.specs.declared.note.Note.{Note}
use Rattle.core_events.specs.declared.note.Note.TheVariants.{Finish}
use Rattle.core_events.specs.Edges.{edges_noted}
use Rattle.conn_trace.specs.Further.{CutMeets, Further, longer, nothing_comes, replies_only}
use Rattle.conn_trace.specs.Gates.{TakenCounts, no_bytes}
use Rattle.core_events.specs.declared.event_kind.EventKind.TheVariants.{Turns}
use Rattle.conn_trace.specs.Heard.{Heard, as_answer, Brought, brought_nothing, hears, hears_event}
use Rattle.conn_trace.specs.Heard.{further_of, start_of, taken}
use Rattle.conn_trace.specs.Costs.{paid_by}
use Rattle.conn_trace.specs.Item.{Choice, Item, client_output, server_output}
use Rattle.conn_trace.specs.Setup.{Setup}
use Rattle.conn_trace.specs.State.{Cut, TraceState}
use Rattle.conn_trace.specs.Tellings.{tells, notes_about, replies_told, choices_told, cut_told, finish_told, failure_told}
use Rattle.conn_trace.specs.Trace.{Unfolds}
use Rattle.conn_trace.proofs.Hearing.{event_stands, finished_stands}
use Rattle.conn_trace.proofs.Streams.{nothing_stream, nothing_server, nothing_on_last}
use Rattle.conn.specs.Ends.{has_stream}
use Rattle.conn.specs.Holds.{Around, Holds, HoldsEnds}
use Rattle.conn.specs.Stages.{is_asking}
use Rattle.conn.specs.declared.connection.Conn.{Conn}
use Rattle.conn.specs.declared.ends.Ends.{Ends}
use Rattle.conn.proofs.Giving.{ends_kept}
use Rattle.shared_store.specs.Calls.{live_reply}
use Rattle.shared_store.specs.Store.{StoreState}
use Rattle.proxy_core.specs.Live.{ConnFails, ConnReplies, LiveAnswers, LiveFails, LiveReplies, asks_in, edges_by_conn, entry_note}
use Rattle.proxy_core.specs.Moves.{TurnNotes}
use Rattle.record_model.specs.History.{store_after}
use Rattle.record_model.specs.Past.{Past, ended_in, heard}
use Rattle.proxy_core.specs.Represents.{ConnectionContinues, Continues, HoldsQueues, around}
use Rattle.proxy_core.specs.Scheduler.{State, last_took, seen, seen_after, servers_left}
use Rattle.proxy_core.specs.Servers.{made}
use Rattle.record_model.specs.Setup.{setup_of, stand_of}
use Rattle.proxy_core.specs.declared.call.Asked.{Asked}
use Rattle.run_config.specs.declared.config.Config.{Config}
use Rattle.proxy_core.proofs.CameAt.{UncutOr, heard_uncut}
use Rattle.proxy_core.proofs.CameOn.{Stood, ends_standing, paid_standing, to_standing}
use Rattle.proxy_core.proofs.GroupNotes.{About, tells_all}
use Rattle.proxy_core.proofs.Hearing.{turn_stays}
use Rattle.proxy_core.proofs.Meeting.{around_quiet}

abbrev adds : Brought → List Reply → List Choice → Option Cut → Further
adds b replies choices cut = record { client = b.client; server = b.server; connects = map as_answer b.connects; replies = replies; choices = choices; cut = cut }

-- a Turn brings the replies that its notes tell alone
pub turn_further : (c : ℕ) (h : Heard) (group : List Note) → choices_told (notes_about c group) ≡ [] → ((took : TakenCounts) → cut_told took (notes_about c group) ≡ None) → further_of c h Turns group ≡ replies_only (replies_told (notes_about c group))
turn_further c h group choices cut =
    let t = notes_about c group in
    let k = cut_told (taken (hears_event c h Turns group)) t in
    ap (λ b. adds b (replies_told t) (choices_told t) k) (by_end (h.finished || finish_told t))
    ∙ ap (λ i. adds brought_nothing (replies_told t) i k) choices
    ∙ ap (λ x. adds brought_nothing (replies_told t) [] x) (cut (taken (hears_event c h Turns group)))
  where
    by_end : (b : Bool) → (if b then brought_nothing else brought_nothing) ≡ brought_nothing
    by_end true = refl
    by_end false = refl

pub stands_turn : (g : Setup) (c : ℕ) (h : Heard) (group : List Note) (place : List Item) (l : TraceState) → UncutOr h.cut h.finished → choices_told (notes_about c group) ≡ [] → ((took : TakenCounts) → cut_told took (notes_about c group) ≡ None) → Unfolds g (start_of g h) place l
    → Unfolds g (start_of g (hears c h Turns group)) place (longer (replies_only (replies_told (notes_about c group))) l)
stands_turn g c h group place l (inr done) choices cut u = finished_stands g c h Turns group place l done choices cut u
stands_turn g c h group place l (inl none) choices cut u =
    let P : Option Cut → Type 0 = λ o. CutMeets o no_bytes place in
    let Q : Further → Type 0 = λ f. Unfolds g (start_of g (hears c h Turns group)) place (longer f l) in
    subst Q (turn_further c h group choices cut) (event_stands g c h Turns group place l none (subst P (sym (cut (taken (hears_event c h Turns group)))) tt) u)

-- the notes of an answered call, with their reply where there is one
pub record TurnNoted (a : Asked) (moment : ℕ) (r : Reply) (group : List Note) (fails : Bool) : Type 0 where
  pub notes : TurnNotes a moment r group
  pub about : About a.conn group
  pub cut : (took : TakenCounts) → cut_told took (map tells group) ≡ None
  pub choices : choices_told (map tells group) ≡ []
  pub finishes : finish_told (map tells group) ≡ fails
  pub failure : failure_told (map tells group) ≡ fails
  pub ended : ended_in group ≡ []
  pub edges : (e : Edges) → edges_noted group e ≡ e

noted_answer : (a : Asked) (moment : ℕ) (r : Reply) → TurnNoted a moment r (entry_note a moment r ∷ []) false
noted_answer a moment r = record { notes = inl refl; about = (refl, tt); cut = λ took. refl; choices = refl; finishes = refl; failure = refl; ended = refl; edges = λ e. refl }

noted_lost : (a : Asked) (moment : ℕ) (r : Reply) → TurnNoted a moment r (entry_note a moment r ∷ Finish a.conn Memory ∷ []) true
noted_lost a moment r = record { notes = inr (inl refl); about = (refl, (refl, tt)); cut = λ took. refl; choices = refl; finishes = refl; failure = refl; ended = refl; edges = λ e. refl }

noted_lack : (a : Asked) (moment : ℕ) (r : Reply) → TurnNoted a moment r (Finish a.conn Memory ∷ []) true
noted_lack a moment r = record { notes = inr (inr refl); about = (refl, tt); cut = λ took. refl; choices = refl; finishes = refl; failure = refl; ended = refl; edges = λ e. refl }

-- replies leave the ends
replies_ends : (a : Around) (l : TraceState) (e : Ends) (rs : List Reply) → HoldsEnds a l e → HoldsEnds a (longer (replies_only rs) l) e
replies_ends a l e rs h = ends_kept a l (longer (replies_only rs) l) e e h (nothing_stream nothing_comes l.client refl) (nothing_server nothing_comes l.answers.connects l.server refl) (append-nil _ ∙ nothing_on_last nothing_comes l.answers.connects refl) refl refl

or_true : (b : Bool) → (b || true) ≡ true
or_true true = refl
or_true false = refl

module _ (C : Config) (past : Past) (s : State) (a : Asked) (ring : List ℕ) (queue : List Asked) (k : Stood C (heard a.conn past) (s.places a.conn)) where
  abbrev c : ℕ
  c = a.conn

  abbrev h : Heard
  h = heard a.conn past

  abbrev place : List Item
  place = s.places a.conn

  abbrev next : State
  next = record s { ring = ring; queue = queue }

  around_same : (group : List Note) → around (hears a.conn (heard a.conn past) Turns group) ≡ around (heard a.conn past)
  around_same group = around_quiet c h Turns group refl refl

  queues_same : (group : List Note) (old new : Conn) → new.ends ≡ old.ends → HoldsQueues h place old.ends → HoldsQueues (hears a.conn (heard a.conn past) Turns group) place new.ends
  queues_same group old new same q = record {
    client = ap (λ e. e.client.queued) same ∙ q.client ∙ ap (λ x. drop x.counted (client_output place)) (sym (around_same group));
    server = λ there. ap (λ e. e.server.queued) same ∙ q.server (ap (λ e. has_stream e.link) (sym same) ∙ there) ∙ ap (λ cs. drop (last_took cs) (server_output (made cs) place)) (sym (turn_stays c h group).connects);
    lost = ap (λ e. length e.server.queued + e.lost) same ∙ q.lost ∙ ap (λ cs. servers_left 1 cs place) (sym (turn_stays c h group).connects);
  }

  stands : (moment : ℕ) (r : Reply) (group : List Note) (fails : Bool) → TurnNoted a moment r group fails → Unfolds (setup_of C h) (start_of (setup_of C h) (hears a.conn (heard a.conn past) Turns group)) place (longer (replies_only (replies_told (notes_about a.conn group))) (stand_of C h place))
  stands moment r group fails n =
      let all = tells_all c group n.about in
      stands_turn (setup_of C h) c h group place (stand_of C h place) (heard_uncut c past) (ap choices_told all ∙ n.choices) (λ took. ap (cut_told took) all ∙ n.cut took) k.stands

  -- it goes on with the reply
  replied : (moment : ℕ) (r : Reply) (old new : Conn) → Continues C (seen past s a.conn) old → ConnReplies r old new → ConnectionContinues C (seen_after past Turns (entry_note a moment r ∷ []) next a.conn) (Some new)
  replied moment r old new z w =
      let group : List Note = entry_note a moment r ∷ [] in
      let n = noted_answer a moment r in
      let h' = hears c h Turns group in
      let g = setup_of C h in
      let l = stand_of C h place in
      let all = tells_all c group n.about in
      let told : replies_told (notes_about c group) ≡ r ∷ [] = ap replies_told all in
      let U : List Reply → Type 0 = λ rs. Unfolds g (start_of g h') place (longer (replies_only rs) l) in
      let Q : Around → Type 0 = λ x. Holds g x (longer (replies_only (r ∷ [])) l) new in
      let now = w.replies g (around h) l z.holds in
      inl (record {
        not_failed = ap (λ b. b || failure_told (notes_about c group)) z.not_failed ∙ ap failure_told all;
        holds = to_standing C h' g place (longer (replies_only (r ∷ [])) l) new refl (subst U told (stands moment r group false n)) (subst Q (sym (around_same group)) now.0);
        queues = queues_same group old new w.ends z.queues;
        paid = paid_standing C h' g place (longer (replies_only (r ∷ [])) l) new (1991 * s.spent c) (paid_by place) refl (subst U told (stands moment r group false n)) (now.1 (1991 * s.spent c) (paid_by place) z.paid);
      })

  -- it found no memory
  lost : (moment : ℕ) (r : Reply) (group : List Note) (old new : Conn) → TurnNoted a moment r group true → Continues C (seen past s a.conn) old → ConnFails old new → ConnectionContinues C (seen_after past Turns group next a.conn) (Some new)
  lost moment r group old new n z w =
      let h' = hears c h Turns group in
      let g = setup_of C h in
      let l = stand_of C h place in
      let all = tells_all c group n.about in
      let rs = replies_told (notes_about c group) in
      let A : Around → Type 0 = λ x. HoldsEnds x (longer (replies_only rs) l) new.ends in
      let E : Ends → Type 0 = λ e. HoldsEnds (around h) l e in
      inr (record {
        failed = ap (λ b. h.failed || b) (ap failure_told all ∙ n.failure) ∙ or_true h.failed;
        finished = ap (λ b. h.finished || b) (ap finish_told all ∙ n.finishes) ∙ or_true h.finished;
        there = w.there;
        ends = ends_standing C h' g place (longer (replies_only rs) l) new.ends refl (stands moment r group true n) (subst A (sym (around_same group)) (replies_ends (around h) l new.ends rs (subst E (sym w.ends) z.holds.ends)));
        queues = queues_same group old new w.ends z.queues;
      })

  -- what came of it
  pub record Turned (store after : StoreState) (moment : ℕ) (r : Reply) (group : List Note) (o o' : Option Conn) : Type 0 where
    pub fails : Bool
    pub noted : TurnNoted a moment r group fails
    pub continues : ConnectionContinues C (seen_after past Turns group next a.conn) o'
    pub awake : asks_in o' ≡ false
    pub store_is : after ≡ store_after Turns group store
    pub edges : (e : Edges) → edges_by_conn o' e ≡ edges_by_conn o e

  module _ (store after : StoreState) (moment : ℕ) (conn : Conn) (z : Continues C (seen past s a.conn) conn) (asks : is_asking conn.stage ≡ true) where
    with_reply : (r : Reply) (group : List Note) (o : Option Conn) → group ≡ entry_note a moment r ∷ [] → after ≡ (live_reply store moment a.call).after → LiveReplies r (Some conn) o → Turned store after moment r group (Some conn) o
    with_reply r group None e left w = absurd w
    with_reply r group (Some new) e left w =
        let G : List Note → Type 0 = λ x. Turned store after moment r x (Some conn) (Some new) in
        let t = w asks in
        subst G (sym e) (record { fails = false; noted = noted_answer a moment r; continues = replied moment r conn new z t; awake = t.awake; store_is = left; edges = λ e. ap (λ x. x.edges) t.ends })

    with_lost : (r : Reply) (group : List Note) (o : Option Conn) → group ≡ entry_note a moment r ∷ Finish a.conn Memory ∷ [] → after ≡ (live_reply store moment a.call).after → LiveFails (Some conn) o → Turned store after moment r group (Some conn) o
    with_lost r group None e left w = absurd w
    with_lost r group (Some new) e left w =
        let G : List Note → Type 0 = λ x. Turned store after moment r x (Some conn) (Some new) in
        let t = w asks in
        subst G (sym e) (record { fails = true; noted = noted_lost a moment r; continues = lost moment r (entry_note a moment r ∷ Finish a.conn Memory ∷ []) conn new (noted_lost a moment r) z t; awake = ap is_asking t.there; store_is = left; edges = λ e. ap (λ x. x.edges) t.ends })

    with_lack : (r : Reply) (group : List Note) (o : Option Conn) → group ≡ Finish a.conn Memory ∷ [] → after ≡ store → LiveFails (Some conn) o → Turned store after moment r group (Some conn) o
    with_lack r group None e left w = absurd w
    with_lack r group (Some new) e left w =
        let G : List Note → Type 0 = λ x. Turned store after moment r x (Some conn) (Some new) in
        let t = w asks in
        subst G (sym e) (record { fails = true; noted = noted_lack a moment r; continues = lost moment r (Finish a.conn Memory ∷ []) conn new (noted_lack a moment r) z t; awake = ap is_asking t.there; store_is = left; edges = λ e. ap (λ x. x.edges) t.ends })

    -- the reply that the store gives, or would give
    pub by_answer : (group : List Note) (o : Option Conn) → LiveAnswers store after moment a (Some conn) o group → Turned store after moment (live_reply store moment a.call).reply group (Some conn) o
    by_answer group o (inl w) =
        let R : Reply → Type 0 = λ x. Turned store after moment x group (Some conn) o in
        subst R w.is (by_takes w.r w.left w.takes)
      where
        by_takes : (r : Reply) → after ≡ (live_reply store moment a.call).after → ((group ≡ entry_note a moment r ∷ []) × LiveReplies r (Some conn) o) ⊎ ((group ≡ entry_note a moment r ∷ Finish a.conn Memory ∷ []) × LiveFails (Some conn) o) → Turned store after moment r group (Some conn) o
        by_takes r left (inl (e, x)) = with_reply r group o e left x
        by_takes r left (inr (e, x)) = with_lost r group o e left x
    by_answer group o (inr w) = with_lack (live_reply store moment a.call).reply group o w.notes w.left w.fails
