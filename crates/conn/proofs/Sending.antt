-- A message goes on: its head, the units of its body, and the end of that.
use Rattle.std.proofs.Common.{◌≡◌, refl, sym, ap, subst, ◌∙◌, ℕ, zero, suc, ◌+◌, ◌≤◌, List, [], ◌∷◌, ◌++◌, append-nil, append_assoc, take, drop, length, length-append, length-drop, Bool, true, false, arith, lt-ltb, None, ◌-◌, if◌then◌else◌}
use Rattle.std.specs.Bool.{MatchBool}
use Rattle.std.specs.Option.{is_some}
use Rattle.px_bytes.specs.declared.addr.Side.{Side}
use Rattle.px_bytes.specs.declared.addr.Side.TheVariants.{Client, Server}
use Rattle.px_bytes.specs.declared.fault.HttpFault.{HttpFault}
use Rattle.core_events.specs.declared.note.Note.{Note}
use Rattle.core_events.specs.declared.note.Note.TheVariants as note
use Rattle.http_frames.specs.Parts.{Part, Byte, Chunk, End, Pending, Bad, part_of}
use Rattle.http_frames.specs.declared.state.BodyState.{BodyState}
use Rattle.http_frames.specs.declared.state.BodyState.TheVariants as body
use Rattle.conn_trace.specs.Fronts.{after_byte}
use Rattle.conn_trace.specs.Gates.{room_limit}
use Rattle.conn_trace.specs.Http.{Heads}
use Rattle.conn_trace.specs.Host.{http_of}
use Rattle.conn_trace.specs.Messages.{behind_head, body_end_next, fault_next, head_bytes as model_bytes, is_counted, moves_next, reads_next, sending_next}
use Rattle.conn_trace.specs.Places.{finish, place}
use Rattle.conn_trace.specs.Routing.{behind_message}
use Rattle.conn_trace.specs.SentBodies.{chunk_line, is_answered, last_line}
use Rattle.conn_trace.specs.Setup.{Setup}
use Rattle.conn_trace.specs.State.{Forwarding, Heading, Phase, TraceState, Does, Next, stream_of}
use Rattle.conn_trace.specs.Trace.{GivesNoMore, counted, next_item, phase_next}
use Rattle.conn_trace.specs.Units.{after_bytes}
use Rattle.conn_trace.proofs.Longer.{plain_next}
use Rattle.conn_trace.proofs.Units.{byte_here, holds_on, none_read}
use Rattle.conn.specs.Acts.{RefusesBy, Rests, cut_by, cut_of, is_server}
use Rattle.conn.specs.Ends.{end_of}
use Rattle.conn.specs.Forwarding.{Forwards, NotYet, Passage, PassesLine, PassesPiece, PassesUnit, Line, Piece, Then, ends_room, line_passed, part_at, passage, piece_passed, waiting}
use Rattle.conn.specs.Holds.{Around, Between, Holds, Stands}
use Rattle.conn.specs.Hosts.{seen_host}
use Rattle.conn.specs.Messages.{Becomes, EndsBy, ForwardsBody, FrontBy, RefusesOf, SendsHead, head_bytes, passed_to}
use Rattle.conn.specs.Relaying.{moved_as, read_ends}
use Rattle.conn.specs.Setups.{Serves}
use Rattle.conn.specs.Stages.{cause_for, fits, has_finished, headed_stage, http_in, is_in_body, message_stage}
use Rattle.conn.specs.declared.connection.Conn.{Conn}
use Rattle.conn.specs.declared.ends.Ends.{Ends}
use Rattle.conn.specs.declared.ends.Link.TheVariants as link
use Rattle.conn.specs.declared.setup.Setup as code_setup
use Rattle.conn.specs.declared.stage.Finish.TheVariants as finish
use Rattle.conn.specs.declared.stage.Stage.TheVariants as stage
use Rattle.conn.specs.declared.turn.Act as step_act
use Rattle.conn.specs.declared.turn.Act.TheVariants as done
use Rattle.conn.proofs.Acting.{ActGave, finishes_gave, plain_rest, rest_group, rest_noted, rests_gave, waits_gave}
use Rattle.conn.proofs.Going.{calm, headed_calm, headed_stands, message_calm, message_stands}
use Rattle.conn.proofs.Giving.{Gave, gave_more, gave_none}
use Rattle.conn.proofs.Gating.{gate_group}
use Rattle.conn.proofs.Moving.{moves_gave, reads_gave, room_is, stream_is, moved_item}
use Rattle.conn.proofs.Passing.{up_is}
use Rattle.conn.proofs.Refusing.{heads_are, refused_by, refuses}

-- ---- bytes one by one

take_on : (n : ℕ) (u : List ℕ) → take 1 u ++ take n (drop 1 u) ≡ take (suc n) u
take_on zero [] = refl
take_on (suc n) [] = refl
take_on n (b ∷ u) = refl

drop_on : (n : ℕ) (u : List ℕ) → drop n (drop 1 u) ≡ drop (suc n) u
drop_on zero [] = refl
drop_on (suc n) [] = refl
drop_on n (b ∷ u) = refl

none_moved : (side : Side) (e : Ends) → moved_as side 0 [] e ≡ e
none_moved Client e = ap (λ q. record e { server = record e.server { queued = q } }) (append-nil e.server.queued)
none_moved Server e = ap (λ q. record e { client = record e.client { queued = q } }) (append-nil e.client.queued)

-- a byte, and then n more
abbrev one_moved : Side → Ends → Ends
one_moved side e = moved_as side 1 (take 1 (end_of side e).unread) e

moved_on : (side : Side) (n : ℕ) (e : Ends) → moved_as side n (take n (end_of side (one_moved side e)).unread) (one_moved side e) ≡ moved_as side (suc n) (take (suc n) (end_of side e).unread) e
moved_on Client n e =
    let u = e.client.unread in
    ap (λ x. record e { client = record e.client { unread = x }; server = record e.server { queued = (e.server.queued ++ take 1 u) ++ take n (drop 1 u) } }) (drop_on n u)
    ∙ ap (λ x. record e { client = record e.client { unread = drop (suc n) u }; server = record e.server { queued = x } }) (append_assoc e.server.queued (take 1 u) (take n (drop 1 u)) ∙ ap (λ x. e.server.queued ++ x) (take_on n u))
moved_on Server n e =
    let u = e.server.unread in
    ap (λ x. record e { server = record e.server { unread = x }; client = record e.client { queued = (e.client.queued ++ take 1 u) ++ take n (drop 1 u) } }) (drop_on n u)
    ∙ ap (λ x. record e { server = record e.server { unread = drop (suc n) u }; client = record e.client { queued = x } }) (append_assoc e.client.queued (take 1 u) (take n (drop 1 u)) ∙ ap (λ x. e.client.queued ++ x) (take_on n u))

abbrev one_passed : Side → Passage → Passage
one_passed side p = piece_passed side 1 p

passed_on : (side : Side) (n : ℕ) (p : Passage) → piece_passed side n (one_passed side p) ≡ piece_passed side (suc n) p
passed_on side n p = ap (λ e. record { at = record p.at { reader = after_bytes (suc n) p.at.reader }; ends = e }) (moved_on side n p.ends)

none_passed : (side : Side) (p : Passage) → piece_passed side 0 p ≡ p
none_passed side p = ap (λ e. record { at = p.at; ends = e }) (none_moved side p.ends)

-- of a side that has some bytes
some_front : (u : List ℕ) (n : ℕ) → suc n ≤ length u → (b : ℕ) × (rest : List ℕ) × (u ≡ b ∷ rest)
some_front [] n some = absurd (omega (arith, some))
some_front (b ∷ u) n some = (b, u, refl)

-- what waits grows by what is queued, or stays nothing
grown_by : (reset : Bool) (q bytes : List ℕ) (n : ℕ) → length bytes ≤ n → length (if reset then [] else (q ++ bytes)) ≤ length (if reset then [] else q) + n
grown_by true q bytes n few = omega arith
grown_by false q bytes n few = let k = length-append q bytes in omega (arith, few, k)

waiting_on : (side : Side) (e : Ends) → waiting side (one_moved side e) ≤ waiting side e + 1
waiting_on Client e = grown_by e.server.reset e.server.queued (take 1 e.client.unread) 1 (one_at_most e.client.unread)
  where
    one_at_most : (u : List ℕ) → length (take 1 u) ≤ 1
    one_at_most [] = omega arith
    one_at_most (b ∷ u) = omega arith
waiting_on Server e = grown_by e.client.reset e.client.queued (take 1 e.server.unread) 1 (one_at_most e.server.unread)
  where
    one_at_most : (u : List ℕ) → length (take 1 u) ≤ 1
    one_at_most [] = omega arith
    one_at_most (b ∷ u) = omega arith

left_on : (side : Side) (e : Ends) → (end_of side (one_moved side e)).unread ≡ drop 1 (end_of side e).unread
left_on Client e = refl
left_on Server e = refl

piece_on : (side : Side) (n : ℕ) (p : Passage) → PassesPiece side (suc n) p → PassesPiece side n (one_passed side p)
piece_on side n p k = record {
  holds = holds_on p.at.reader n k.holds;
  there = (let d = length-drop 1 (end_of side p.ends).unread in let m = ap length (left_on side p.ends) in let t = k.there in omega (arith, d, m, t));
  room = (let w = waiting_on side p.ends in let r = k.room in omega (arith, w, r));
}

module _ (s : code_setup.Setup) (g : Setup) (serves : Serves s g) (a : Around) (c : ℕ) (base : Conn) (side : Side) where
  abbrev on : Passage → Conn
  on p = passed_to side p base

  -- it went from one place of a body to another
  abbrev Went : TraceState → Passage → Passage → Type 0
  Went l p q = (at : TraceState) × Gave g a l at c (on p) (on q) [] []

  module _ (l : TraceState) (p : Passage) (h : Holds g a l (on p)) where
    up : p.ends.link ≡ link.Up
    up = up_is p.ends.link h.fits

    b : Between l (on p)
    b = h.stage.1

    pub step : next_item g l ≡ counted l.sent (sending_next g l side p.at.reader p.at.standing (part_at side p))
    step =
        plain_next g l h.no_cut
        ∙ ap (λ x. counted l.sent (phase_next g x l)) h.stage.0
        ∙ ap (λ t. counted l.sent (sending_next g l side p.at.reader p.at.standing (part_of p.at.reader t.unread t.ended))) (stream_is a l p.ends h.ends up side)

    went_one : ActGave g a l c (on p) (on (one_passed side p)) [] done.Goes → Went l p (one_passed side p)
    went_one k = (k.at, k.gave)

    -- a byte goes over
    one_goes : (n : ℕ) → PassesPiece side (suc n) p → Went l p (one_passed side p)
    one_goes n k =
        let u = (end_of side p.ends).unread in
        let front = some_front u n k.there in
        let part : part_at side p ≡ Byte = ap (λ x. part_of p.at.reader x (end_of side p.ends).ended) front.2 ∙ byte_here p.at.reader n front.0 front.1 (end_of side p.ends).ended k.holds in
        let r = after_byte p.at.reader in
        let ph = Forwarding side r p.at.standing in
        let item : next_item g l ≡ counted l.sent (moves_next l side 1 (take 1 u) ph) =
        step ∙ ap (λ x. counted l.sent (sending_next g l side p.at.reader p.at.standing x)) part
        ∙ ap (λ t. counted l.sent (moves_next l side 1 (take 1 t.unread) ph)) (stream_is a l p.ends h.ends up side) in
        let room : ends_room side p.ends ≡ true = (let m = k.room in lt-ltb (waiting side p.ends) room_limit (omega (arith, m))) in
        let become : Becomes (stage.Forwarding side r p.at.standing) (one_moved side p.ends) (on p) (on (one_passed side p)) = record { there = refl; vars = refl; host = refl; ends = refl } in
        went_one (moves_gave g a l c (on p) (on (one_passed side p)) h b up (h.finished) side 1 (stage.Forwarding side r p.at.standing) ph (calm _ _ refl refl refl refl (λ e. tt)) (take 1 u) item room become (λ at e x. (e, x)))

    -- a chunk line does
    line_goes : (line size : ℕ) → PassesLine side line size p → Went l p (line_passed side line size p)
    line_goes line size k =
        let q = line_passed side line size p in
        let ph = Forwarding side (body.Chunk size) true in
        let text = chunk_line p.at.standing size in
        let item : next_item g l ≡ counted l.sent (moves_next l side line text ph) = step ∙ ap (λ x. counted l.sent (sending_next g l side p.at.reader p.at.standing x)) k.part in
        let become : Becomes (stage.Forwarding side (body.Chunk size) true) (moved_as side line text p.ends) (on p) (on q) = record { there = refl; vars = refl; host = refl; ends = refl } in
        let gave = moves_gave g a l c (on p) (on q) h b up (h.finished) side line (stage.Forwarding side (body.Chunk size) true) ph (calm _ _ refl refl refl refl (λ e. tt)) text item k.room become (λ at e x. (e, x)) in
        (gave.at, gave.gave)

  -- one way after another
  went_on : (l : TraceState) (p q r : Passage) → l.answers.cut ≡ None → (w : Went l p q) → Went w.0 q r → Went l p r
  went_on l p q r none w v = (v.0, gave_more g a l w.0 v.0 c (on p) (on q) (on r) [] [] none w.1 v.1)

  piece_goes : (n : ℕ) (l : TraceState) (p : Passage) → Holds g a l (on p) → PassesPiece side n p → Went l p (piece_passed side n p)
  piece_goes zero l p h k = subst (Went l p) (sym (none_passed side p)) (l, gave_none g a l c (on p) h)
  piece_goes (suc n) l p h k =
      let q = one_passed side p in
      let w = one_goes l p h n k in
      let v = piece_goes n w.0 q w.1.holds (piece_on side n p k) in
      subst (Went l p) (passed_on side n p) (went_on l p q (piece_passed side n q) h.no_cut w v)

  unit_goes : (l : TraceState) (p q : Passage) → Holds g a l (on p) → PassesUnit side p q → Went l p q
  unit_goes l p _ h (Piece n k) = piece_goes n l p h k
  unit_goes l p _ h (Line line size k) = line_goes l p h line size k

  pub forwards : (l : TraceState) (from to : Passage) → Holds g a l (on from) → Forwards side from to → Went l from to
  forwards l from _ h NotYet = (l, gave_none g a l c (on from) h)
  forwards l from _ h (Then p q f u) =
      let w = forwards l from p h f in
      went_on l from p q h.no_cut w (unit_goes w.0 p q w.1.holds u)

-- ---- what stands in front

-- the notes there
abbrev pub message_group : Side → HttpFault → ℕ → List Note
message_group side f c = refused_by (is_answered side f) f c

abbrev pub end_group : (counted room : Bool) → ℕ → Conn → List Note
end_group true room c mid = []
end_group false room c mid = gate_group room c (cut_of mid)

abbrev pub part_group : Part → Side → (reader : BodyState) → ℕ → Conn → List Note
part_group Byte side reader c mid = rest_group c (cut_of mid)
part_group (Chunk line size) side reader c mid = rest_group c (cut_of mid)
part_group (End n) side reader c mid = end_group (is_counted reader) (ends_room side mid.ends) c mid
part_group Pending side reader c mid = rest_group c (cut_by (is_server side) mid)
part_group (Bad f) side reader c mid = message_group side f c

pub end_noted : (s : code_setup.Setup) (c : ℕ) (mid new : Conn) (before after : List Note) (did : step_act.Act) (side : Side) (standing : Bool) (n : ℕ) (x : Bool) → EndsBy x side standing n s c mid new before after did → after ≡ before ++ end_group x (ends_room side mid.ends) c mid
end_noted s c mid new before after did side standing n true k = k.2 ∙ sym (append-nil before)
end_noted s c mid new before after did side standing n false k = by_room (ends_room side mid.ends) k
  where
    by_room : (r : Bool) → MatchBool r ((did ≡ done.Goes) × Becomes (message_stage side mid.host) (moved_as side n (last_line standing) mid.ends) mid new × (after ≡ before)) (Rests s c mid new before after did) → after ≡ before ++ gate_group r c (cut_of mid)
    by_room true k = k.2 ∙ sym (append-nil before)
    by_room false k = rest_noted s c mid new before after did (cut_of mid) k

pub part_noted : (s : code_setup.Setup) (c : ℕ) (mid new : Conn) (before after : List Note) (did : step_act.Act) (side : Side) (reader : BodyState) (standing : Bool) (p : Part) → FrontBy p side reader standing s c mid new before after did → after ≡ before ++ part_group p side reader c mid
part_noted s c mid new before after did side reader standing Byte k = rest_noted s c mid new before after did (cut_of mid) k.1
part_noted s c mid new before after did side reader standing (Chunk line size) k = rest_noted s c mid new before after did (cut_of mid) k.1
part_noted s c mid new before after did side reader standing (End n) k = end_noted s c mid new before after did side standing n (is_counted reader) k
part_noted s c mid new before after did side reader standing Pending k = rest_noted s c mid new before after did (cut_by (is_server side) mid) k
part_noted s c mid new before after did side reader standing (Bad f) k = by_answer (is_answered side f) k
  where
    by_answer : (x : Bool) → RefusesBy x f s c mid new before after did → after ≡ before ++ refused_by x f c
    by_answer true k = k.2 ∙ sym (append-nil before)
    by_answer false k = k.1.1

module _ (s : code_setup.Setup) (g : Setup) (serves : Serves s g) (a : Around) (l : TraceState) (c : ℕ) (base new : Conn) (side : Side) (p : Passage) (h : Holds g a l (passed_to side p base)) (spoken : is_some base.host.http ≡ true) where
  abbrev mid : Conn
  mid = passed_to side p base

  between : Between l mid
  between = h.stage.1

  going : l.finished ≡ false
  going = h.finished

  there : p.ends.link ≡ link.Up
  there = up_is p.ends.link h.fits

  here : next_item g l ≡ counted l.sent (sending_next g l side p.at.reader p.at.standing (part_at side p))
  here = step s g serves a c base side l p h

  at_part : (x : Part) → part_at side p ≡ x → next_item g l ≡ counted l.sent (sending_next g l side p.at.reader p.at.standing x)
  at_part x is = here ∙ ap (λ y. counted l.sent (sending_next g l side p.at.reader p.at.standing y)) is

  message_is : (n : ℕ) (bytes : List ℕ) → counted l.sent (moves_next l side n bytes (behind_message side l.host)) ≡ counted l.sent (moves_next l side n bytes (behind_message side (seen_host base.host)))
  message_is n bytes = ap (λ hs. counted l.sent (moves_next l side n bytes (behind_message side hs))) between.host

  read_is : (n : ℕ) → counted l.sent (reads_next l side n (place (behind_message side l.host) l.host)) ≡ counted l.sent (reads_next l side n (place (behind_message side (seen_host base.host)) l.host))
  read_is n = ap (λ hs. counted l.sent (reads_next l side n (place (behind_message side hs) l.host))) between.host

  -- where there is no room it rests
  shut : (n : ℕ) (bytes : List ℕ) (ph : Phase) (before after : List Note) (did : step_act.Act) → next_item g l ≡ counted l.sent (moves_next l side n bytes ph) → ends_room side p.ends ≡ false → Rests s c mid new before after did → ActGave g a l c mid new (rest_group c (cut_of mid)) did
  shut n bytes ph before after did item room k =
      let stop : GivesNoMore false l.sent a.took (next_item g l) = subst (λ o. GivesNoMore false l.sent a.took o) (sym item) (room_is a l p.ends h.ends side n bytes ∙ room) in
      rests_gave s g serves a l c mid new h between before after did refl stop (ap plain_rest item) k

  by_end : (n : ℕ) (before after : List Note) (did : step_act.Act) (x : Bool) → next_item g l ≡ counted l.sent (body_end_next l side n x p.at.standing) → EndsBy x side p.at.standing n s c mid new before after did → ActGave g a l c mid new (end_group x (ends_room side p.ends) c mid) did
  by_end n before after did true item (goes, k, none) =
      subst (λ d. ActGave g a l c mid new [] d) (sym goes)
      (reads_gave g a l c mid new h between there going side n (message_stage side base.host) (behind_message side (seen_host base.host)) (message_calm side base.host) (item ∙ read_is n) k (λ at e x. message_stands g at new x side base.host e))
  by_end n before after did false item k = by_room (ends_room side p.ends) refl k
    where
      by_room : (r : Bool) → ends_room side p.ends ≡ r → MatchBool r ((did ≡ done.Goes) × Becomes (message_stage side base.host) (moved_as side n (last_line p.at.standing) p.ends) mid new × (after ≡ before)) (Rests s c mid new before after did) → ActGave g a l c mid new (gate_group r c (cut_of mid)) did
      by_room true room (goes, k, none) =
          subst (λ d. ActGave g a l c mid new [] d) (sym goes)
          (moves_gave g a l c mid new h between there going side n (message_stage side base.host) (behind_message side (seen_host base.host)) (message_calm side base.host) (last_line p.at.standing) (item ∙ message_is n (last_line p.at.standing)) room k (λ at e x. message_stands g at new x side base.host e))
      by_room false room k = shut n (last_line p.at.standing) (behind_message side l.host) before after did item room k

  by_fault : (f : HttpFault) (before after : List Note) (did : step_act.Act) → next_item g l ≡ counted l.sent (fault_next g l side f) → RefusesOf side f s c mid new before after did → ActGave g a l c mid new (message_group side f c) did
  by_fault f before after did item k = by_side side item k
    where
      by_side : (x : Side) → next_item g l ≡ counted l.sent (fault_next g l x f) → RefusesOf x f s c mid new before after did → ActGave g a l c mid new (message_group x f c) did
      by_side Client item k = refuses s g serves a l c mid new h between spoken going f item before after did k
      by_side Server item (goes, k) = subst (λ d. ActGave g a l c mid new (note.Finish c (cause_for (finish.Http f)) ∷ []) d) (sym goes) (finishes_gave s g serves a l c mid new h between (finish.Http f) tt k.0 item)

  pub fronts : (before after : List Note) (did : step_act.Act) → FrontBy (part_at side p) side p.at.reader p.at.standing s c mid new before after did → ActGave g a l c mid new (part_group (part_at side p) side p.at.reader c mid) did
  fronts before after did k = by_part (part_at side p) refl k
    where
      by_part : (x : Part) → part_at side p ≡ x → FrontBy x side p.at.reader p.at.standing s c mid new before after did → ActGave g a l c mid new (part_group x side p.at.reader c mid) did
      by_part Byte is (room, k) = shut 1 (take 1 (stream_of side l).unread) (Forwarding side (after_byte p.at.reader) p.at.standing) before after did (at_part Byte is) room k
      by_part (Chunk line size) is (room, k) = shut line (chunk_line p.at.standing size) (Forwarding side (body.Chunk size) true) before after did (at_part (Chunk line size) is) room k
      by_part (End n) is k = by_end n before after did (is_counted p.at.reader) (at_part (End n) is) k
      by_part Pending is k = waits_gave s g serves a l c mid new h between side before after did refl (at_part Pending is) k
      by_part (Bad f) is k = by_fault f before after did (at_part (Bad f) is) k

-- ---- from where the connection stands

pub forwards_noted : (s : code_setup.Setup) (c : ℕ) (side : Side) (reader : BodyState) (standing : Bool) (old new : Conn) (before after : List Note) (did : step_act.Act) (k : ForwardsBody side reader standing s c old new before after did) → after ≡ before ++ part_group (part_at side k.to) side k.to.at.reader c (passed_to side k.to old)
forwards_noted s c side reader standing old new before after did k = part_noted s c (passed_to side k.to old) new before after did side k.to.at.reader k.to.at.standing (part_at side k.to) k.goes

module _ (s : code_setup.Setup) (g : Setup) (serves : Serves s g) (a : Around) (l : TraceState) (c : ℕ) (old new : Conn) (h : Holds g a l old) (spoken : is_some old.host.http ≡ true) where
  pub forwards_body : (side : Side) (reader : BodyState) (standing : Bool) → old.stage ≡ stage.Forwarding side reader standing → (before after : List Note) (did : step_act.Act) (k : ForwardsBody side reader standing s c old new before after did)
      → ActGave g a l c old new (part_group (part_at side k.to) side k.to.at.reader c (passed_to side k.to old)) did
  forwards_body side reader standing is before after did k =
      let from = passage (record { reader = reader; standing = standing }) old.ends in
      let same : passed_to side from old ≡ old = ap (λ x. record old { stage = x }) (sym is) in
      let w = forwards s g serves a c old side l from k.to (subst (Holds g a l) (sym same) h) k.passes in
      let mid = passed_to side k.to old in
      let group = part_group (part_at side k.to) side k.to.at.reader c mid in
      let second = fronts s g serves a w.0 c old new side k.to w.1.holds spoken before after did k.goes in
      let first : Gave g a l w.0 c old mid [] [] = subst (λ x. Gave g a l w.0 c x mid [] []) same w.1 in
      record { at = second.at; gave = gave_more g a l w.0 second.at c old mid new [] group h.no_cut first second.gave; stops = second.stops }

pub heading_noted : (s : code_setup.Setup) (c : ℕ) (side : Side) (old new : Conn) (before after : List Note) (did : step_act.Act) → SendsHead side s c old new before after did → after ≡ before ++ gate_group (ends_room side old.ends) c (cut_of old)
heading_noted s c side old new before after did k = by_room (ends_room side old.ends) k
  where
    by_room : (r : Bool) → MatchBool r ((did ≡ done.Goes) × Becomes (headed_stage side old.host (http_in old.host).whole) (moved_as side 0 (head_bytes side (http_in old.host)) old.ends) old new × (after ≡ before)) (Rests s c old new before after did) → after ≡ before ++ gate_group r c (cut_of old)
    by_room true k = k.2 ∙ sym (append-nil before)
    by_room false k = rest_noted s c old new before after did (cut_of old) k

module _ (s : code_setup.Setup) (g : Setup) (serves : Serves s g) (a : Around) (l : TraceState) (c : ℕ) (old new : Conn) (h : Holds g a l old) (side : Side) (is : old.stage ≡ stage.Heading side) (st : Stands g (stage.Heading side) l old) (spoken : is_some old.host.http ≡ true) where
  head_up : old.ends.link ≡ link.Up
  head_up = up_is old.ends.link (sym (ap (λ x. fits x old.ends.link) is) ∙ h.fits)

  head_going : l.finished ≡ false
  head_going = h.finished ∙ ap has_finished is

  abbrev whole : Bool
  whole = (http_in old.host).whole

  abbrev phase : Phase
  phase = behind_head side (seen_host old.host) whole

  abbrev bytes : List ℕ
  bytes = head_bytes side (http_in old.host)

  head_item : next_item g l ≡ counted l.sent (moves_next l side 0 bytes phase)
  head_item =
      plain_next g l h.no_cut
      ∙ ap (λ x. counted l.sent (phase_next g x l)) st.0
      ∙ ap (λ hs. to (model_bytes g side (http_of hs)) (behind_head side hs (http_of hs).whole) l) st.1.host
      ∙ ap (λ hd. to (with_heads hd) phase l) (heads_are s g serves a l c old new h st.1 spoken head_going)
      ∙ ap (to bytes phase) (sym (none_read side l))
    where
      with_heads : Heads → List ℕ
      with_heads hd = model_bytes (record g { heads = hd }) side (http_in old.host)

      to : List ℕ → Phase → TraceState → Next
      to bytes ph m = counted l.sent (Does (moved_item l side 0 bytes) (record m { phase = ph }))

  pub sends_head : (before after : List Note) (did : step_act.Act) → SendsHead side s c old new before after did → ActGave g a l c old new (gate_group (ends_room side old.ends) c (cut_of old)) did
  sends_head before after did k = by_room (ends_room side old.ends) refl k
    where
      by_room : (r : Bool) → ends_room side old.ends ≡ r → MatchBool r ((did ≡ done.Goes) × Becomes (headed_stage side old.host whole) (moved_as side 0 bytes old.ends) old new × (after ≡ before)) (Rests s c old new before after did) → ActGave g a l c old new (gate_group r c (cut_of old)) did
      by_room true room (goes, k, none) =
          subst (λ d. ActGave g a l c old new [] d) (sym goes)
          (moves_gave g a l c old new h st.1 head_up head_going side 0 (headed_stage side old.host whole) phase (headed_calm side old.host whole) bytes head_item room k (λ at e x. headed_stands g at new x side old.host whole e))
      by_room false room k =
          let stop : GivesNoMore false l.sent a.took (next_item g l) = subst (λ o. GivesNoMore false l.sent a.took o) (sym head_item) (room_is a l old.ends h.ends side 0 bytes ∙ room) in
          rests_gave s g serves a l c old new h st.1 before after did (ap is_in_body is) stop (ap plain_rest head_item) k

-- where there is no room a head waits, and the end of a chunked body
pub heading_rests : (s : code_setup.Setup) (c : ℕ) (side : Side) (old new : Conn) (before after : List Note) (did : step_act.Act) → ends_room side old.ends ≡ false → Rests s c old new before after did → SendsHead side s c old new before after did
heading_rests s c side old new before after did full k = subst (λ b. MatchBool b ((did ≡ done.Goes) × Becomes (headed_stage side old.host (http_in old.host).whole) (moved_as side 0 (head_bytes side (http_in old.host)) old.ends) old new × (after ≡ before)) (Rests s c old new before after did)) (sym full) k

pub end_rests : (s : code_setup.Setup) (c : ℕ) (side : Side) (standing : Bool) (n : ℕ) (old new : Conn) (before after : List Note) (did : step_act.Act) (x : Bool) → x ≡ false → ends_room side old.ends ≡ false → Rests s c old new before after did → EndsBy x side standing n s c old new before after did
end_rests s c side standing n old new before after did x is full k =
    subst (λ y. EndsBy y side standing n s c old new before after did) (sym is)
    (subst (λ b. MatchBool b ((did ≡ done.Goes) × Becomes (message_stage side old.host) (moved_as side n (last_line standing) old.ends) old new × (after ≡ before)) (Rests s c old new before after did)) (sym full) k)

pub end_counted : (s : code_setup.Setup) (c : ℕ) (side : Side) (standing : Bool) (n : ℕ) (old new : Conn) (before after : List Note) (did : step_act.Act) (x : Bool) → x ≡ true → (did ≡ done.Goes) × Becomes (message_stage side old.host) (read_ends side n old.ends) old new × (after ≡ before) → EndsBy x side standing n s c old new before after did
end_counted s c side standing n old new before after did x is k = subst (λ y. EndsBy y side standing n s c old new before after did) (sym is) k

pub end_sent : (s : code_setup.Setup) (c : ℕ) (side : Side) (standing : Bool) (n : ℕ) (old new : Conn) (before after : List Note) (did : step_act.Act) (x : Bool) → x ≡ false → ends_room side old.ends ≡ true → (did ≡ done.Goes) × Becomes (message_stage side old.host) (moved_as side n (last_line standing) old.ends) old new × (after ≡ before) → EndsBy x side standing n s c old new before after did
end_sent s c side standing n old new before after did x is room k =
    subst (λ y. EndsBy y side standing n s c old new before after did) (sym is)
    (subst (λ b. MatchBool b ((did ≡ done.Goes) × Becomes (message_stage side old.host) (moved_as side n (last_line standing) old.ends) old new × (after ≡ before)) (Rests s c old new before after did)) (sym room) k)
