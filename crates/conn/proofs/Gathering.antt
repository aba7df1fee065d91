-- The units of a body are gathered: the next items of each state that the connection may stand for.
use Rattle.std.proofs.Common.{◌≡◌, refl, sym, ap, subst, ◌∙◌, ℕ, suc, ◌+◌, ◌-◌, ◌≤◌, [], ◌++◌, take, drop, length, length-take-le, arith}
use Rattle.std.proofs.lemmas.List.{take-append-drop}
use Rattle.px_bytes.specs.declared.addr.Side.{Side}
use Rattle.http_frames.specs.Parts.{Chunk, part_of}
use Rattle.http_frames.specs.declared.state.BodyState.TheVariants as body
use Rattle.conn_trace.specs.Host.{http_of}
use Rattle.conn_trace.specs.Http.{with_gathered}
use Rattle.conn_trace.specs.Item.{Read}
use Rattle.conn_trace.specs.Messages.{gathering_next, http_at}
use Rattle.conn_trace.specs.Setup.{Setup}
use Rattle.conn_trace.specs.State.{Gathering, Stream, TraceState, Does, read_side, stream_of}
use Rattle.conn_trace.specs.Trace.{Unfolds, counted, next_item, phase_next}
use Rattle.conn_trace.specs.Units.{GoesOn, after_bytes, gathered_bytes, gathering_at, read_items}
use Rattle.conn_trace.proofs.Longer.{plain_next}
use Rattle.conn_trace.proofs.Slices.{gathered_unfold}
use Rattle.conn.specs.Ends.{end_of, is_up}
use Rattle.conn.specs.Events.{gathered_at}
use Rattle.conn.specs.Gathering.{Gathered, Gathers, GathersPiece, GathersUnit, Line, NoneYet, Piece, Then, gathered_to, http_of_host, line_gathered, part_there, piece_gathered}
use Rattle.conn.specs.Holds.{Around, Holds, HoldsEnds}
use Rattle.conn.specs.Hosts.{seen_host}
use Rattle.conn.specs.Relaying.{read_ends}
use Rattle.conn.specs.Servers.{queue_at_server}
use Rattle.conn.specs.Setups.{Serves}
use Rattle.conn.specs.Stages.{at_fits, fits}
use Rattle.conn.specs.declared.connection.Conn.{Conn}
use Rattle.conn.specs.declared.setup.Setup as code_setup
use Rattle.conn.specs.declared.stage.Stage.TheVariants as stage
use Rattle.conn.proofs.Giving.{Gave, gave_more, gave_none, gave_one, quiet_queue}
use Rattle.conn.proofs.Moving.{keeps_answers, keeps_finished, keeps_vars, read_link}
use Rattle.conn.proofs.GatherReads.{gave_reads, client_stays, servers_stay, edges_stay, ends_read, stream_there, gathered_some}

-- ---- where it stands

module _ (s : code_setup.Setup) (g : Setup) (serves : Serves s g) (a : Around) (c : ℕ) (base : Conn) (side : Side) where
  abbrev on : Gathered → Conn
  on p = gathered_to side p base

  abbrev Went : TraceState → Gathered → Gathered → Type 0
  Went l p q = (at : TraceState) × Gave g a l at c (on p) (on q) [] []

  -- behind bytes that were read it stands there
  stands_on : (l at : TraceState) (n : ℕ) (p q : Gathered) → Holds g a l (on p) → q.ends ≡ read_ends side n p.ends → at.phase ≡ Gathering side q.at.wanted q.at.reader → at.vars ≡ l.vars → at.host ≡ seen_host (http_of_host q.http base.host) → at.answers ≡ l.answers → at.finished ≡ l.finished
      → at.client ≡ (read_side side n l).client → at.server ≡ (read_side side n l).server → at.sent ≡ l.sent → Holds g a at (on q)
  stands_on l at n p q h is phase vars host answers finished client server sent =
      let linked : q.ends.link ≡ p.ends.link = ap (λ e. e.link) is ∙ read_link side n p.ends in
      record {
        stage = (phase, record { vars = vars ∙ h.stage.1.vars; host = host; replies = ap (λ x. x.replies) answers ∙ h.stage.1.replies });
        finished = finished ∙ h.finished;
        fits = ap (at_fits (gathered_at side)) linked ∙ h.fits;
        event = tt;
        told = record { from = h.told.from; relays = λ e. ap is_up linked ∙ h.told.relays e; spoken = h.told.spoken };
        ends = subst (λ e. HoldsEnds a at e) (sym is) (ends_read side a l at n p.ends h.ends h.fits client server (ap (λ x. x.connects) answers) sent);
        no_choice = ap (λ x. x.choices) answers ∙ h.no_choice;
        no_cut = ap (λ x. x.cut) answers ∙ h.no_cut;
      }

  pub step : (l : TraceState) (p : Gathered) → Holds g a l (on p) → next_item g l ≡ counted l.sent (gathering_next g l side p.at.wanted p.at.reader (part_there side p))
  step l p h =
      plain_next g l h.no_cut
      ∙ ap (λ x. counted l.sent (phase_next g x l)) h.stage.0
      ∙ ap (λ (t : Stream). counted l.sent (gathering_next g l side p.at.wanted p.at.reader (part_of p.at.reader t.unread t.ended))) (stream_there side a l p.ends h.ends h.fits)

  -- a piece, byte by byte
  piece_goes : (l : TraceState) (p : Gathered) (n : ℕ) → Holds g a l (on p) → GathersPiece side n p → Went l p (piece_gathered side n p)
  piece_goes l p n h k =
      let u = (end_of side p.ends).unread in
      let from = p.at.reader in
      let bytes = take n u in
      let r = after_bytes n from in
      let q = piece_gathered side n p in
      let w = p.at.wanted - n - 1 in
      let len : length bytes ≡ n = length-take-le n u k.there in
      let split : (stream_of side l).unread ≡ bytes ++ drop n u = ap (λ (t : Stream). t.unread) (stream_there side a l p.ends h.ends h.fits) ∙ sym (take-append-drop n u) in
      let all : length bytes + suc w ≡ p.at.wanted = (let m = k.more in omega (arith, len, m)) in
      let left : suc w ≡ p.at.wanted - n = (let m = k.more in omega (arith, m)) in
      let here : gathering_at side (length bytes + suc w) from l.host l.sent l ≡ l = ap (λ m. gathering_at side m from l.host l.sent l) all ∙ ap (λ x. record l { phase = x }) (sym h.stage.0) in
      let host = seen_host (http_of_host q.http base.host) in
      let some : 1 ≤ length bytes = (let m = k.some in omega (arith, len, m)) in
      let hosts : gathered_bytes bytes from l.host ≡ host =
      gathered_some bytes from l.host some ∙ ap (λ j. http_at (with_gathered bytes (after_bytes j from) (http_of l.host)) l.host) len ∙ ap (λ hs. http_at (with_gathered bytes r (http_of hs)) hs) h.stage.1.host in
      let at = gathering_at side (p.at.wanted - n) r host l.sent (read_side side n l) in
      let to : gathering_at side (suc w) (after_bytes (length bytes) from) (gathered_bytes bytes from l.host) l.sent (read_side side (length bytes) l) ≡ at =
      ap (λ m. gathering_at side m (after_bytes (length bytes) from) (gathered_bytes bytes from l.host) l.sent (read_side side (length bytes) l)) left
      ∙ ap (λ j. gathering_at side (p.at.wanted - n) (after_bytes j from) (gathered_bytes bytes from l.host) l.sent (read_side side j l)) len
      ∙ ap (λ hs. gathering_at side (p.at.wanted - n) r hs l.sent (read_side side n l)) hosts in
      let unfolds = gathered_unfold g l side from w l.host bytes (drop n u) l.sent h.no_cut split (subst (λ j. GoesOn j from) (sym len) k.goes_on) in
      let items : Unfolds g l (read_items side bytes) at = subst (λ x. Unfolds g x (read_items side bytes) at) here (subst (λ x. Unfolds g (gathering_at side (length bytes + suc w) from l.host l.sent l) (read_items side bytes) x) to unfolds) in
      let holds = stands_on l at n p q h refl refl (keeps_vars side n l) refl (keeps_answers side n l) (keeps_finished side n l) refl refl refl in
      (at, gave_reads g a l at c (on p) (on q) side bytes h.no_cut items holds (client_stays side n p.ends) (servers_stay side n p.ends) (edges_stay side n p.ends) (λ f. keeps_finished side n l ∙ f))

  -- a chunk line
  line_goes : (l : TraceState) (p : Gathered) (line size : ℕ) → Holds g a l (on p) → part_there side p ≡ Chunk line size → Went l p (line_gathered side line size p)
  line_goes l p line size h part =
      let q = line_gathered side line size p in
      let at : TraceState = record (read_side side line l) { phase = Gathering side p.at.wanted (body.Chunk size); host = l.host; sent = l.sent } in
      let item : next_item g l ≡ Does (Read side line) at = step l p h ∙ ap (λ x. counted l.sent (gathering_next g l side p.at.wanted p.at.reader x)) part in
      let holds = stands_on l at line p q h refl refl (keeps_vars side line l) h.stage.1.host (keeps_answers side line l) (keeps_finished side line l) refl refl refl in (
        at,
        gave_one g a l at c (on p) (on q) (Read side line) h.no_cut (record { calls = refl; client = refl; to_none = refl; opens = λ c s t. refl; takes = (refl, λ t. refl) }) item refl holds
            (client_stays side line p.ends) (servers_stay side line p.ends ∙ sym (quiet_queue (queue_at_server p.ends))) (edges_stay side line p.ends) (λ f. keeps_finished side line l ∙ f),
      )

  unit_goes : (l : TraceState) (p q : Gathered) → Holds g a l (on p) → GathersUnit side p q → Went l p q
  unit_goes l p _ h (Piece n k) = piece_goes l p n h k
  unit_goes l p _ h (Line line size part) = line_goes l p line size h part

  pub gathers : (l : TraceState) (from to : Gathered) → Holds g a l (on from) → Gathers side from to → Went l from to
  gathers l from _ h NoneYet = (l, gave_none g a l c (on from) h)
  gathers l from _ h (Then p q before u) =
      let w = gathers l from p h before in
      let v = unit_goes w.0 p q w.1.holds u in
      (v.0, gave_more g a l w.0 v.0 c (on from) (on p) (on q) [] [] h.no_cut w.1 v.1)
