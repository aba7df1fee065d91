-- A server connection that is asked for, or is made behind the finish: the trace has none then, along items and where more comes.
use Rattle.std.proofs.Common.{◌≡◌, refl, sym, ap, subst, ◌∙◌, ℕ, ◌≤◌, List, [], ◌∷◌, ◌++◌, append-nil, length, Bool, true, false, true≢false, ◌||◌, Option, Some, None, is_some, if◌then◌else◌}
use Rattle.px_bytes.specs.declared.addr.Addr.{Addr}
use Rattle.px_bytes.specs.declared.addr.Side.TheVariants.{Client, Server}
use Rattle.core_events.specs.declared.edges.Edges.{Edges}
use Rattle.core_events.specs.declared.edges.EdgeState.{EdgeState}
use Rattle.core_events.specs.declared.event_kind.EventKind.TheVariants.{Comes, Runs, Turns}
use Rattle.core_events.specs.declared.input.Input.{Input}
use Rattle.core_events.specs.declared.input.Input.TheVariants.{Bytes, Ends, Resets, Connects, Takes}
use Rattle.core_events.specs.declared.note.Note.{Note}
use Rattle.core_events.specs.declared.note.Note.TheVariants.{CloseServer}
use Rattle.core_events.specs.Edges.{answered_edge, edges_noted, is_connecting}
use Rattle.conn_trace.specs.Further.{Coming, Further, longer, on_last}
use Rattle.conn_trace.specs.Gates.{Counts, Met, TakenCounts, sent_after}
use Rattle.conn_trace.specs.Heard.{Heard, edges_met, hears, late_by}
use Rattle.conn_trace.specs.Item.{Item, Answered, Connected, Passed, Retires}
use Rattle.conn_trace.specs.Phases.{Steps}
use Rattle.conn_trace.specs.Setup.{Setup}
use Rattle.conn_trace.specs.State.{Asked, Link, Stream, TraceState, link_of}
use Rattle.conn_trace.specs.Tellings.{finish_told, notes_about}
use Rattle.conn_trace.specs.Trace.{Unfolds}
use Rattle.conn_trace.proofs.Given.{sent_step}
use Rattle.conn_trace.proofs.Stepping.{steps}
use Rattle.conn_trace.proofs.Streams.{link_same}
use Rattle.conn.specs.Calls.{unless_finished}
use Rattle.conn.specs.Servers.{run_notes}
use Rattle.conn.specs.Settling.{is_given_up, note_if}
use Rattle.proxy_core.specs.Live.{further_in}
use Rattle.record_model.specs.Refusal.{answers_nothing}
use Rattle.proxy_core.specs.Servers.{LateServer, Linked, awaits, has_server, is_serving, serves_at}
use Rattle.proxy_core.proofs.EdgeNotes.{edges_joined}
use Rattle.proxy_core.proofs.Linking.{few_wait, last_one, none_waits, notes_parts, step_linked, step_notes}
use Rattle.proxy_core.proofs.LinkedComes.{was_true}
use Rattle.proxy_core.proofs.Members.{eq_self}
use Rattle.proxy_core.proofs.ServerGone.{never}
use Rattle.proxy_core.proofs.ServerLaws.{Ordered, ordered_step, side_of, went_on}
use Rattle.proxy_core.proofs.ServerPhases.{Asking, Quiet, SideBy, Taking, link_by}

-- ---- along items

served_has : (k : Link) (cs : List (Option Stream)) → is_serving k ≡ true → has_server k cs ≡ true
served_has k [] e = ap (λ b. b || is_given_up k) e
served_has k (None ∷ cs) e = ap (λ b. b || is_given_up k) e
served_has k (Some s ∷ cs) e = refl

same_has : (k m : Link) (cs ds : List (Option Stream)) → is_serving m ≡ is_serving k → is_given_up m ≡ is_given_up k → ds ≡ cs → has_server m ds ≡ has_server k cs
same_has k m cs ds serves given e = ap (has_server m) e ∙ by_connects cs
  where
    link : (is_serving m || is_given_up m) ≡ (is_serving k || is_given_up k)
    link = ap (λ b. b || is_given_up m) serves ∙ ap (λ b. is_serving k || b) given

    by_connects : (cs : List (Option Stream)) → has_server m cs ≡ has_server k cs
    by_connects [] = link
    by_connects (None ∷ more) = link
    by_connects (Some s ∷ more) = refl

asking_none : (took : TakenCounts) (l m : TraceState) (to : Addr) (s : EdgeState) → Asking l.phase l to m → Linked l.finished took l s → serves_at m ≡ false
asking_none took l m to s k lk =
    ap (λ v. has_server (link_of v) m.answers.connects) k.server ∙ ap (has_server Asked) (k.connects ∙ none_waits l.finished took l s lk (ap awaits k.was))

taking_none : (took : TakenCounts) (l m : TraceState) (made : Bool) (s : EdgeState) → Taking l.phase l made m → Linked l.finished took l s → serves_at l ≡ false → serves_at m ≡ false
taking_none took l m made s k lk none = by_answer k.answer refl
  where
    few : length (k.answer ∷ k.more) ≤ 1
    few = subst (λ cs. length cs ≤ 1) k.is (few_wait l.finished took l s lk (ap awaits k.was))

    by_answer : (o : Option Stream) → k.answer ≡ o → serves_at m ≡ false
    by_answer (Some t) e = absurd (true≢false (sym (ap (has_server (link_of l.server)) (k.is ∙ ap (λ o. o ∷ k.more) e)) ∙ none))
    by_answer None e =
        let refused : made ≡ false = sym k.made_is ∙ ap is_some e in
        ap (λ x. has_server x m.answers.connects) (k.link ∙ ap link_by refused) ∙ ap (has_server (link_by false)) (k.connects ∙ last_one k.answer k.more few)

quiet_none : (l m : TraceState) (i : Item) → Quiet i l.phase l m → serves_at l ≡ false → serves_at m ≡ false
quiet_none l m i k none = same_has (link_of l.server) (link_of m.server) l.answers.connects m.answers.connects k.serves k.given k.connects ∙ none

-- Where the trace has none, its next state has none; nothing was made behind the finish before that.
pub record LateOn (late : Bool) (l : TraceState) (s : EdgeState) : Type 0 where
  pub going : l.finished ≡ false → late ≡ false
  pub gone : late ≡ true → serves_at l ≡ false
  pub asked : is_connecting s ≡ true → (late ≡ false) × (serves_at l ≡ false)

late_then : (late : Bool) (l m : TraceState) (s s' : EdgeState) → (m.finished ≡ false → l.finished ≡ false) → (serves_at l ≡ false → serves_at m ≡ false) → (is_connecting s' ≡ true → is_connecting s ≡ true) → LateOn late l s → LateOn late m s'
late_then late l m s s' going none asks on = record {
  going = λ x. on.going (going x);
  gone = λ x. none (on.gone x);
  asked = λ x. (let w = on.asked (asks x) in (w.0, none w.1));
}

closed_asks : (b : Bool) (c : ℕ) (e : Edges) → is_connecting (edges_noted (note_if b (CloseServer c)) e).server.state ≡ true → is_connecting e.server.state ≡ true
closed_asks true c e is = never is
closed_asks false c e is = is

late_step : (late : Bool) (took : TakenCounts) (l m : TraceState) (i : Item) (c : ℕ) (e : Edges) → Steps l i m → SideBy i l.phase l m → Linked l.finished took l e.server.state → LateOn late l e.server.state
    → LateOn late m (edges_noted (step_notes c l.sent took i) e).server.state
late_step late took l m (Connected to) c e s k lk on = record {
  going = λ x. on.going (went_on l m (Connected to) s x);
  gone = λ x. asking_none took l m to e.server.state k lk;
  asked = λ x. (on.going k.going_on, asking_none took l m to e.server.state k lk);
}
late_step late took l m (Answered made) c e s k lk on = late_then late l m e.server.state e.server.state (went_on l m (Answered made) s) (taking_none took l m made e.server.state k lk) (λ x. x) on
late_step late took l m Retires c e s k lk on =
    late_then late l m e.server.state _ (went_on l m Retires s) (λ none. absurd (true≢false (sym (served_has (link_of l.server) l.answers.connects k.served) ∙ none))) (closed_asks _ c e) on
late_step late took l m (Passed from to bytes) c e s k lk on = late_then late l m e.server.state e.server.state (went_on l m (Passed from to bytes) s) (quiet_none l m (Passed from to bytes) k) (λ x. x) on
late_step late took l m other c e s k lk on = late_then late l m e.server.state e.server.state (went_on l m other s) (quiet_none l m other k) (λ x. x) on

pub run_late : (late : Bool) (g : Setup) (took : TakenCounts) (l m : TraceState) (items : List Item) (c : ℕ) (e : Edges) → Ordered l → Linked l.finished took l e.server.state → Met l.sent took items → Unfolds g l items m → LateOn late l e.server.state
    → LateOn late m (edges_noted (run_notes c l.sent took items) e).server.state
run_late late g took l m [] c e h lk met is on = subst (λ x. LateOn late x e.server.state) is on
run_late late g took l m (i ∷ items) c e h lk met (mid, step, rest) on =
    let side = side_of g l mid i h step in
    let sent = sent_step g l mid i step in
    let by = steps g l mid i h.orderly step in
    let front = step_notes c l.sent took i in
    let e' = edges_noted front e in
    let r = run_late late g took mid m items c e' (ordered_step g l mid i h step) (step_linked took l mid i c e by sent side lk) (subst (λ s. Met s took items) (sym sent) met.1) rest (late_step late took l mid i c e by side lk on) in
    let back = run_notes c (sent_after i l.sent) took items in
    let all : run_notes c l.sent took (i ∷ items) ≡ front ++ back = notes_parts c l.sent took i items in
    let L : Counts → Type 0 = λ s. LateOn late m (edges_noted (run_notes c s took items) e').server.state in
    let M : Edges → Type 0 = λ x. LateOn late m x.server.state in
    subst M (sym (ap (λ ns. edges_noted ns e) all ∙ edges_joined front back e)) (subst L sent r)

-- ---- where more comes

last_has : (c : Coming) (k : Link) (cs : List (Option Stream)) → has_server k (on_last c cs) ≡ has_server k cs
last_has c k [] = refl
last_has c k (None ∷ more) = refl
last_has c k (Some s ∷ more) = refl

pub longer_serves : (f : Further) (l : TraceState) → f.connects ≡ [] → serves_at (longer f l) ≡ serves_at l
longer_serves f l none =
    ap (λ k. has_server k (longer f l).answers.connects) (link_same f l)
    ∙ ap (has_server (link_of l.server)) (ap (λ cs. on_last f.server l.answers.connects ++ cs) none ∙ append-nil (on_last f.server l.answers.connects))
    ∙ last_has f.server (link_of l.server) l.answers.connects

pub late_stays : (late late' finished finished' : Bool) (l m : TraceState) (s s' : EdgeState) → late' ≡ late → (finished ≡ true → finished' ≡ true) → serves_at m ≡ serves_at l → (is_connecting s' ≡ true → is_connecting s ≡ true) → LateServer late finished l s
    → LateServer late' finished' m s'
late_stays late late' finished finished' l m s s' same done serves asks k = record {
  finishes = λ x. done (k.finishes (sym same ∙ x));
  gone = λ x. serves ∙ k.gone (sym same ∙ x);
  asked = λ x. (let w = k.asked (asks x) in (same ∙ w.0, serves ∙ w.1));
}

-- a Run and a Turn make none
pub runs_late : (c : ℕ) (h : Heard) (group : List Note) → (hears c h Runs group).late ≡ h.late
runs_late c h group = by_over (h.finished || finish_told (notes_about c group))
  where
    by_over : (b : Bool) → (if b then h.late else h.late) ≡ h.late
    by_over true = refl
    by_over false = refl

pub turns_late : (c : ℕ) (h : Heard) (group : List Note) → (hears c h Turns group).late ≡ h.late
turns_late c h group = by_over (h.finished || finish_told (notes_about c group))
  where
    by_over : (b : Bool) → (if b then h.late else h.late) ≡ h.late
    by_over true = refl
    by_over false = refl

-- something comes of it
module _ (c : ℕ) (h : Heard) (input : Input) (group : List Note) (f : Further) (l : TraceState) (s : EdgeState) (finished : (hears c h (Comes c input) group).finished ≡ (h.finished || finish_told (notes_about c group)))
    (brings : f ≡ unless_finished (h.finished || finish_told (notes_about c group)) (further_in input)) (asks : answers_nothing h.edges input ≡ false) (ends : is_connecting s ≡ true → is_connecting (edges_met input h.edges).server.state ≡ true)
    (k : LateServer h.late h.finished l h.edges.server.state) where
  abbrev over : Bool
  over = h.finished || finish_told (notes_about c group)

  abbrev now : Heard
  now = hears c h (Comes c input) group

  late_is : now.late ≡ (if over then late_by input h.late else h.late)
  late_is = ap (λ b. if over then (if b then late_by input h.late else h.late) else h.late) (eq_self c)

  plain : late_by input h.late ≡ h.late → (further_in input).connects ≡ [] → (is_connecting (edges_met input h.edges).server.state ≡ true → is_connecting h.edges.server.state ≡ true) → LateServer now.late now.finished (longer f l) s
  plain late none edges =
      late_stays h.late now.late h.finished now.finished l (longer f l) h.edges.server.state s (late_is ∙ by_over over) (λ x. finished ∙ ap (λ b. b || finish_told (notes_about c group)) x) (longer_serves f l (ap (λ x. x.connects) brings ∙ by_finish over)) (λ x. edges (ends x)) k
    where
      by_over : (b : Bool) → (if b then late_by input h.late else h.late) ≡ h.late
      by_over true = late
      by_over false = refl

      by_finish : (b : Bool) → (unless_finished b (further_in input)).connects ≡ []
      by_finish true = refl
      by_finish false = none

  answered : (made : Bool) → input ≡ Connects made → LateServer now.late now.finished (longer f l) s
  answered made is = by_over over refl
    where
      before : (h.late ≡ false) × (serves_at l ≡ false)
      before = k.asked (was_true (is_connecting h.edges.server.state) (ap (answers_nothing h.edges) (sym is) ∙ asks))

      settled : (made : Bool) → is_connecting (answered_edge made).state ≡ false
      settled true = refl
      settled false = refl

      none_asked : is_connecting s ≡ true → ⊥
      none_asked x = true≢false (sym (ends x) ∙ ap (λ i. is_connecting (edges_met i h.edges).server.state) is ∙ settled made)

      by_over : (b : Bool) → over ≡ b → LateServer now.late now.finished (longer f l) s
      by_over true e = record {
        finishes = λ x. finished ∙ e;
        gone = λ x. longer_serves f l (ap (λ y. y.connects) (brings ∙ ap (λ b. unless_finished b (further_in input)) e)) ∙ before.1;
        asked = λ x. absurd (none_asked x);
      }
      by_over false e =
          let on_time : now.late ≡ false = late_is ∙ ap (λ b. if b then late_by input h.late else h.late) e ∙ before.0 in
          record {
            finishes = λ x. absurd (true≢false (sym x ∙ on_time));
            gone = λ x. absurd (true≢false (sym x ∙ on_time));
            asked = λ x. absurd (none_asked x);
          }

  pub come_late : LateServer now.late now.finished (longer f l) s
  come_late = by_input input refl
    where
      P : Input → Type 0
      P i = (late_by i h.late ≡ h.late → (further_in i).connects ≡ [] → (is_connecting (edges_met i h.edges).server.state ≡ true → is_connecting h.edges.server.state ≡ true) → LateServer now.late now.finished (longer f l) s)

      by_input : (i : Input) → input ≡ i → LateServer now.late now.finished (longer f l) s
      by_input (Bytes Client bytes) e = subst P e plain refl refl (λ x. x)
      by_input (Bytes Server bytes) e = subst P e plain refl refl (λ x. x)
      by_input (Ends Client) e = subst P e plain refl refl (λ x. x)
      by_input (Ends Server) e = subst P e plain refl refl (λ x. x)
      by_input (Resets Client) e = subst P e plain refl refl (λ x. x)
      by_input (Resets Server) e = subst P e plain refl refl (λ x. x)
      by_input (Takes side n) e = subst P e plain refl refl (λ x. x)
      by_input (Connects made) e = answered made e
