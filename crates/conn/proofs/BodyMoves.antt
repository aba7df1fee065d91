-- A body's step, and what it led to, are the next items of each state that the connection may stand
-- for.
use Rattle.std.proofs.Common.{◌≡◌, ◌≤◌, inl, inr, refl, sym, ap, subst, ◌∙◌, ℕ, ◌+◌, ◌*◌, List, [], ◌∷◌, ◌++◌, None, Some, Option, true, length, map, drop, append_assoc, append-nil, arith, length-append}
use Rattle.px_bytes.specs.declared.fault.Reply.{Reply}
use Rattle.px_bytes.specs.declared.fault.TclFault.{TclFault}
use Rattle.px_bytes.specs.declared.addr.Side.TheVariants.{Server}
use Rattle.tcl_vars.specs.Scopes.{Level}
use Rattle.irule_net.specs.State.{side_of}
use Rattle.irule_net.specs.declared.groups.Groups.{Groups}
use Rattle.rule_model.specs.Evaluator.{evaluate}
use Rattle.rule_model.specs.Host.{Effect}
use Rattle.rule_model.specs.Laws.{state_after}
use Rattle.rule_model.specs.Outcome.{Act, state, Outcome, Ends, Waits as Stops, uncaught_of}
use Rattle.rule_model.specs.Outcome as act
use Rattle.rule_model.specs.Setting as given
use Rattle.rule_model.specs.declared.code.Code.{Code}
use Rattle.event_order.specs.declared.event.EventName.{EventName}
use Rattle.conn_trace.specs.Bodies.{run_body, act_item}
use Rattle.conn_trace.specs.Costs.{paid_by}
use Rattle.conn_trace.specs.Gates.{Counts, sent_from}
use Rattle.conn_trace.specs.Host.{HostState, body_setting, commands}
use Rattle.conn_trace.specs.Item.{Ran}
use Rattle.conn_trace.specs.Places.{Place, at as put, after_body, next_body, place as place_at}
use Rattle.conn_trace.specs.Setup.{Handler, Setup, uncaught_line}
use Rattle.conn_trace.specs.State.{Failing, InEvent, TraceState, link_of, with_replies}
use Rattle.conn_trace.specs.Trace.{next_item, Unfolds}
use Rattle.conn_trace.proofs.BodyItems.{running, ended, body_waits}
use Rattle.conn_trace.proofs.Costs.{ended_pays}
use Rattle.conn_trace.proofs.Unfolding.{unfolds_on, unfolds_one}
use Rattle.core_events.specs.declared.note.Note.{Note}
use Rattle.frames.specs.Frames.{comes_to, path_of}
use Rattle.frames.specs.Given.{setting}
use Rattle.frames.specs.Went.{Went, place, comes_by, effects_in, TurnIs}
use Rattle.frames.specs.declared.turn.Turn.{Turn}
use Rattle.frames.specs.declared.turn.Turn.TheVariants as turn
use Rattle.conn.specs.Ends.{is_up, link_by}
use Rattle.conn.specs.Steps.{BodySteps, GoesOn, ended_of, one_of, said_of}
use Rattle.conn.specs.Bodies.{SaidIs}
use Rattle.conn.specs.Events.{event_of, is_closed}
use Rattle.conn.specs.Holds.{Around, BodyGoesOn, RunsFirst, Stands, Holds}
use Rattle.conn.specs.Paid.{BodyPaid, FirstPaid, Paid, PaidAt}
use Rattle.conn.specs.Hosts.{KeepsCollects, Made, cleared_host, logs_of, made_in, seen_host}
use Rattle.conn.specs.Setups.{body_at, Serves}
use Rattle.conn.specs.Stages.{InEvent as HostIn, at_fits, fits, has_finished, is_asking, is_running}
use Rattle.conn.specs.declared.connection.Conn.{Conn}
use Rattle.conn.specs.declared.events.At.{At}
use Rattle.conn.specs.declared.events.At.TheVariants as event
use Rattle.conn.specs.declared.ends.Link as code
use Rattle.conn.specs.declared.setup.Setup as code_setup
use Rattle.conn.specs.declared.stage.Stage.{Stage}
use Rattle.conn.specs.declared.stage.Stage.TheVariants as stage
use Rattle.conn.specs.declared.turn.Act as step_act
use Rattle.conn.specs.declared.turn.Act.TheVariants as done
use Rattle.conn.proofs.Acting.{DoesActs, SameBeside, acts_gave}
use Rattle.conn.proofs.Doing.{acts_done, calls_too, made_done, said_same, went_same}
use Rattle.conn.proofs.Giving.{Gave}
use Rattle.conn.proofs.ActItems.{no_tail, end_tail, called_is_none}
use Rattle.conn.proofs.Asking.{asking_waits}
use Rattle.conn.proofs.BodyActs.{acts_come, end_comes}
use Rattle.conn.proofs.FramesKeep.{acts_stay}
use Rattle.conn.proofs.Leading.{ended_starts}
use Rattle.conn.proofs.Paying.{ActPaid, begins_paid, end_paid, paid_within, step_paid}
use Rattle.conn.proofs.Places.{GoneTo, first_left, link_is, next_gone, same_told}

-- bytes go to a server only in the events of a connection that is up
up_by : (at : At) (k : code.Link) → at_fits at k ≡ true → side_of (event_of at) ≡ Server → is_up k ≡ true
up_by event.Accepted k fit to = absurd (cc)
up_by event.ClientData k fit to = absurd (cc)
up_by event.Selected k fit to = absurd (cc)
up_by event.Failed k fit to = absurd (cc)
up_by event.Request k fit to = absurd (cc)
up_by event.RequestData k fit to = absurd (cc)
up_by event.Response k fit to = absurd (cc)
up_by event.ResponseData k fit to = absurd (cc)
up_by event.Leaving k fit to = absurd (cc)
up_by event.Connected k fit to = fit
up_by event.ServerData k fit to = fit
up_by event.ServerClosed k fit to = absurd (cc)
up_by event.Closed k fit to = absurd (cc)

-- a step of the body of which the state of the trace tells
module _ (s : code_setup.Setup) (g : Setup) (serves : Serves s g) (a : Around) (l : TraceState) (c : ℕ) (old mid : Conn) (at : At) (number : ℕ) (h : Handler) (bs : List Handler)
    (holds : Holds g a l old) (k : BodyGoesOn g (event_of at) h bs 0 l old) (said : Turn) (ticks : ℕ) (made : List Effect → Type 0)
    (w : Went (body_setting g h.procedures) h.body (place old.body.machine.at old.vars (seen_host old.host)) (place mid.body.machine.at mid.vars (seen_host mid.host)) said made ticks)
    (is_here : old.stage ≡ stage.Running at number) (done_acts : DoesActs g (is_up old.ends.link) w.acts old mid []) (same_event : event_of mid.host.event ≡ event_of old.host.event) (keeps : KeepsCollects (event_of at) old.host.net mid.host.net) where
  abbrev group : List Note
  group = logs_of c (effects_in w.acts)

  abbrev e : EventName
  e = event_of at

  abbrev b : Handler
  b = h

  abbrev S : given.Setting HostState
  S = body_setting g b.procedures

  abbrev acts : List Act
  acts = k.acts ++ w.acts

  same : (more : List Reply) → evaluate S b.body l.vars l.host (l.answers.replies ++ more) g.budget ≡ comes_by said S b.body mid.body.machine.at mid.vars (seen_host mid.host) more (k.cost + w.spent) acts
  same more = k.same more ∙ w.same more k.cost k.acts

  body_is : (o : Outcome HostState) → comes_by said S b.body mid.body.machine.at mid.vars (seen_host mid.host) [] (k.cost + w.spent) acts ≡ o → run_body g b l ≡ o
  body_is o is = ap (λ rs. evaluate S b.body l.vars l.host rs g.budget) (sym (append-nil l.answers.replies)) ∙ same [] ∙ is

  here : l ≡ running e b bs (length k.acts + 0) l.sent l
  here = ap (λ p. record l { phase = p; sent = l.sent }) k.phase

  abbrev sent_by : List Act → Counts
  sent_by xs = sent_from l.sent (map (act_item l.sent.number) xs)

  -- some of its acts come
  come : (o : Outcome HostState) (xs rest : List Act) (m : ℕ) → run_body g b l ≡ o → (state_after o).acts ≡ k.acts ++ (xs ++ rest) → m ≡ length k.acts + length xs
      → Unfolds g l (map (act_item l.sent.number) xs) (running e b bs m (sent_by xs) l)
  come o xs rest m is all last =
      let P : TraceState → Type 0 = λ x. Unfolds g x (map (act_item l.sent.number) xs) (running e b bs m (sent_by xs) l) in
      subst P (sym here) (acts_come g e b bs l o holds.no_cut is k.acts xs rest (length k.acts + 0) m l.sent.number l.sent refl all (omega arith) (omega (arith, last)))

  with_tail : (xs : List Act) (at : TraceState) → Unfolds g l (map (act_item l.sent.number) xs) at → Unfolds g l (map (act_item l.sent.number) xs ++ []) at
  with_tail xs at u = subst (λ x. Unfolds g l x at) (sym (append-nil (map (act_item l.sent.number) xs))) u

  -- where it stood still holds of where it is
  fit : at_fits at mid.ends.link ≡ true
  fit = ap (λ e. at_fits at e.link) done_acts.ends ∙ sym (ap (λ x. fits x old.ends.link) is_here) ∙ holds.fits

  fin : l.finished ≡ is_closed at
  fin = holds.finished ∙ ap has_finished is_here

  ev : event_of mid.host.event ≡ event_of at
  ev = same_event ∙ subst (λ x. HostIn x old.host.event) is_here holds.event

  same_beside : (m : ℕ) (xs : List Act) → SameBeside l (running e b bs m (sent_by xs) l)
  same_beside m xs = record { finished = refl; client = refl; server = refl; connects = refl; choices = refl; cut = refl }

  -- what the body counted is paid where it runs
  paid_here : drop number (g.handlers e) ≡ b ∷ bs → (t p : ℕ) → Paid g l old t p → BodyPaid g b l old t p
  paid_here left t p k' = subst (λ hs. FirstPaid g hs l old t p) left (subst (λ st. PaidAt st g l old t p) is_here k')

  abbrev Same : Turn → Type 0
  Same t = (more : List Reply) (cost : ℕ) (before : List Act) → comes_to S b.body old.body.machine.at old.vars (seen_host old.host) more cost before ≡ comes_by t S b.body mid.body.machine.at mid.vars (seen_host mid.host) more (cost + w.spent) (before ++ w.acts)

  goes_on : said ≡ turn.More → mid.body.runs ≡ true → drop number (g.handlers e) ≡ b ∷ bs → mid.stage ≡ stage.Running at number → ActPaid g a l c old mid group done.Goes ticks
  goes_on more runs left there =
      let o = comes_to S b.body mid.body.machine.at mid.vars (seen_host mid.host) [] (k.cost + w.spent) acts in
      let Q : Turn → Type 0 = λ t. comes_by t S b.body mid.body.machine.at mid.vars (seen_host mid.host) [] (k.cost + w.spent) acts ≡ o in
      let T : Turn → Type 0 = λ t. (rs : List Reply) → evaluate S b.body l.vars l.host (l.answers.replies ++ rs) g.budget ≡ comes_by t S b.body mid.body.machine.at mid.vars (seen_host mid.host) rs (k.cost + w.spent) acts in
      let is = body_is o (subst Q (sym more) refl) in
      let kept = (acts_stay S b.body mid.body.machine.at mid.vars (seen_host mid.host) [] (k.cost + w.spent) acts) in
      let at' = running e b bs (length acts + 0) (sent_by w.acts) l in
      let u = come o w.acts kept.0 (length acts + 0) is (kept.1 ∙ append_assoc k.acts w.acts kept.0) (omega (arith, length-append k.acts w.acts)) in
      let now : BodyGoesOn g e b bs 0 at' mid = record { acts = acts; cost = k.cost + w.spent; phase = refl; kept = λ side free. keeps.kept side free ∙ k.kept side free; same = subst T more same } in
      let P : List Handler → Type 0 = λ hs. RunsFirst g e hs 0 at' mid in
      let R : Stage → Type 0 = λ st. Stands g st at' mid in
      let gave = (acts_gave g a l at' c old mid w.acts [] (no_tail c a.took) holds done_acts (with_tail w.acts at' u) (subst R (sym there) (subst P (sym left) now, runs)) (fin ∙ ap has_finished (sym there)) (ap (λ x. fits x mid.ends.link) there ∙ fit) (subst (λ x. HostIn x mid.host.event) (sym there) ev) (same_beside (length acts + 0) w.acts)).0 in
      record {
        act = record { at = at'; gave = gave; stops = ap is_asking there };
        pays = λ t p k'.
            (let one = step_paid g b l old mid said ticks made w t p (paid_here left t p k') at' refl refl refl (subst Same more w.same) in
            let first = subst (λ hs. FirstPaid g hs at' mid (t + ticks) p) (sym left) one in
            paid_within g at' mid (t + ticks) (t + ticks) p (p + paid_by gave.more) (omega arith) (omega arith) (subst (λ st. PaidAt st g at' mid (t + ticks) p) (sym there) first));
        busy = λ goes some. inl (ap is_running there);
      }

  abbrev asked : Conn
  asked = record mid { stage = stage.Asking at number }

  asks : (call : List (List ℕ)) → said ≡ turn.Asks call → mid.body.asks ≡ true → drop number (g.handlers e) ≡ b ∷ bs → ActPaid g a l c old asked group (done.Asks call) ticks
  asks call is_ask waits left =
      let m = mid.body.machine.at in
      let path = path_of m.frames.items in
      let calls = act.Called path call ∷ [] in
      let xs = w.acts ++ calls in
      let o : Outcome HostState = Stops path call (state mid.vars (seen_host mid.host) [] m.budget (k.cost + w.spent) (acts ++ calls)) in
      let P : Turn → Type 0 = λ t. TurnIs t m in
      let Q : Turn → Type 0 = λ t. comes_by t S b.body m mid.vars (seen_host mid.host) [] (k.cost + w.spent) acts ≡ o in
      let T : Turn → Type 0 = λ t. (rs : List Reply) → evaluate S b.body l.vars l.host (l.answers.replies ++ rs) g.budget ≡ comes_by t S b.body m mid.vars (seen_host mid.host) rs (k.cost + w.spent) acts in
      let is = body_is o (subst Q (sym is_ask) (asking_waits S b.body m mid.vars (seen_host mid.host) call (k.cost + w.spent) acts (subst P is_ask w.turn_is))) in
      let all : acts ++ calls ≡ k.acts ++ (xs ++ []) = append_assoc k.acts w.acts calls ∙ ap (λ x. k.acts ++ x) (sym (append-nil xs)) in
      let at' = running e b bs (length acts + 1) (sent_by xs) l in
      let u = come o xs [] (length acts + 1) is all (omega (arith, length-append k.acts w.acts, length-append w.acts calls)) in
      let now : BodyGoesOn g e b bs 1 at' asked = record { acts = acts; cost = k.cost + w.spent; phase = refl; kept = λ side free. keeps.kept side free ∙ k.kept side free; same = subst T is_ask same } in
      let R : List Handler → Type 0 = λ hs. RunsFirst g e hs 1 at' asked in
      let G : List Effect → Type 0 = λ es. Gave g a l at' c old asked (logs_of c es) (call ∷ []) in
      let gave = subst G (called_is_none w.acts path call) (acts_gave g a l at' c old asked xs [] (no_tail c a.took) holds (calls_too g (is_up old.ends.link) w.acts path call old asked (record { calls = done_acts.calls; first = done_acts.first; ends = done_acts.ends; told = done_acts.told })) (with_tail xs at' u) (subst R (sym left) now, waits) fin fit ev (same_beside (length acts + 1) xs)).0 in
      record {
        act = record {
          at = at';
          gave = gave;
          stops = ap (λ n. next_item g (running e b bs n (sent_by xs) l)) (sym (length-append acts calls))
              ∙ body_waits g e b bs l path call (state mid.vars (seen_host mid.host) [] m.budget (k.cost + w.spent) (acts ++ calls)) (sent_by xs) holds.no_cut is;
        };
        pays = λ t p k'.
            (let one = step_paid g b l old asked said ticks made w t p (paid_here left t p k') at' refl refl refl (subst Same is_ask w.same) in
            paid_within g at' asked (t + ticks) (t + ticks) p (p + paid_by gave.more) (omega arith) (omega arith) (subst (λ hs. FirstPaid g hs at' asked (t + ticks) p) (sym left) one));
        busy = λ goes some. absurd (let x = goes in cc);
      }

  -- where a body that ended leaves it
  ended_gone : (L : TraceState) → L.vars ≡ mid.vars → L.answers.replies ≡ [] → drop (number + 1) (g.handlers e) ≡ bs → (new : Conn) (f : Option TclFault) (did : step_act.Act) → GoesOn s at number (ended_of h at f) mid new did
      → GoneTo g l.finished (after_body g e l.finished (link_by mid.ends.link) b bs f (seen_host mid.host)) L mid.ends new × (did ≡ done.Goes)
  ended_gone L vars none behind new None did (goes, n) = (
    subst (λ hs. GoneTo g l.finished (next_body g e l.finished (link_by mid.ends.link) hs (seen_host mid.host)) L mid.ends new) behind
        (next_gone g L s serves at (number + 1) l.finished mid new n (record { vars = vars; replies = none; told = done_acts.told }) ev fit fin),
    goes,
  )
  ended_gone L vars none behind new (Some fault) did (goes, n) =
      let line = uncaught_line h.rule e fault.text in
      let p : Place = place_at (InEvent e (Failing fault.kind line bs)) (seen_host mid.host) in
      let there : Stands g (stage.Failing at (number + 1) fault.kind line) (put p L) new =
      (ap (λ hs. InEvent e (Failing fault.kind line hs)) (sym behind), record { vars = vars ∙ sym n.vars; host = ap seen_host (sym n.host); replies = none }) in (
        record {
          stands = subst (λ st. Stands g st (put p L) new) (sym n.there) there;
          finished = fin ∙ ap has_finished (sym n.there);
          fits = ap (λ st. fits st new.ends.link) n.there ∙ ap (λ x. at_fits at x.link) n.ends ∙ fit;
          told = same_told g mid new n.host n.ends done_acts.told;
          ends = n.ends;
          awake = ap is_asking n.there;
          event = subst (λ st. HostIn st new.host.event) (sym n.there) (ap (λ x. event_of x.event) n.host ∙ ev);
        },
        goes,
      )

  over : (code : Code) → said ≡ turn.Done code → (new : Conn) (did : step_act.Act) → GoesOn s at number (ended_of h at (uncaught_of code)) mid new did → drop number (g.handlers e) ≡ b ∷ bs → drop (number + 1) (g.handlers e) ≡ bs → ActPaid g a l c old new group did ticks
  over code is_done new did n left behind =
      let m = mid.body.machine.at in
      let st = state mid.vars (seen_host mid.host) [] m.budget (k.cost + w.spent) acts in
      let o : Outcome HostState = Ends code st in
      let Q : Turn → Type 0 = λ t. comes_by t S b.body m mid.vars (seen_host mid.host) [] (k.cost + w.spent) acts ≡ o in
      let is = body_is o (subst Q (sym is_done) refl) in
      let at1 = running e b bs (length acts) (sent_by w.acts) l in
      let at2 = ended g e b bs code st (sent_by w.acts) l in
      let u = come o w.acts [] (length acts) is (ap (λ x. k.acts ++ x) (sym (append-nil w.acts))) (length-append k.acts w.acts) in
      let last = end_comes g e b bs l code st (length acts) (sent_by w.acts) holds.no_cut is refl in
      let L = with_replies [] (record l { vars = mid.vars; sent = sent_by w.acts }) in
      let gone = ended_gone L refl refl behind new (uncaught_of code) did n in
      let same_link : link_by mid.ends.link ≡ link_of l.server = ap (λ x. link_by x.link) done_acts.ends ∙ sym (link_is a l old.ends holds.ends) in
      let stands : Stands g new.stage at2 new = subst (λ k'. Stands g new.stage (put (after_body g e l.finished k' b bs (uncaught_of code) (seen_host mid.host)) L) new) same_link gone.0.stands in
      let acted : DoesActs g (is_up old.ends.link) w.acts old new [] = record { calls = done_acts.calls; first = done_acts.first; ends = gone.0.ends ∙ done_acts.ends; told = gone.0.told } in
      let given = acts_gave g a l at2 c old new w.acts (Ran e st.cost ∷ []) (end_tail c a.took e st.cost) holds acted
      (unfolds_on g l at1 at2 (map (act_item l.sent.number) w.acts) (Ran e st.cost ∷ []) u (unfolds_one g at1 at2 (Ran e st.cost) last))
      stands gone.0.finished gone.0.fits gone.0.event (record { finished = refl; client = refl; server = refl; connects = refl; choices = refl; cut = refl }) in
      let items = map (act_item l.sent.number) w.acts in
      let worth : paid_by given.0.more ≡ paid_by items + (3 * st.cost + 2) = ap paid_by given.1 ∙ ended_pays e items st.cost in
      let some_items : 1 ≤ length given.0.more = (let m = ap length given.1 ∙ length-append items (Ran e st.cost ∷ []) in omega (arith, m)) in
      subst (λ d. ActPaid g a l c old new group d ticks) (sym gone.1) (record {
        act = record { at = at2; gave = given.0; stops = gone.0.awake };
        pays = λ t p k'.
            (let ended_all = end_paid g b l old mid said ticks made w t p (paid_here left t p k') code st (subst Same is_done w.same) is in
            begins_paid g a at2 s new (t + ticks) (p + paid_by given.0.more) given.0.holds (ended_starts s h at number mid new (uncaught_of code) did n) (omega (arith, ended_all, worth)));
        busy = λ goes some. inr some_items;
      })

-- what the step said decides
module _ (s : code_setup.Setup) (g : Setup) (serves : Serves s g) (a : Around) (l : TraceState) (c : ℕ) (old mid new : Conn) (at : At) (number : ℕ) (h : Handler) (bs : List Handler)
    (holds : Holds g a l old) (k : BodyGoesOn g (event_of at) h bs 0 l old) (left : drop number (g.handlers (event_of at)) ≡ h ∷ bs) (behind : drop (number + 1) (g.handlers (event_of at)) ≡ bs)
    (is_here : old.stage ≡ stage.Running at number) (there : mid.stage ≡ stage.Running at number) (ticks : ℕ) (made : List Effect → Type 0) where
  said_gives : (said : Turn) (w : Went (body_setting g h.procedures) h.body (place old.body.machine.at old.vars (seen_host old.host)) (place mid.body.machine.at mid.vars (seen_host mid.host)) said made ticks)
      → DoesActs g (is_up old.ends.link) w.acts old mid [] → event_of mid.host.event ≡ event_of old.host.event → KeepsCollects (event_of at) old.host.net mid.host.net → SaidIs said mid.body → (did : step_act.Act) → GoesOn s at number (said_of h at said) mid new did → ActPaid g a l c old new (logs_of c (effects_in w.acts)) did ticks
  said_gives turn.More w d ev keeps is did t =
      let P : Conn → Type 0 = λ x. ActPaid g a l c old x (logs_of c (effects_in w.acts)) did ticks in
      let Q : step_act.Act → Type 0 = λ x. ActPaid g a l c old mid (logs_of c (effects_in w.acts)) x ticks in
      subst P (sym t.1) (subst Q (sym t.0) (goes_on s g serves a l c old mid at number h bs holds k turn.More ticks made w is_here d ev keeps refl is left there))
  said_gives (turn.Asks call) w d ev keeps is did t =
      let P : Conn → Type 0 = λ x. ActPaid g a l c old x (logs_of c (effects_in w.acts)) did ticks in
      let Q : step_act.Act → Type 0 = λ x. ActPaid g a l c old (record mid { stage = stage.Asking at number }) (logs_of c (effects_in w.acts)) x ticks in
      subst P (sym t.1) (subst Q (sym t.0) (asks s g serves a l c old mid at number h bs holds k (turn.Asks call) ticks made w is_here d ev keeps call refl is left))
  said_gives (turn.Done code) w d ev keeps is did t = over s g serves a l c old mid at number h bs holds k (turn.Done code) ticks made w is_here d ev keeps code refl new did t left behind

-- the notes of a body's step
abbrev pub step_notes : {s : code_setup.Setup} {h : Handler} {c : ℕ} {at : At} {number : ℕ} {old new : Conn} {before after : List Note} {did : step_act.Act} {ticks : ℕ} → BodySteps s h c at number old new before after did ticks → List Note
step_notes {c = c} k = logs_of c (one_of (made_in k.stepped.host))

pub body_gives : (s : code_setup.Setup) (g : Setup) → Serves s g → (a : Around) (l : TraceState) (c : ℕ) (old new : Conn) (at : At) (number : ℕ) (h : Handler) (before after : List Note) (did : step_act.Act) (ticks : ℕ) → body_at s at number ≡ Some h
    → (k : BodySteps s h c at number old new before after did ticks) → old.stage ≡ stage.Running at number → Holds g a l old → ActPaid g a l c old new (step_notes k) did ticks
body_gives s g serves a l c old new at number h before after did ticks got k is holds =
    let e = event_of at in
    let bs = drop (number + 1) (g.handlers e) in
    let left : drop number (g.handlers e) ≡ h ∷ bs = first_left (g.handlers e) number h (serves.each e number ∙ got) in
    let behind : drop (number + 1) (g.handlers e) ≡ bs = refl in
    let P : Stage → Type 0 = λ st. Stands g st l old in
    let here = subst P is holds.stage in
    let R : List Handler → Type 0 = λ hs. RunsFirst g e hs 0 l old in
    let goes : BodyGoesOn g e h bs 0 l old = subst R left here.0 in
    let made : List Effect → Type 0 = λ es. Made (cleared_host old.host) es k.stepped.host in
    let W : given.Setting HostState → Conn → Type 0 = λ x y. Went x h.body (place old.body.machine.at old.vars (seen_host old.host)) (place y.body.machine.at y.vars (seen_host y.host)) k.turned made ticks in
    let S : Level → Groups → given.Setting HostState = λ lv gs. setting (Some lv) (commands gs) h.procedures in
    let same : S s.statics.now.statics s.groups.now ≡ body_setting g h.procedures = ap (λ lv. S lv s.groups.now) (sym serves.statics) ∙ ap (λ gs. S g.statics gs) (sym serves.groups) in
    let w0 : W (body_setting g h.procedures) k.stepped = subst (λ x. W x k.stepped) same (k.went here.1) in
    let moved = made_done c k.stepped k.mid before after k.does in
    let w : W (body_setting g h.procedures) k.mid = went_same (body_setting g h.procedures) h.body (place old.body.machine.at old.vars (seen_host old.host)) k.stepped k.mid k.turned made ticks moved w0 in
    let to_server : side_of (event_of old.host.event) ≡ Server → is_up old.ends.link ≡ true =
    λ to. up_by at old.ends.link (sym (ap (λ x. fits x old.ends.link) is) ∙ holds.fits) (sym (ap side_of (subst (λ x. HostIn x old.host.event) is holds.event)) ∙ to) in
    let same_at : event_of old.host.event ≡ event_of at = subst (λ x. HostIn x old.host.event) is holds.event in
    let acted = acts_done g (is_up old.ends.link) (body_setting g h.procedures) refl c old k.stepped k.mid before after k.does k.ends holds.told to_server holds.told.relays w.acts w.called w.once w.by in
    let N : List Effect → Type 0 = λ es. ActPaid g a l c old new (logs_of c es) did ticks in
    subst N acted.taken (said_gives s g serves a l c old k.mid new at number h bs holds goes left behind is (k.does.there ∙ k.there ∙ is) ticks made k.turned w acted.acts acted.event (subst (λ x. KeepsCollects x old.host.net k.mid.host.net) same_at acted.keeps) (said_same k.turned k.stepped.body k.mid.body (sym k.does.body) (k.said_is here.1)) did k.goes_on)
