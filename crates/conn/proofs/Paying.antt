-- What a connection counted stays paid for: as its trace lengthens, by a body's step, and by what else it does.
use Rattle.std.proofs.Common.{◌≡◌, ◌⊎◌, ◌≤◌, ◌<◌, inl, inr, refl, sym, ap, subst, ◌∙◌, ℕ, ◌+◌, ◌*◌, List, [], ◌∷◌, ◌++◌, append-nil, drop, length, true, false, true≢false, arith}
use Rattle.px_bytes.specs.declared.fault.Reply.{Reply}
use Rattle.core_events.specs.declared.note.Note.{Note}
use Rattle.conn_trace.specs.Bodies.{run_body}
use Rattle.conn_trace.specs.Costs.{in_body, paid_by}
use Rattle.conn_trace.specs.Further.{Further, longer}
use Rattle.conn_trace.specs.Host.{HostState, body_setting}
use Rattle.conn_trace.specs.Setup.{Handler, Setup}
use Rattle.conn_trace.specs.State.{TraceState}
use Rattle.event_order.specs.declared.event.EventName.{EventName}
use Rattle.rule_model.specs.Evaluator.{evaluate}
use Rattle.rule_model.specs.Host.{Effect}
use Rattle.rule_model.specs.Laws.{state_after}
use Rattle.rule_model.specs.Outcome.{Act, State, state, Outcome, Ends}
use Rattle.rule_model.specs.Setting as given
use Rattle.rule_model.specs.declared.code.Code.{Code}
use Rattle.frames.specs.Frames.{comes_to}
use Rattle.frames.specs.Owed.{Heavy, owed, owed_by}
use Rattle.frames.specs.Went.{Went, place}
use Rattle.frames.specs.declared.frame.Mode.TheVariants as mode
use Rattle.frames.specs.declared.turn.Turn.{Turn}
use Rattle.conn.specs.Events.{event_of}
use Rattle.conn.specs.Holds.{Around, Holds, RunsFirst, Stands}
use Rattle.conn.specs.Hosts.{seen_host}
use Rattle.conn.specs.Paid.{BodyPaid, FirstPaid, Paid, PaidAt}
use Rattle.conn.specs.Stages.{has_body, is_running}
use Rattle.conn.specs.declared.connection.Conn.{Conn}
use Rattle.conn.specs.declared.ends.Ends.{Ends as BothEnds}
use Rattle.conn.specs.declared.setup.Setup as code
use Rattle.conn.specs.declared.stage.Stage.{Stage}
use Rattle.conn.specs.declared.stage.Stage.TheVariants as stage
use Rattle.conn.specs.declared.turn.Act as step_act
use Rattle.conn.specs.declared.turn.Act.TheVariants as done
use Rattle.conn.proofs.Acting.{ActGave}
use Rattle.conn.proofs.Arriving.{with_ends}
use Rattle.conn.proofs.Leading.{BodyBegins, Led, Starts}

-- fewer steps are paid by more
pub paid_within : (g : Setup) (l : TraceState) (c : Conn) (t u p q : ℕ) → u ≤ t → p ≤ q → Paid g l c t p → Paid g l c u q
paid_within g l c t u p q less more k = at_stage c.stage k
  where
    plain : t ≤ p → u ≤ q
    plain k = omega (arith, k, less, more)

    first : (hs : List Handler) → FirstPaid g hs l c t p → FirstPaid g hs l c u q
    first [] k = k
    first (b ∷ bs) k = record { acts = k.acts; cost = k.cost; same = k.same; heavy = k.heavy; owes = (let o = k.owes in omega (arith, o, less, more)) }

    at_stage : (st : Stage) → PaidAt st g l c t p → PaidAt st g l c u q
    at_stage (stage.Running at n) k = first (drop n (g.handlers (event_of at))) k
    at_stage (stage.Asking at n) k = first (drop n (g.handlers (event_of at))) k
    at_stage other k = plain k

-- without a body
pub plain_paid : (g : Setup) (l : TraceState) (c : Conn) (t p : ℕ) (st : Stage) → has_body st ≡ false → t ≤ p → PaidAt st g l c t p
plain_paid g l c t p (stage.Running at n) calm k = absurd (true≢false calm)
plain_paid g l c t p (stage.Asking at n) calm k = absurd (true≢false calm)
plain_paid g l c t p other calm k = k

pub plain_counts : (g : Setup) (l : TraceState) (c : Conn) (t p : ℕ) (st : Stage) → has_body st ≡ false → PaidAt st g l c t p → t ≤ p
plain_counts g l c t p (stage.Running at n) calm k = absurd (true≢false calm)
plain_counts g l c t p (stage.Asking at n) calm k = absurd (true≢false calm)
plain_counts g l c t p other calm k = k

-- What is paid rests on the variables, the host and the replies where a body began, and on what the
-- connection has of it.
module _ (g : Setup) (l m : TraceState) (c d : Conn) (vars : m.vars ≡ l.vars) (host : m.host ≡ l.host) (replies : m.answers.replies ≡ l.answers.replies)
    (there : d.stage ≡ c.stage) (body : d.body ≡ c.body) (own_vars : d.vars ≡ c.vars) (own_host : d.host ≡ c.host) (t p : ℕ) where
  first_moved : (hs : List Handler) → FirstPaid g hs l c t p → FirstPaid g hs m d t p
  first_moved [] k = k
  first_moved (b ∷ bs) k =
      let S = body_setting g b.procedures in
      record {
        acts = k.acts;
        cost = k.cost;
        same = λ more.
            ap (λ v. evaluate S b.body v m.host (m.answers.replies ++ more) g.budget) vars
            ∙ ap (λ h. evaluate S b.body l.vars h (m.answers.replies ++ more) g.budget) host
            ∙ ap (λ rs. evaluate S b.body l.vars l.host (rs ++ more) g.budget) replies
            ∙ k.same more
            ∙ ap (λ x. comes_to S b.body x.machine.at c.vars (seen_host c.host) more k.cost k.acts) (sym body)
            ∙ ap (λ v. comes_to S b.body d.body.machine.at v (seen_host c.host) more k.cost k.acts) (sym own_vars)
            ∙ ap (λ h. comes_to S b.body d.body.machine.at d.vars (seen_host h) more k.cost k.acts) (sym own_host);
        heavy = subst (λ x. Heavy b.procedures b.body x.machine.at.frames.items x.machine.at.mode) (sym body) k.heavy;
        owes = (let o = k.owes in let e = ap (λ x. owed x.machine.at) body in omega (arith, o, e));
      }

  stage_moved : (st : Stage) → PaidAt st g l c t p → PaidAt st g m d t p
  stage_moved (stage.Running at n) k = first_moved (drop n (g.handlers (event_of at))) k
  stage_moved (stage.Asking at n) k = first_moved (drop n (g.handlers (event_of at))) k
  stage_moved other k = k

  pub paid_moved : Paid g l c t p → Paid g m d t p
  paid_moved k = subst (λ st. PaidAt st g m d t p) (sym there) (stage_moved c.stage k)

-- as where more comes of its sides, and its ends change
pub paid_longer : (g : Setup) (l : TraceState) (c : Conn) (e : BothEnds) (f : Further) (t p : ℕ) → f.replies ≡ [] → Paid g l c t p → Paid g (longer f l) (with_ends e c) t p
paid_longer g l c e f t p none k =
    paid_moved g l (longer f l) c (with_ends e c) refl refl (ap (λ r. l.answers.replies ++ r) none ∙ append-nil l.answers.replies) refl refl refl refl t p k

pub paid_ends : (g : Setup) (l : TraceState) (c : Conn) (e : BothEnds) (t p : ℕ) → Paid g l c t p → Paid g l (with_ends e c) t p
paid_ends g l c e t p k = paid_moved g l l c (with_ends e c) refl refl refl refl refl refl refl t p k

-- a body that has just begun owes one step
pub begins_paid : (g : Setup) (a : Around) (l : TraceState) (s : code.Setup) (c : Conn) (t p : ℕ) → Holds g a l c → Starts s c → t ≤ p → Paid g l c t p
begins_paid g a l s c t p h starts within = by_start starts
  where
    first : (budget : ℕ) (begins : BodyBegins c budget) (e : EventName) (hs : List Handler) → RunsFirst g e hs 0 l c → FirstPaid g hs l c t p
    first budget begins e [] k = k
    first budget begins e (b ∷ bs) k =
        let m = c.body.machine.at in
        record {
          acts = k.acts;
          cost = k.cost;
          same = k.same;
          heavy = subst (λ fs. Heavy b.procedures b.body fs m.mode) (sym begins.fresh.frames) tt;
          owes = (let o : owed m ≡ 1 = ap (λ fs. owed_by fs m.mode) begins.fresh.frames ∙ ap (λ md. owed_by [] md) begins.fresh.mode in omega (arith, o, within));
        }

    runs : (budget : ℕ) (begins : BodyBegins c budget) (st : Stage) → Stands g st l c → is_running st ≡ true → PaidAt st g l c t p
    runs budget begins (stage.Running at n) k r = first budget begins (event_of at) (drop n (g.handlers (event_of at))) k.0
    runs budget begins other k r = absurd (true≢false (sym r))

    by_start : Starts s c → Paid g l c t p
    by_start (inl calm) = plain_paid g l c t p c.stage calm within
    by_start (inr begins) = runs s.budget begins c.stage h.stage begins.runs

-- a body's step is paid by what it cost
module _ (g : Setup) (b : Handler) (l : TraceState) (old mid : Conn) (said : Turn) (ticks : ℕ) (made : List Effect → Type 0)
    (w : Went (body_setting g b.procedures) b.body (place old.body.machine.at old.vars (seen_host old.host)) (place mid.body.machine.at mid.vars (seen_host mid.host)) said made ticks)
    (counted paid : ℕ) (k : BodyPaid g b l old counted paid) where
  abbrev S : given.Setting HostState
  S = body_setting g b.procedures

  owes_on : (counted + ticks) + owed mid.body.machine.at ≤ paid + (3 * (k.cost + w.spent) + 2)
  owes_on = let o = k.owes in let q = w.paid k.heavy in omega (arith, o, q)

  pub step_paid : (at : TraceState) → at.vars ≡ l.vars → at.host ≡ l.host → at.answers.replies ≡ l.answers.replies
      → ((more : List Reply) (cost : ℕ) (before : List Act) → comes_to S b.body old.body.machine.at old.vars (seen_host old.host) more cost before ≡ comes_to S b.body mid.body.machine.at mid.vars (seen_host mid.host) more (cost + w.spent) (before ++ w.acts))
      → BodyPaid g b at mid (counted + ticks) paid
  step_paid at vars host replies goes = record {
    acts = k.acts ++ w.acts;
    cost = k.cost + w.spent;
    same = λ more.
        ap (λ v. evaluate S b.body v at.host (at.answers.replies ++ more) g.budget) vars
        ∙ ap (λ h. evaluate S b.body l.vars h (at.answers.replies ++ more) g.budget) host
        ∙ ap (λ rs. evaluate S b.body l.vars l.host (rs ++ more) g.budget) replies
        ∙ k.same more ∙ goes more k.cost k.acts;
    heavy = w.stays_heavy k.heavy;
    owes = owes_on;
  }

  -- once it has ended its cost pays for all that it counted
  pub end_paid : (code : Code) (st : State HostState)
      → ((more : List Reply) (cost : ℕ) (before : List Act) → comes_to S b.body old.body.machine.at old.vars (seen_host old.host) more cost before ≡ Ends code (state mid.vars (seen_host mid.host) more mid.body.machine.at.budget (cost + w.spent) (before ++ w.acts)))
      → run_body g b l ≡ Ends code st → counted + ticks ≤ paid + (3 * st.cost + 2)
  end_paid code st ends is =
      let C : Outcome HostState → ℕ = λ o. (state_after o).cost in
      let costs : st.cost ≡ k.cost + w.spent = sym (ap C is) ∙ ap (λ rs. C (evaluate S b.body l.vars l.host rs g.budget)) (sym (append-nil l.answers.replies)) ∙ ap C (k.same [] ∙ ends [] k.cost k.acts) in
      let o = owes_on in omega (arith, o, costs)

-- What an action gave, with its steps paid. Where it counted some and went on, a body runs, or it gave an item.
pub record ActPaid (g : Setup) (a : Around) (l : TraceState) (c : ℕ) (old new : Conn) (group : List Note) (did : step_act.Act) (ticks : ℕ) : Type 0 where
  pub act : ActGave g a l c old new group did
  pub pays : (counted paid : ℕ) → Paid g l old counted paid → Paid g act.at new (counted + ticks) (paid + paid_by act.gave.more)
  pub busy : did ≡ done.Goes → 0 < ticks → (is_running new.stage ≡ true) ⊎ (0 < length act.gave.more)

-- outside of bodies nothing is counted
pub outside_paid : (g : Setup) (a : Around) (l : TraceState) (s : code.Setup) (c : ℕ) (old new : Conn) (group before after : List Note) (did : step_act.Act) (ticks : ℕ) → Led s old new before after did → has_body old.stage ≡ false → ticks ≡ 0 → ActGave g a l c old new group did
    → ActPaid g a l c old new group did ticks
outside_paid g a l s c old new group before after did ticks led calm none x = record {
  act = x;
  pays = λ t p k. begins_paid g a x.at s new (t + ticks) (p + paid_by x.gave.more) x.gave.holds led.starts (let q = plain_counts g l old t p old.stage calm k in omega (arith, q, none));
  busy = λ goes some. absurd (omega (arith, some, none));
}

-- where a body runs the trace stands in it
pub runs_in : (g : Setup) (a : Around) (l : TraceState) (c : Conn) → Holds g a l c → is_running c.stage ≡ true → in_body l.phase ≡ true
runs_in g a l c h running = by_stage c.stage h.stage running
  where
    first : (e : EventName) (hs : List Handler) → RunsFirst g e hs 0 l c → in_body l.phase ≡ true
    first e [] k = absurd k
    first e (b ∷ bs) k = ap in_body k.phase

    by_stage : (st : Stage) → Stands g st l c → is_running st ≡ true → in_body l.phase ≡ true
    by_stage (stage.Running at n) k r = first (event_of at) (drop n (g.handlers (event_of at))) k.0
    by_stage other k r = absurd (true≢false (sym r))
