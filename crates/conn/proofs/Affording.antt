-- A body costs no less than it did so far; so what is counted of it is within what its trace pays.
use Rattle.std.proofs.Common.{◌≡◌, ◌≤◌, refl, sym, ap, subst, ◌∙◌, ℕ, ◌+◌, ◌*◌, List, [], ◌∷◌, append-nil, drop, arith}
use Rattle.px_bytes.specs.declared.fault.Reply.{Reply}
use Rattle.event_order.specs.declared.event.EventName.{EventName}
use Rattle.tcl_trees.specs.Tree.{Tree}
use Rattle.tcl_vars.specs.Scopes.{Scopes}
use Rattle.rule_model.specs.Evaluator.{evaluate}
use Rattle.rule_model.specs.Host.{HostStep}
use Rattle.rule_model.specs.Laws.{Grows, state_after}
use Rattle.rule_model.specs.Outcome.{Act, Called, State, state, Outcome, ask, ask_in, paid}
use Rattle.rule_model.specs.Setting.{Setting}
use Rattle.rule_model.proofs.Alike.{Alike, SameMeaning, spent, with_vars}
use Rattle.rule_model.proofs.Facts.{Grown, grows}
use Rattle.conn_trace.specs.Bodies.{run_body}
use Rattle.conn_trace.specs.Costs.{open_at, paid_there}
use Rattle.conn_trace.specs.Host.{body_setting}
use Rattle.conn_trace.specs.Setup.{Handler, Setup}
use Rattle.conn_trace.specs.State.{TraceState}
use Rattle.frames.specs.Frames.{comes_to, full_room}
use Rattle.frames.specs.declared.frame.Standing.{Standing}
use Rattle.conn.specs.Events.{event_of}
use Rattle.conn.specs.Holds.{Around, Holds, RunsFirst, Stands}
use Rattle.conn.specs.Hosts.{seen_host}
use Rattle.conn.specs.Paid.{FirstPaid, Paid, PaidAt}
use Rattle.conn.specs.declared.connection.Conn.{Conn}
use Rattle.conn.specs.declared.stage.Stage.{Stage}
use Rattle.conn.specs.declared.stage.Stage.TheVariants as stage
use Rattle.conn.proofs.FramesAlike.{frames_same}

module _ {H : Type 0} where
  abbrev Same : State H → State H → Type 0
  Same a b = a ≡ b

  abbrev Any : Outcome H → Outcome H → Type 0
  Any o p = Unit {0}

  -- an evaluation beside itself
  beside : (table : H → List (List ℕ) → HostStep H) → Alike table table Same Any Grown
  beside table = record {
    vars = λ a b e. ap (λ st. st.vars) e;
    budget = λ a b e. ap (λ st. st.budget) e;
    sets = λ a b v e. ap (with_vars v) e;
    pays = λ a b n e. ap (paid n) e;
    spends = λ a b e. ap spent e;
    ends = λ a b c e. tt;
    joins = λ o p go on h k l. tt;
    leaves = λ o p h. tt;
    answers = λ a b words path e. tt;
  }

  asked : (left : List Reply) (call : List (List ℕ)) (path : List ℕ) (a : State H) → a.replies ≡ left → Grows a (state_after (ask_in left call path a))
  asked [] call path a is = record { acts = (Called path call ∷ [], refl); replies = ([], refl); cost = omega arith; budget = omega arith }
  asked (r ∷ more) call path a is = record { acts = (Called path call ∷ [], refl); replies = (r ∷ [], is); cost = omega arith; budget = omega arith }

  asks : (call : List (List ℕ)) → SameMeaning Same Any Grown (ask call) (ask call)
  asks call path = ((λ a b e. tt), λ b. asked b.replies call path b refl)

-- frames come to no lower cost
pub cost_stays : {H : Type 0} (g : Setting H) (t : Tree) (m : Standing) (vars : Scopes) (host : H) (more : List Reply) (cost : ℕ) (acts : List Act) → cost ≤ (state_after (comes_to g t m vars host more cost acts)).cost
cost_stays g t m vars host more cost acts =
    let k = frames_same g (beside g.table) (grows g.table) asks full_room t m.frames.items m.mode [] in
    (k.1 (state vars host more m.budget cost acts)).cost

-- what was counted is within what ended bodies pay and what the one that runs or waits costs on the replies so far
pub affords : (g : Setup) (a : Around) (l : TraceState) (c : Conn) (t p : ℕ) → Holds g a l c → Paid g l c t p → t ≤ p + paid_there g l
affords g a l c t p h k = by_stage c.stage h.stage k
  where
    first : (e : EventName) (hs : List Handler) (waiting : ℕ) → RunsFirst g e hs waiting l c → FirstPaid g hs l c t p → t ≤ p + paid_there g l
    first e [] waiting r k = absurd r
    first e (b ∷ bs) waiting r k =
        let S = body_setting g b.procedures in
        let whole : run_body g b l ≡ comes_to S b.body c.body.machine.at c.vars (seen_host c.host) [] k.cost k.acts = ap (λ rs. evaluate S b.body l.vars l.host rs g.budget) (sym (append-nil l.answers.replies)) ∙ k.same [] in
        let costs : k.cost ≤ (state_after (run_body g b l)).cost = subst (λ o. k.cost ≤ (state_after o).cost) (sym whole) (cost_stays S b.body c.body.machine.at c.vars (seen_host c.host) [] k.cost k.acts) in
        let here : paid_there g l ≡ 3 * (state_after (run_body g b l)).cost + 2 = ap (λ p. open_at g p l) r.phase in
        let o = k.owes in omega (arith, o, costs, here)

    plain : t ≤ p → t ≤ p + paid_there g l
    plain k = omega (arith, k)

    by_stage : (st : Stage) → Stands g st l c → PaidAt st g l c t p → t ≤ p + paid_there g l
    by_stage (stage.Running at n) s k = first (event_of at) (drop n (g.handlers (event_of at))) 0 s.0 k
    by_stage (stage.Asking at n) s k = first (event_of at) (drop n (g.handlers (event_of at))) 1 s.0 k
    by_stage other s k = plain k
