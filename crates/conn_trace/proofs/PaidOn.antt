-- What pays for steps never grows less: on longer input, and along items.
use Rattle.std.proofs.Common.{◌≡◌, ◌≤◌, refl, sym, ap, subst, ◌∙◌, ℕ, ◌+◌, ◌*◌, List, [], ◌∷◌, ◌++◌, append-nil, Bool, true, false, ◌||◌, not, Option, Some, None, if◌then◌else◌, arith}
use Rattle.std.specs.Prelude.{slice_get}
use Rattle.px_bytes.specs.declared.addr.Side.{Side}
use Rattle.px_bytes.specs.declared.fault.Reply.{Reply}
use Rattle.core_events.specs.declared.note.CutReason.{CutReason}
use Rattle.core_events.specs.declared.note.CutReason.TheVariants.{ClientReset, ServerReset, Idle}
use Rattle.event_order.specs.declared.event.EventName.{EventName}
use Rattle.tcl_trees.specs.Tree.{Tree}
use Rattle.tcl_vars.specs.Scopes.{Scopes}
use Rattle.rule_model.specs.Commands.{leave}
use Rattle.rule_model.specs.Evaluator.{evaluate, inner_limit}
use Rattle.rule_model.specs.Host as effect
use Rattle.rule_model.specs.Host.{HostStep, Gives, Faults, Asks}
use Rattle.rule_model.specs.Laws.{state_after, with_more}
use Rattle.rule_model.specs.Outcome.{Act, Did, State, state, Outcome, Ends, Waits as Stops, ask_in, answered, paid, then_code}
use Rattle.rule_model.specs.Outcome as act
use Rattle.rule_model.specs.Setting.{Setting}
use Rattle.rule_model.specs.declared.code.Code.{Code}
use Rattle.rule_model.proofs.Alike.{Alike, spent, with_vars}
use Rattle.rule_model.proofs.Facts.{Grown, free, grows, leave_grown}
use Rattle.rule_model.proofs.Trees.{meaning_same}
use Rattle.conn_trace.specs.Bodies.{act_item, act_next, ended_next, run_body}
use Rattle.conn_trace.specs.Costs.{open_at, paid_by, paid_there}
use Rattle.conn_trace.specs.Further.{Further, longer}
use Rattle.conn_trace.specs.Gates.{Counts, TakenCounts, may_give}
use Rattle.conn_trace.specs.Host.{HostState, body_setting}
use Rattle.conn_trace.specs.Item.{CutBy, Item, Ran}
use Rattle.conn_trace.specs.Setup.{Handler, Setup}
use Rattle.conn_trace.specs.State.{Cut, ForReply, Running, Phase, InEvent, TraceState, Next, Does, Waits}
use Rattle.conn_trace.specs.Places.{finish}
use Rattle.conn_trace.specs.Trace.{counted, cut_next, cut_open, cut_takes, next_item, phase_next, uncut, Unfolds}
use Rattle.conn_trace.proofs.Costs.{paid_joins}

-- with more replies an evaluation costs no less
module _ {H : Type 0} (more : List Reply) where
  abbrev Behind : State H → State H → Type 0
  Behind a b = b ≡ with_more more a

  abbrev Dearer : Outcome H → Outcome H → Type 0
  Dearer (Ends code st) p = p ≡ Ends code (with_more more st)
  Dearer (Stops path call st) p = st.cost ≤ (state_after p).cost

  then_dearer : (o p : Outcome H) (go on : Code → State H → Outcome H) → Dearer o p → ((c : Code) (a b : State H) → Behind a b → Dearer (go c a) (on c b)) → ((c : Code) (b : State H) → Grown b (on c b)) → Dearer (then_code o go) (then_code p on)
  then_dearer (Ends c a) p go on h k l = subst (λ p. Dearer (go c a) (then_code p on)) (sym h) (k c a (with_more more a) refl)
  then_dearer (Stops path call a) (Ends c b) go on h k l = let g = (l c b).cost in omega (arith, h, g)
  then_dearer (Stops path call a) (Stops path' call' b) go on h k l = h

  leave_dearer : (c : Code) (a b : State H) → Behind a b → Dearer (leave c a) (leave c b)
  leave_dearer c a b e = ap (leave c) e

  ask_dearer : (left behind : List Reply) (call : List (List ℕ)) (path : List ℕ) (st : State H) → behind ≡ more → Dearer (ask_in left call path st) (ask_in (left ++ behind) call path (with_more more st))
  ask_dearer [] [] call path st e = omega arith
  ask_dearer [] (r ∷ behind) call path st e = omega arith
  ask_dearer (r ∷ left) behind call path st e = ap (λ m. ask_in (r ∷ left ++ m) call path (with_more more st)) e

  answered_dearer : (step : HostStep H) (path : List ℕ) (a : State H) → Dearer (answered step path a) (answered step path (with_more more a))
  answered_dearer (Gives v h effects) path a = refl
  answered_dearer (Faults f h effects) path a = refl
  answered_dearer (Asks call h) path a = ask_dearer a.replies more call path (record a { host = h }) refl

  dearer : (table : H → List (List ℕ) → HostStep H) → Alike table table Behind Dearer Grown
  dearer table = record {
    vars = λ a b e. sym (ap (λ st. st.vars) e);
    budget = λ a b e. sym (ap (λ st. st.budget) e);
    sets = λ a b v e. ap (with_vars v) e;
    pays = λ a b n e. ap (paid n) e;
    spends = λ a b e. ap spent e;
    ends = λ a b c e. ap (Ends c) e;
    joins = then_dearer;
    leaves = λ o p h. then_dearer o p leave leave h leave_dearer leave_grown;
    answers = λ a b words path e. subst (λ st. Dearer (answered (table a.host words) path a) (answered (table st.host words) path st)) (sym e) (answered_dearer (table a.host words) path a);
  }

  dearer_cost : (o p : Outcome H) → Dearer o p → (state_after o).cost ≤ (state_after p).cost
  dearer_cost (Ends code st) p h = let e = ap (λ x. (state_after x).cost) h in omega (arith, e)
  dearer_cost (Stops path call st) p h = h

evaluation_dearer : {H : Type 0} (g : Setting H) (tree : Tree) (vars : Scopes) (host : H) (replies more : List Reply) (budget : ℕ) → (state_after (evaluate g tree vars host replies budget)).cost ≤ (state_after (evaluate g tree vars host (replies ++ more) budget)).cost
unfolding evaluate
evaluation_dearer g tree vars host replies more budget =
    let st = state vars host replies budget 0 [] in
    let k = (meaning_same free (dearer more g.table) (grows g.table) g.statics g.procedures inner_limit inner_limit tree []).0 st (with_more more st) refl in
    dearer_cost more _ _ k

-- so what a body that runs or waits pays grows with the input
pub there_longer : (g : Setup) (l : TraceState) (f : Further) → paid_there g l ≤ paid_there g (longer f l)
there_longer g l f = by_phase l.phase
  where
    by_phase : (p : Phase) → open_at g p l ≤ open_at g p (longer f l)
    by_phase (InEvent e (Running b bs n)) = let k = evaluation_dearer (body_setting g b.procedures) b.body l.vars l.host l.answers.replies f.replies g.budget in omega (arith, k)
    by_phase other = omega arith

-- an act of a body may always be given
always : (number : ℕ) (a : Act) (sent : Counts) (took : TakenCounts) → may_give (act_item number a) sent took ≡ true
always number (Did (effect.Logged text)) sent took = refl
always number (Did (effect.Sent side bytes)) sent took = refl
always number (act.Called path call) sent took = refl

-- the item and the state that come next
abbrev item_of : Item → Next → Item
item_of other (Does i m) = i
item_of other n = other

abbrev state_of : TraceState → Next → TraceState
state_of l (Does i m) = m
state_of l n = l

-- no cut is taken where a body may give an act, or waits for a reply
gives_on : (g : Setup) (cut : Option Cut) (l m : TraceState) (i : Item) → ((sent : Counts) (took : TakenCounts) → may_give i sent took ≡ true) → cut_next g cut l (Does i m) ≡ Does i m
gives_on g None l m i may = refl
gives_on g (Some c) l m i may = by_finish l.finished
  where
    by_finish : (b : Bool) → (if b then Does i m else cut_open g c l (Does i m)) ≡ Does i m
    by_finish true = refl
    by_finish false = ap (λ b. if b || not (cut_takes g.http c.reason None) then Does i m else finish g (CutBy c.reason) (uncut l)) (may l.sent c.took)

reply_uncut : (http : Bool) (reason : CutReason) (call : List (List ℕ)) → cut_takes http reason (Some (ForReply call)) ≡ false
reply_uncut true ClientReset call = refl
reply_uncut true ServerReset call = refl
reply_uncut true Idle call = refl
reply_uncut false ClientReset call = refl
reply_uncut false ServerReset call = refl
reply_uncut false Idle call = refl

waits_on : (g : Setup) (cut : Option Cut) (l : TraceState) (call : List (List ℕ)) → cut_next g cut l (Waits (ForReply call)) ≡ Waits (ForReply call)
waits_on g None l call = refl
waits_on g (Some c) l call = by_finish l.finished
  where
    by_finish : (b : Bool) → (if b then Waits (ForReply call) else cut_open g c l (Waits (ForReply call))) ≡ Waits (ForReply call)
    by_finish true = refl
    by_finish false = ap (λ b. if b then finish g (CutBy c.reason) (uncut l) else Waits (ForReply call)) (reply_uncut g.http c.reason call)

-- each item keeps what is paid: a body goes on at the same cost, or its item has it
module _ (g : Setup) (l m : TraceState) (i : Item) where
  next_there : (e : EventName) (b : Handler) (bs : List Handler) (n : ℕ) → l.phase ≡ InEvent e (Running b bs n) → next_item g l ≡ counted l.sent (cut_next g l.answers.cut l (phase_next g (InEvent e (Running b bs n)) l))
  unfolding next_item
  next_there e b bs n is = ap (λ p. counted l.sent (cut_next g l.answers.cut l (phase_next g p l))) is

  by_end : (e : EventName) (b : Handler) (bs : List Handler) (o : Outcome HostState) → run_body g b l ≡ o → counted l.sent (cut_next g l.answers.cut l (ended_next g e b bs l o)) ≡ Does i m → 3 * (state_after (run_body g b l)).cost + 2 ≤ paid_by (i ∷ []) + paid_there g m
  by_end e b bs (Ends code st) is step =
      let given = ap (counted l.sent) (sym (gives_on g l.answers.cut l _ (Ran e st.cost) (λ sent took. refl))) ∙ step in
      let same : Ran e st.cost ≡ i = ap (item_of i) given in
      let worth : paid_by (i ∷ []) ≡ 3 * st.cost + 2 = ap (λ x. paid_by (x ∷ [])) (sym same) ∙ omega arith in
      let cost = ap (λ x. (state_after x).cost) is in omega (arith, worth, cost)
  by_end e b bs (Stops path call st) is step = absurd (let x = sym (ap (counted l.sent) (waits_on g l.answers.cut l call)) ∙ step in cc)

  by_act : (e : EventName) (b : Handler) (bs : List Handler) (n : ℕ) (v : Option Act) → counted l.sent (cut_next g l.answers.cut l (act_next e b bs n l v (ended_next g e b bs l (run_body g b l)))) ≡ Does i m → 3 * (state_after (run_body g b l)).cost + 2 ≤ paid_by (i ∷ []) + paid_there g m
  by_act e b bs n (Some a) step =
      let r = record l { phase = InEvent e (Running b bs (n + 1)) } in
      let given = ap (counted l.sent) (sym (gives_on g l.answers.cut l r (act_item l.sent.number a) (always l.sent.number a))) ∙ step in
      let same : 3 * (state_after (run_body g b l)).cost + 2 ≡ paid_there g m = ap (λ x. paid_there g (state_of l x)) given in omega (arith, same)
  by_act e b bs n None step = by_end e b bs (run_body g b l) refl step

  pub item_pays : next_item g l ≡ Does i m → paid_there g l ≤ paid_by (i ∷ []) + paid_there g m
  item_pays step = by_phase l.phase refl
    where
      by_phase : (p : Phase) → l.phase ≡ p → open_at g p l ≤ paid_by (i ∷ []) + paid_there g m
      by_phase (InEvent e (Running b bs n)) is = by_act e b bs n (slice_get (state_after (run_body g b l)).acts n) (sym (next_there e b bs n is) ∙ step)
      by_phase other is = omega arith

pub items_pay : (g : Setup) (l at : TraceState) (items : List Item) → Unfolds g l items at → paid_there g l ≤ paid_by items + paid_there g at
items_pay g l at [] u = let e = ap (paid_there g) u in omega (arith, e)
items_pay g l at (i ∷ items) (mid, step, rest) =
    let one = item_pays g l mid i step in
    let more = items_pay g mid at items rest in
    let j = paid_joins (i ∷ []) items in omega (arith, one, more, j)
