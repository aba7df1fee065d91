-- Laws of two evaluations of one tree: with more replies, and by a host of which only a view is seen.
use Rattle.std.proofs.Common.{◌≡◌, refl, sym, ap, ◌∙◌, subst, Option, ℕ, List, [], ◌∷◌, ◌++◌, append_assoc}
use Rattle.std.proofs.lemmas.List.{append-nil}
use Rattle.px_bytes.specs.declared.fault.Reply.{Reply}
use Rattle.tcl_trees.specs.Procedures.{Procedure}
use Rattle.tcl_trees.specs.Tree.{Tree}
use Rattle.tcl_vars.specs.Scopes.{Level}
use Rattle.rule_model.specs.Host.{HostStep, Gives, Faults, Asks}
use Rattle.rule_model.specs.Outcome.{State, Outcome, Ends, Waits, then_code, paid, ask_in, answered}
use Rattle.rule_model.specs.declared.code.Code.{Code}
use Rattle.rule_model.specs.Setting.{Setting}
use Rattle.rule_model.specs.Commands.{leave}
use Rattle.rule_model.specs.Laws.{meaning, with_more, Lengthens, step_seen, state_seen, outcome_seen, SeenAs}
use Rattle.rule_model.proofs.Alike.{with_vars, spent, Fact, Alike}
use Rattle.rule_model.proofs.Facts.{Free, free, Grown, grows, leave_grown}
use Rattle.rule_model.proofs.Trees.{meaning_same}

-- with more replies
module _ {H : Type 0} (more : List Reply) where
  abbrev Behind : State H → State H → Type 0
  Behind a b = b ≡ with_more more a

  abbrev goes : Outcome H → Outcome H → Type 0
  goes = Lengthens more

  then_longer : (o p : Outcome H) (go on : Code → State H → Outcome H) → Lengthens more o p → ((c : Code) (a b : State H) → Behind a b → Lengthens more (go c a) (on c b)) → ((c : Code) (b : State H) → Grown b (on c b)) → Lengthens more (then_code o go) (then_code p on)
  then_longer (Ends c a) p go on h k l = subst (λ p. Lengthens more (go c a) (then_code p on)) (sym h) (k c a (with_more more a) refl)
  then_longer (Waits path call a) (Ends c b) go on h k l = let g = (l c b).acts in (h.0 ++ g.0, g.1 ∙ ap (λ x. x ++ g.0) h.1 ∙ append_assoc a.acts h.0 g.0)
  then_longer (Waits path call a) (Waits path' call' b) go on h k l = h

  leave_longer : (c : Code) (a b : State H) → Behind a b → Lengthens more (leave c a) (leave c b)
  leave_longer c a b e = ap (leave c) e

  ask_by : (left behind : List Reply) (call : List (List ℕ)) (path : List ℕ) (st : State H) → Lengthens behind (ask_in left call path st) (ask_in (left ++ behind) call path (with_more behind st))
  ask_by [] [] call path st = ([], sym (append-nil _))
  ask_by [] (r ∷ behind) call path st = ([], sym (append-nil _))
  ask_by (r ∷ left) behind call path st = refl

  ask_longer : (left : List Reply) (call : List (List ℕ)) (path : List ℕ) (st : State H) → Lengthens more (ask_in left call path st) (ask_in (left ++ more) call path (with_more more st))
  ask_longer left call path st = ask_by left more call path st

  answered_longer : (step : HostStep H) (path : List ℕ) (a : State H) → Lengthens more (answered step path a) (answered step path (with_more more a))
  answered_longer (Gives v h effects) path a = refl
  answered_longer (Faults f h effects) path a = refl
  answered_longer (Asks call h) path a = ask_longer a.replies call path (record a { host = h })

  longer : (table : H → List (List ℕ) → HostStep H) → Alike table table Behind goes Grown
  longer table = record {
    vars = λ a b e. sym (ap (λ st. st.vars) e);
    budget = λ a b e. sym (ap (λ st. st.budget) e);
    sets = λ a b v e. ap (with_vars v) e;
    pays = λ a b n e. ap (paid n) e;
    spends = λ a b e. ap spent e;
    ends = λ a b c e. ap (Ends c) e;
    joins = then_longer;
    leaves = λ o p h. then_longer o p leave leave h leave_longer leave_grown;
    answers = λ a b words path e. subst (λ st. Lengthens more (answered (table a.host words) path a) (answered (table st.host words) path st)) (sym e) (answered_longer (table a.host words) path a);
  }

pub more_replies : {H : Type 0} (g : Setting H) (expressions calls : ℕ) (tree : Tree) (path : List ℕ) (st : State H) (more : List Reply)
    → Lengthens more (meaning g expressions calls tree path st) (meaning g expressions calls tree path (with_more more st))
more_replies g expressions calls tree path st more =
    (meaning_same free (longer more g.table) (grows g.table) g.statics g.procedures expressions calls tree path).0 st (with_more more st) refl

-- by a wider host
module _ {H K : Type 0} (view : K → H) where
  abbrev Seen : State K → State H → Type 0
  Seen a b = state_seen view a ≡ b

  abbrev Ended : Outcome K → Outcome H → Type 0
  Ended o p = outcome_seen view o ≡ p

  abbrev Anything : State H → Outcome H → Type 0
  Anything b p = Unit {0}

  then_seen : (o : Outcome K) (p : Outcome H) (go : Code → State K → Outcome K) (on : Code → State H → Outcome H) → Ended o p → ((c : Code) (a : State K) (b : State H) → Seen a b → Ended (go c a) (on c b)) → Ended (then_code o go) (then_code p on)
  then_seen (Ends c a) p go on h k = k c a (state_seen view a) refl ∙ ap (λ p. then_code p on) h
  then_seen (Waits path call a) p go on h k = ap (λ p. then_code p on) h

  leave_seen : (c : Code) (a : State K) (b : State H) → Seen a b → Ended (leave c a) (leave c b)
  leave_seen c a b e = ap (leave c) e

  asked_seen : (left : List Reply) (call : List (List ℕ)) (path : List ℕ) (a : State K) → Ended (ask_in left call path a) (ask_in left call path (state_seen view a))
  asked_seen [] call path a = refl
  asked_seen (r ∷ more) call path a = refl

  answered_seen : (step : HostStep K) (path : List ℕ) (a : State K) → Ended (answered step path a) (answered (step_seen view step) path (state_seen view a))
  answered_seen (Gives v h effects) path a = refl
  answered_seen (Faults f h effects) path a = refl
  answered_seen (Asks call h) path a = asked_seen a.replies call path (record a { host = h })

  seen : (t : K → List (List ℕ) → HostStep K) (u : H → List (List ℕ) → HostStep H) → ((host : K) (words : List (List ℕ)) → step_seen view (t host words) ≡ u (view host) words) → Alike t u Seen Ended Anything
  seen t u is = record {
    vars = λ a b e. ap (λ st. st.vars) e;
    budget = λ a b e. ap (λ st. st.budget) e;
    sets = λ a b v e. ap (with_vars v) e;
    pays = λ a b n e. ap (paid n) e;
    spends = λ a b e. ap spent e;
    ends = λ a b c e. ap (Ends c) e;
    joins = λ o p go on h k l. then_seen o p go on h k;
    leaves = λ o p h. then_seen o p leave leave h leave_seen;
    answers = λ a b words path e.
        answered_seen (t a.host words) path a
        ∙ ap (λ step. answered step path (state_seen view a)) (is a.host words)
        ∙ ap (λ st. answered (u st.host words) path st) e;
  }

  anything : (table : H → List (List ℕ) → HostStep H) → Fact table Free Anything
  anything table = record {
    ends = λ c b. tt;
    joins = λ b p go h k. tt;
    pays = λ n b p h. tt;
    spends = λ b p h. tt;
    sets = λ b v p r h. tt;
    calls = λ b v p r h. tt;
    answers = λ b words path. tt;
  }

with_same : {H : Type 0} (g : Setting H) (statics : Option Level) (procedures : List Procedure) → statics ≡ g.statics → procedures ≡ g.procedures → (expressions calls : ℕ) (tree : Tree) (path : List ℕ) (st : State H)
    → meaning (record { statics = statics; table = g.table; procedures = procedures }) expressions calls tree path st ≡ meaning g expressions calls tree path st
with_same g statics procedures e k expressions calls tree path st =
    ap (λ x. meaning (record { statics = x; table = g.table; procedures = procedures }) expressions calls tree path st) e
    ∙ ap (λ x. meaning (record { statics = g.statics; table = g.table; procedures = x }) expressions calls tree path st) k

pub wider_agrees : {H K : Type 0} (view : K → H) (wide : Setting K) (plain : Setting H) → SeenAs view wide plain → (expressions calls : ℕ) (tree : Tree) (path : List ℕ) (st : State K)
    → outcome_seen view (meaning wide expressions calls tree path st) ≡ meaning plain expressions calls tree path (state_seen view st)
wider_agrees view wide plain is expressions calls tree path st =
    (meaning_same free (seen view wide.table plain.table is.steps) (anything view plain.table) wide.statics wide.procedures expressions calls tree path).0 st (state_seen view st) refl
    ∙ with_same plain wide.statics wide.procedures is.statics is.procedures expressions calls tree path (state_seen view st)
