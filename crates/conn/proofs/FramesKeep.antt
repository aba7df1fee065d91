-- What was done before stays in front of all that frames come to, and changes nothing of it.
use Rattle.std.proofs.Common.{◌≡◌, refl, sym, ap, ◌∙◌, ℕ, List, [], ◌∷◌, ◌++◌, append-nil, append_assoc, map}
use Rattle.px_bytes.specs.declared.fault.Reply.{Reply}
use Rattle.tcl_trees.specs.Tree.{Tree}
use Rattle.tcl_vars.specs.Scopes.{Scopes}
use Rattle.rule_model.specs.Commands.{leave}
use Rattle.rule_model.specs.Host.{HostStep, Gives, Faults, Asks}
use Rattle.rule_model.specs.Laws.{state_after}
use Rattle.rule_model.specs.Outcome.{Act, Did, Called, State, state, Outcome, Ends, Waits, then_code, paid, reply_code, ask_in, ask, answered}
use Rattle.rule_model.specs.Setting.{Setting}
use Rattle.rule_model.specs.declared.code.Code.{Code}
use Rattle.rule_model.specs.declared.code.Code.TheVariants.{Value, Raised}
use Rattle.rule_model.proofs.Alike.{Fact, Alike, SameMeaning, with_vars, spent}
use Rattle.rule_model.proofs.Facts.{Free}
use Rattle.frames.specs.Frames.{full_room, comes_to}
use Rattle.frames.specs.declared.frame.Standing.{Standing}
use Rattle.conn.proofs.FramesAlike.{frames_same}

-- the same with these acts in front
abbrev pub behind : {H : Type 0} → List Act → State H → State H
behind acts st = record st { acts = acts ++ st.acts }

abbrev pub all_behind : {H : Type 0} → List Act → Outcome H → Outcome H
all_behind acts (Ends code st) = Ends code (behind acts st)
all_behind acts (Waits path call st) = Waits path call (behind acts st)

module _ {H : Type 0} (acts : List Act) where
  abbrev Front : State H → State H → Type 0
  Front a b = behind acts a ≡ b

  abbrev Fronted : Outcome H → Outcome H → Type 0
  Fronted o p = all_behind acts o ≡ p

  abbrev Any : State H → Outcome H → Type 0
  Any b p = Unit {0}

  then_fronted : (o p : Outcome H) (go on : Code → State H → Outcome H) → Fronted o p → ((c : Code) (a b : State H) → Front a b → Fronted (go c a) (on c b)) → Fronted (then_code o go) (then_code p on)
  then_fronted (Ends c a) p go on h k = k c a (behind acts a) refl ∙ ap (λ p. then_code p on) h
  then_fronted (Waits path call a) p go on h k = ap (λ p. then_code p on) h

  leave_fronted : (c : Code) (a b : State H) → Front a b → Fronted (leave c a) (leave c b)
  leave_fronted c a b e = ap (leave c) e

  asked_fronted : (left : List Reply) (call : List (List ℕ)) (path : List ℕ) (a : State H) → Fronted (ask_in left call path a) (ask_in left call path (behind acts a))
  asked_fronted [] call path a = ap (λ x. Waits path call (record a { acts = x })) (sym (append_assoc acts a.acts (Called path call ∷ [])))
  asked_fronted (r ∷ more) call path a = ap (λ x. Ends (reply_code r) (record a { replies = more; acts = x })) (sym (append_assoc acts a.acts (Called path call ∷ [])))

  answered_fronted : (step : HostStep H) (path : List ℕ) (a : State H) → Fronted (answered step path a) (answered step path (behind acts a))
  answered_fronted (Gives v h effects) path a = ap (λ x. Ends (Value v) (record a { host = h; acts = x })) (sym (append_assoc acts a.acts (map Did effects)))
  answered_fronted (Faults e h effects) path a = ap (λ x. Ends (Raised e) (record a { host = h; acts = x })) (sym (append_assoc acts a.acts (map Did effects)))
  answered_fronted (Asks call h) path a = asked_fronted a.replies call path (record a { host = h })

  fronted : (table : H → List (List ℕ) → HostStep H) → Alike table table Front Fronted Any
  fronted table = record {
    vars = λ a b e. ap (λ st. st.vars) e;
    budget = λ a b e. ap (λ st. st.budget) e;
    sets = λ a b v e. ap (with_vars v) e;
    pays = λ a b n e. ap (paid n) e;
    spends = λ a b e. ap spent e;
    ends = λ a b c e. ap (Ends c) e;
    joins = λ o p go on h k l. then_fronted o p go on h k;
    leaves = λ o p h. then_fronted o p leave leave h leave_fronted;
    answers = λ a b words path e. answered_fronted (table a.host words) path a ∙ ap (λ st. answered (table st.host words) path st) e;
  }

  any : (table : H → List (List ℕ) → HostStep H) → Fact table Free Any
  any table = record {
    ends = λ c b. tt;
    joins = λ b p go h k. tt;
    pays = λ n b p h. tt;
    spends = λ b p h. tt;
    sets = λ b v p r h. tt;
    calls = λ b v p r h. tt;
    answers = λ b words path. tt;
  }

  asks : (call : List (List ℕ)) → SameMeaning Front Fronted Any (ask call) (ask call)
  asks call path = ((λ a b e. asked_fronted a.replies call path a ∙ ap (ask call path) e), λ b. tt)

-- what frames come to, with these acts before
pub frames_keep : {H : Type 0} (g : Setting H) (t : Tree) (m : Standing) (vars : Scopes) (host : H) (more : List Reply) (cost : ℕ) (acts : List Act)
    → comes_to g t m vars host more cost acts ≡ all_behind acts (comes_to g t m vars host more cost [])
frames_keep g t m vars host more cost acts =
    let first = state vars host more m.budget cost [] in
    let k = frames_same g (fronted acts g.table) (any acts g.table) (asks acts) full_room t m.frames.items m.mode [] in
    sym (k.0 first (behind acts first) refl ∙ ap (λ x. comes_to g t m vars host more cost x) (append-nil acts))

pub acts_behind : {H : Type 0} (acts : List Act) (o : Outcome H) → (state_after (all_behind acts o)).acts ≡ acts ++ (state_after o).acts
acts_behind acts (Ends code st) = refl
acts_behind acts (Waits path call st) = refl

-- so they stay in front
pub acts_stay : {H : Type 0} (g : Setting H) (t : Tree) (m : Standing) (vars : Scopes) (host : H) (more : List Reply) (cost : ℕ) (acts : List Act)
    → (new : List Act) × ((state_after (comes_to g t m vars host more cost acts)).acts ≡ acts ++ new)
acts_stay g t m vars host more cost acts =
    let o = comes_to g t m vars host more cost [] in
    ((state_after o).acts, ap (λ x. (state_after x).acts) (frames_keep g t m vars host more cost acts) ∙ acts_behind acts o)
