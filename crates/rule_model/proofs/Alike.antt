-- What two evaluations of one tree keep that begin alike: a relation of states and outcomes, and
-- beside it a fact of the second alone. Each law is an instance.
use Rattle.std.proofs.Common.{◌≡◌, subst, ap, ℕ, ◌+◌, ◌-◌, List, Bool, true, false}
use Rattle.std.proofs.Common.{if◌then◌else◌, nat_eq, Result}
use Rattle.px_bytes.specs.FaultText.{budget_spent}
use Rattle.px_bytes.specs.declared.fault.TclFault.{TclFault}
use Rattle.tcl_vars.specs.Scopes.{Scopes, in_proc}
use Rattle.tcl_var_commands.specs.Changed.{Changed}
use Rattle.rule_model.specs.Host.{HostStep}
use Rattle.rule_model.specs.Outcome.{State, Outcome, Ends, Meaning, then_code, with_value, then_value, paid, spend, ends, code_of, changed, answered}
use Rattle.rule_model.specs.declared.code.Code.{Code}
use Rattle.rule_model.specs.declared.code.Code.TheVariants.{Value, Raised, Return, Break, Continue}
use Rattle.rule_model.specs.Commands.{leave}

-- the state with these variables, and the one that spent a unit
abbrev pub with_vars : {H : Type 0} → Scopes → State H → State H
with_vars vars st = record st { vars = vars }

abbrev pub spent : {H : Type 0} → State H → State H
spent st = record st { budget = st.budget - 1; cost = st.cost + 1 }

-- a fact of a state and the outcome that comes of it
pub record Fact {K : Type 0} (table : K → List (List ℕ) → HostStep K) (V : Scopes → Scopes → Type 0) (Q : State K → Outcome K → Type 0) : Type 0 where
  pub ends : (c : Code) (b : State K) → Q b (Ends c b)
  pub joins : (b : State K) (p : Outcome K) (go : Code → State K → Outcome K) → Q b p → ((c : Code) (d : State K) → Q d (go c d)) → Q b (then_code p go)
  pub pays : (n : ℕ) (b : State K) (p : Outcome K) → Q (paid n b) p → Q b p
  pub spends : (b : State K) (p : Outcome K) → Q (spent b) p → Q b p
  pub sets : (b : State K) (v : Scopes) (p : Outcome K) → V b.vars v → Q (with_vars v b) p → Q b p
  pub calls : (b : State K) (v : Scopes) (p : Outcome K) → V (in_proc b.vars) v → Q (with_vars v b) p → Q b (then_code p leave)
  pub answers : (b : State K) (words : List (List ℕ)) (path : List ℕ) → Q b (answered (table b.host words) path b)

-- alike states, and alike outcomes
pub record Alike {H K : Type 0} (t : H → List (List ℕ) → HostStep H) (u : K → List (List ℕ) → HostStep K) (R : State H → State K → Type 0) (O : Outcome H → Outcome K → Type 0) (Q : State K → Outcome K → Type 0) : Type 0 where
  pub vars : (a : State H) (b : State K) → R a b → a.vars ≡ b.vars
  pub budget : (a : State H) (b : State K) → R a b → a.budget ≡ b.budget
  pub sets : (a : State H) (b : State K) (v : Scopes) → R a b → R (with_vars v a) (with_vars v b)
  pub pays : (a : State H) (b : State K) (n : ℕ) → R a b → R (paid n a) (paid n b)
  pub spends : (a : State H) (b : State K) → R a b → R (spent a) (spent b)
  pub ends : (a : State H) (b : State K) (c : Code) → R a b → O (Ends c a) (Ends c b)
  pub joins : (o : Outcome H) (p : Outcome K) (go : Code → State H → Outcome H) (on : Code → State K → Outcome K) → O o p
      → ((c : Code) (a : State H) (b : State K) → R a b → O (go c a) (on c b)) → ((c : Code) (b : State K) → Q b (on c b)) → O (then_code o go) (then_code p on)
  pub leaves : (o : Outcome H) (p : Outcome K) → O o p → O (then_code o leave) (then_code p leave)
  pub answers : (a : State H) (b : State K) (words : List (List ℕ)) (path : List ℕ) → R a b → O (answered (t a.host words) path a) (answered (u b.host words) path b)

-- from alike states alike outcomes come, and of the second the fact holds
abbrev pub Same : {H K : Type 0} (R : State H → State K → Type 0) (O : Outcome H → Outcome K → Type 0) (Q : State K → Outcome K → Type 0) → (State H → Outcome H) → (State K → Outcome K) → Type 0
Same {H = H} {K = K} R O Q m n = ((a : State H) (b : State K) → R a b → O (m a) (n b)) × ((b : State K) → Q b (n b))

abbrev pub SameMeaning : {H K : Type 0} (R : State H → State K → Type 0) (O : Outcome H → Outcome K → Type 0) (Q : State K → Outcome K → Type 0) → Meaning H → Meaning K → Type 0
SameMeaning R O Q m n = (path : List ℕ) → Same R O Q (m path) (n path)

module _ {H K : Type 0} {t : H → List (List ℕ) → HostStep H} {u : K → List (List ℕ) → HostStep K} {V : Scopes → Scopes → Type 0}
    {R : State H → State K → Type 0} {O : Outcome H → Outcome K → Type 0} {Q : State K → Outcome K → Type 0} (s : Alike t u R O Q) (f : Fact u V Q) where
  pub ends_same : (c : Code) → Same R O Q (Ends c) (Ends c)
  ends_same c = ((λ a b r. s.ends a b c r), λ b. f.ends c b)

  pub code_same : (m : State H → Outcome H) (n : State K → Outcome K) (go : Code → State H → Outcome H) (on : Code → State K → Outcome K)
      → Same R O Q m n → ((c : Code) → Same R O Q (go c) (on c)) → Same R O Q (λ a. then_code (m a) go) (λ b. then_code (n b) on)
  code_same m n go on h k = (
    (λ a b r. s.joins (m a) (n b) go on (h.0 a b r) (λ c d e. (k c).0 d e) (λ c. (k c).1)),
    λ b. f.joins b (n b) on (h.1 b) (λ c. (k c).1),
  )

  with_same : (go : List ℕ → State H → Outcome H) (on : List ℕ → State K → Outcome K) → ((v : List ℕ) → Same R O Q (go v) (on v)) → (c : Code) → Same R O Q (with_value go c) (with_value on c)
  with_same go on k (Value v) = k v
  with_same go on k (Raised e) = ends_same (Raised e)
  with_same go on k (Return v) = ends_same (Return v)
  with_same go on k Break = ends_same Break
  with_same go on k Continue = ends_same Continue

  pub then_same : (m : State H → Outcome H) (n : State K → Outcome K) (go : List ℕ → State H → Outcome H) (on : List ℕ → State K → Outcome K)
      → Same R O Q m n → ((v : List ℕ) → Same R O Q (go v) (on v)) → Same R O Q (λ a. then_value (m a) go) (λ b. then_value (n b) on)
  then_same m n go on h k = code_same m n (with_value go) (with_value on) h (with_same go on k)

  pub if_same : (b : Bool) (m m' : State H → Outcome H) (n n' : State K → Outcome K) → Same R O Q m n → Same R O Q m' n' → Same R O Q (λ a. if b then m a else m' a) (λ a. if b then n a else n' a)
  if_same true m m' n n' h k = h
  if_same false m m' n n' h k = k

  pub paid_same : (k : ℕ) (m : State H → Outcome H) (n : State K → Outcome K) → Same R O Q m n → Same R O Q (λ a. m (paid k a)) (λ b. n (paid k b))
  paid_same k m n h = ((λ a b r. h.0 (paid k a) (paid k b) (s.pays a b k r)), λ b. f.pays k b (n (paid k b)) (h.1 (paid k b)))

  spend_by : (i j : Bool) (a : State H) (b : State K) (m : State H → Outcome H) (n : State K → Outcome K) → i ≡ j → R a b → Same R O Q m n
      → O (if i then Ends (Raised budget_spent) a else m (spent a)) (if j then Ends (Raised budget_spent) b else n (spent b))
  spend_by true true a b m n e r h = s.ends a b (Raised budget_spent) r
  spend_by false false a b m n e r h = h.0 (spent a) (spent b) (s.spends a b r)
  spend_by true false a b m n e r h = cc
  spend_by false true a b m n e r h = cc

  spend_fact : (j : Bool) (b : State K) (n : State K → Outcome K) → ((d : State K) → Q d (n d)) → Q b (if j then Ends (Raised budget_spent) b else n (spent b))
  spend_fact true b n h = f.ends (Raised budget_spent) b
  spend_fact false b n h = f.spends b (n (spent b)) (h (spent b))

  pub spend_same : (m : State H → Outcome H) (n : State K → Outcome K) → Same R O Q m n → Same R O Q (λ a. spend a m) (λ b. spend b n)
  spend_same m n h = (
    (λ a b r. spend_by (nat_eq a.budget 0) (nat_eq b.budget 0) a b m n (ap (λ k. nat_eq k 0) (s.budget a b r)) r h),
    λ b. spend_fact (nat_eq b.budget 0) b n h.1,
  )

  -- what only looks at the variables
  pub reads_same : (read : Scopes → Result (List ℕ) TclFault) → Same R O Q (λ a. ends (read a.vars) a) (λ b. ends (read b.vars) b)
  reads_same read = (
    (λ a b r. subst (λ v. O (Ends (code_of (read a.vars)) a) (Ends (code_of (read v)) b)) (s.vars a b r) (s.ends a b (code_of (read a.vars)) r)),
    λ b. f.ends (code_of (read b.vars)) b,
  )

  -- what changes the variables
  pub changed_both : (go : Scopes → Changed) (a : State H) (b : State K) → R a b → O (changed (go a.vars) a) (changed (go b.vars) b)
  changed_both go a b r =
      subst (λ v. O (changed (go a.vars) a) (changed (go v) b)) (s.vars a b r)
      (s.ends (with_vars (go a.vars).vars a) (with_vars (go a.vars).vars b) (code_of (go a.vars).value) (s.sets a b (go a.vars).vars r))

  pub changed_same : (go : Scopes → Changed) → ((v : Scopes) → V v (go v).vars) → Same R O Q (λ a. changed (go a.vars) a) (λ b. changed (go b.vars) b)
  changed_same go k = (
    changed_both go,
    λ b. f.sets b (go b.vars).vars (changed (go b.vars) b) (k b.vars) (f.ends (code_of (go b.vars).value) (with_vars (go b.vars).vars b)),
  )
