-- What single combinators come to from alike states: what does the same as itself.
use Rattle.std.proofs.Common.{◌≡◌, refl, subst, ℕ, zero, suc, ◌+◌, List, [], ◌∷◌, drop, Bool, true, false, Result, Ok, Err}
use Rattle.px_bytes.specs.FaultText.{budget_spent}
use Rattle.px_bytes.specs.declared.fault.TclFault.{TclFault}
use Rattle.tcl_trees.specs.Tree.{Tree}
use Rattle.tcl_expr.specs.declared.expr.Joint.{Joint}
use Rattle.tcl_vars.specs.Scopes.{out_of_proc}
use Rattle.rule_model.specs.Commands.{code_left, left, leave}
use Rattle.rule_model.specs.Control.{after_body, after_next, turn, turns, Row, turn_assigned, row_loop}
use Rattle.rule_model.specs.Evaluator.{eval, inner}
use Rattle.rule_model.specs.Expressions.{then_truth, by_value, joint_value, joined_value, after_test, first_true}
use Rattle.rule_model.specs.Outcome.{State, Outcome, Ends, Waits, Meaning, then_code, then_value, changed, heard_code, heard}
use Rattle.rule_model.specs.Setting.{Setting}
use Rattle.rule_model.specs.declared.code.Code.{Code}
use Rattle.rule_model.specs.declared.code.Code.TheVariants.{Value, Raised, Return, Break, Continue}
use Rattle.rule_model.proofs.Alike.{Fact, Alike, Same, SameMeaning, ends_same, code_same, then_same, spend_same, changed_same}
use Rattle.rule_model.proofs.Calls.{SameInner}
use Rattle.rule_model.proofs.Facts.{Free, free as any}
use Rattle.rule_model.proofs.Pieces.{AllSame, AllJoined, AllPaired, then_truth_same, first_true_same}
use Rattle.rule_model.proofs.Trees.{meaning_same}
use Rattle.frames.specs.Frames.{after_condition}

-- what is heard of an outcome
heard_is : {H : Type 0} (wanted : Bool) (o : Outcome H) → then_code o (λ c st. Ends (heard_code wanted c) st) ≡ heard wanted o
heard_is wanted (Ends c st) = refl
heard_is wanted (Waits path call st) = refl

module _ {H : Type 0} (g : Setting H) {R : State H → State H → Type 0} {O : Outcome H → Outcome H → Type 0} {Q : State H → Outcome H → Type 0} (s : Alike g.table g.table R O Q) (f : Fact g.table Free Q) where
  -- what does the same as itself
  abbrev pub Fine : (State H → Outcome H) → Type 0
  Fine m = Same R O Q m m

  abbrev pub FineAt : Meaning H → Type 0
  FineAt m = SameMeaning R O Q m m

  abbrev pub AllFine : List (Meaning H) → Type 0
  AllFine ms = AllSame R O Q ms ms

  pub drop_fine : (n : ℕ) (ms : List (Meaning H)) → AllFine ms → AllFine (drop n ms)
  drop_fine zero ms h = h
  drop_fine (suc n) [] h = tt
  drop_fine (suc n) (m ∷ ms) h = drop_fine n ms h.1

  pub drop_joined : (n : ℕ) (ms : List (Joint × Meaning H)) → AllJoined R O Q ms ms → AllJoined R O Q (drop n ms) (drop n ms)
  drop_joined zero ms h = h
  drop_joined (suc n) [] h = tt
  drop_joined (suc n) (m ∷ ms) h = drop_joined n ms h.2

  pub drop_paired : (n : ℕ) (ms : List (Meaning H × Meaning H)) → AllPaired R O Q ms ms → AllPaired R O Q (drop n ms) (drop n ms)
  drop_paired zero ms h = h
  drop_paired (suc n) [] h = tt
  drop_paired (suc n) (m ∷ ms) h = drop_paired n ms h.2

  pub ended : (c : Code) → Fine (Ends c)
  ended c = ends_same s f c

  pub code_fine : (m : State H → Outcome H) (go : Code → State H → Outcome H) → Fine m → ((c : Code) → Fine (go c)) → Fine (λ a. then_code (m a) go)
  code_fine m go h k = code_same s f m m go go h k

  pub value_fine : (m : State H → Outcome H) (go : List ℕ → State H → Outcome H) → Fine m → ((v : List ℕ) → Fine (go v)) → Fine (λ a. then_value (m a) go)
  value_fine m go h k = then_same s f m m go go h k

  pub truth_fine : (m : State H → Outcome H) (go : Bool → State H → Outcome H) → Fine m → ((b : Bool) → Fine (go b)) → Fine (λ a. then_truth (m a) go)
  truth_fine m go h k = then_truth_same s f m m go go h k

  pub heard_fine : (wanted : Bool) (m : State H → Outcome H) → Fine m → Fine (λ a. heard wanted (m a))
  heard_fine wanted m h =
      let go = λ (c : Code) (st : State H). Ends (heard_code wanted c) st in
      let k = code_fine m go h (λ c. ended (heard_code wanted c)) in (
        (λ a b r. subst (λ x. O x (heard wanted (m b))) (heard_is wanted (m a)) (subst (λ y. O (then_code (m a) go) y) (heard_is wanted (m b)) (k.0 a b r))),
        λ b. subst (λ y. Q b y) (heard_is wanted (m b)) (k.1 b),
      )

  pub leave_fine : (m : State H → Outcome H) → Fine m → Fine (λ a. then_code (m a) leave)
  leave_fine m h = (
    (λ a b r. s.leaves (m a) (m b) (h.0 a b r)),
    λ b. f.joins b (m b) leave (h.1 b) (λ c d. f.sets d (out_of_proc d.vars) (leave c d) tt (f.ends (code_left c) (left d))),
  )

  -- expressions
  pub joined_fine : (go : List ℕ → Meaning H) → ((v : List ℕ) → FineAt (go v)) → (joint : Joint) (left path right : List ℕ) → Fine (joined_value go joint left path right)
  joined_fine go k joint left path right = by_result (joint_value joint left right)
    where
      by_result : (r : Result (List ℕ) TclFault) → Fine (by_value r (λ v st. go v path st))
      by_result (Ok v) = k v path
      by_result (Err e) = ended (Raised e)

  pub test_fine : (m n : Meaning H) → FineAt m → FineAt n → (path : List ℕ) (holds : Bool) → Fine (after_test m n path holds)
  test_fine m n h k path true = h path
  test_fine m n h k path false = k path

  pub condition_fine : (price : ℕ) (ms : List (Meaning H × Meaning H)) → AllPaired R O Q ms ms → (last : Meaning H) → FineAt last → (path : List ℕ) (holds : Bool) → Fine (after_condition price ms last path holds)
  condition_fine price [] h last k path holds = k path
  condition_fine price (v ∷ more) h last k path holds = test_fine v.1 (first_true price more last) h.1 (first_true_same s f price more more h.2 last last k) path holds

  -- loops
  pub body_fine : (go : State H → Outcome H) → Fine go → (c : Code) → Fine (after_body go c)
  body_fine go h (Value v) = h
  body_fine go h (Raised e) = ended (Raised e)
  body_fine go h (Return v) = ended (Return v)
  body_fine go h Break = ended (Value [])
  body_fine go h Continue = h

  pub next_fine : (go : State H → Outcome H) → Fine go → (c : Code) → Fine (after_next go c)
  next_fine go h (Value v) = h
  next_fine go h (Raised e) = ended (Raised e)
  next_fine go h (Return v) = ended (Return v)
  next_fine go h Break = ended (Value [])
  next_fine go h Continue = ended Continue

  pub turn_fine : (n : ℕ) (test body next : Meaning H) → FineAt test → FineAt body → FineAt next → (path : List ℕ) (holds : Bool) → Fine (turn n test body next path holds)
  turn_fine zero test body next h k l path false = ended (Value [])
  turn_fine (suc n) test body next h k l path false = ended (Value [])
  turn_fine zero test body next h k l path true = ended (Raised budget_spent)
  turn_fine (suc n) test body next h k l path true =
      let tests = λ (e : State H). then_truth (test path e) (turn n test body next path) in
      let follows = λ (b : State H). then_code (next path b) (after_next tests) in
      let runs = λ (a : State H). then_code (body path a) (after_body follows) in
      spend_same s f runs runs (code_fine (body path) (after_body follows) (k path) (body_fine follows
      (code_fine (next path) (after_next tests) (l path) (next_fine tests
      (truth_fine (test path) (turn n test body next path) (h path) (turn_fine n test body next h k l path))))))

  pub turns_fine : (n : ℕ) (test body next : Meaning H) → FineAt test → FineAt body → FineAt next → FineAt (turns n test body next)
  turns_fine n test body next h k l path = truth_fine (test path) (turn n test body next path) (h path) (turn_fine n test body next h k l path)

  pub rows_fine : (rows : List Row) (body : Meaning H) → FineAt body → (n at : ℕ) → FineAt (row_loop g.statics rows body n at)
  rows_fine rows body h zero at path = ended (Value [])
  rows_fine rows body h (suc n) at path =
      let more = row_loop g.statics rows body n (at + 1) path in
      let sets = λ (a : State H). changed (turn_assigned g.statics at rows a.vars) a in
      let runs = λ (v : List ℕ) (a : State H). then_code (body path a) (after_body more) in
      let turn = λ (a : State H). then_value (sets a) runs in
      spend_same s f turn turn (value_fine sets runs (changed_same s f (turn_assigned g.statics at rows) (λ v. tt)) (λ v.
      code_fine (body path) (after_body more) (h path) (body_fine more (rows_fine rows body h n (at + 1) path))))

  pub tree_fine : (e c : ℕ) (t : Tree) → FineAt (eval g (inner g e c) t)
  tree_fine e c t = meaning_same any s f g.statics g.procedures e c t

  pub inner_fine : (e c : ℕ) → SameInner R O Q (inner g e c) (inner g e c)
  inner_fine zero zero = record { call = tt; expression = tt }
  inner_fine zero (suc c) = record { call = λ t. tree_fine zero c t; expression = tt }
  inner_fine (suc e) zero = record { call = tt; expression = λ t. tree_fine e zero t }
  inner_fine (suc e) (suc c) = record { call = λ t. tree_fine (suc e) c t; expression = λ t. tree_fine e (suc c) t }
