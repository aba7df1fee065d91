-- Conditions, operators, and the value beside the first condition that holds.
use Rattle.plain_eval.proofs.Vocabulary
use Vocabulary.{Bool, Err, List, None, Ok, Option, Result, Some, arith, drop, get_or, length, refl}
use Vocabulary.{true, ℕ, ◌*◌, ◌+◌, ◌<◌, ◌≡◌, ◌≤◌, drop_all, Gives, Raise, TclFault, Tree}
use Vocabulary.{operands_of, values_of, node_view, operands_view, values_view, Node, Joint, child}
use Vocabulary.{one, eval, joints, values, Meaning, Outcome, State, then_value, Inner, Setting}
use Vocabulary.{Raised, end_of, ended, kept, kept_end, value_in, Gave, GoesOn, Ran, Stand, Went}
use Vocabulary.{from, End, Halted}
use Rattle.tcl_trees.specs.Tree as tree
use Rattle.tcl_expr.specs.OperatorFaults.{not_truth}
use Rattle.tcl_expr.specs.Truth.{truth}
use Rattle.rule_model.specs.Expressions.{after_test, by_truth, decided, decided_by, first_true}
use Rattle.rule_model.specs.Expressions.{joined_value, joint_value, operands, then_truth}
use Rattle.rule_nodes.specs.Operators.{if_truth, truth_read}
use Rattle.px_bytes.specs.declared.fault.Raise.TheVariants as raise
use Rattle.plain_eval.specs.declared.run.End.TheVariants as end
use Rattle.plain_eval.proofs.InWords.{child_ran, split_at}
use Rattle.plain_eval.proofs.Steps.{at_stand, goes_by, goes_then, heard_goes, paid_gave, told_value}
use Rattle.plain_eval.proofs.Steps.{valued}

if_some : (t : Option Bool) (v : List ℕ) (b : Bool) → if_truth t v ≡ Ok b → t ≡ Some b
if_some (Some x) v b h = cc
if_some None v b h = cc

if_none : (t : Option Bool) (v : List ℕ) (f : TclFault) → if_truth t v ≡ Err f → (t ≡ None) × (not_truth v ≡ f)
if_none (Some x) v f h = cc
if_none None v f h = (refl, cc)

module _ {H : Type 0} where
  -- a condition, and what goes on with its truth value
  abbrev pub tested : Meaning H → (Bool → Meaning H) → Meaning H
  tested m go path st = then_truth (m path st) (λ holds t. go holds path t)

  abbrev go_on : (Bool → State H → Outcome H) → List ℕ → State H → Outcome H
  go_on go v st = by_truth (truth v) v go st

  pub test_told : {m : Meaning H} {b mid : Stand H} (e : End) (u : Unit {0}) (r : Result Bool Raise) → Ok u ≡ ended e → Ran true m b e mid → Gives r (truth_read (value_in e))
      → Gave (tested m) b (kept r) (kept_end r e) mid
  test_told {m = m} {b = b} {mid = mid} e u (Ok holds) value ran told =
      let is = if_some (truth (value_in e)) (value_in e) holds told in
      record { went = λ w go. goes_by (λ end last r path cost acts. heard_goes (m path (from b cost acts)) (go_on (λ holds t. go holds path t)) e u mid w end last value (ran.by path cost acts) (λ c a. rw is (r.by path c a))) }
  test_told {m = m} {b = b} {mid = mid} e u (Err (raise.Fault f)) value ran told = record {
    went = λ w go. record {
      by = λ path cost acts.
          heard_goes (m path (from b cost acts)) (go_on (λ holds t. go holds path t)) e u mid w (end.Done (Raised f)) mid value (ran.by path cost acts)
          (λ c a. let is = if_none (truth (value_in e)) (value_in e) f told in rw (is.0, is.1) (at_stand w (Raised f) mid c a));
    };
  }
  test_told e u (Err raise.Memory) value ran told = record { went = λ w go. record { by = λ path cost acts. tt } }

module _ {H : Type 0} (g : Setting H) (i : Inner H) where
  -- the operands of a row from a place on, behind this value
  abbrev pub operands_left : List (Joint × Node) → ℕ → List ℕ → Meaning H
  operands_left os k v = operands (joints g i (k + 1) (operands_of (operands_view (drop k os)))) v

  -- the one at this place, where it is needed, and those behind it
  abbrev pub operand_at : List (Joint × Node) → ℕ → Joint × Node → List ℕ → Meaning H
  operand_at os k o v path st =
      then_value (child one (k + 1) (node_view o.1) (eval g i (node_view o.1)) path st) (joined_value (operands_left os (k + 1)) o.0 v path)

  abbrev pub row_by : List (Joint × Node) → ℕ → Joint × Node → List ℕ → Result (Option (List ℕ)) TclFault → Meaning H
  row_by os k o v d path st = decided d (λ s. operand_at os k o v path s) st

  -- a row up to a place: the value there is, and what is left behind it
  pub record RowLeft (whole : Meaning H) (before : Stand H) (os : List (Joint × Node)) (k : ℕ) (e : End) (mid : Stand H) : Type 0 where
    pub value : Ok tt ≡ ended e
    pub left : GoesOn true whole before (operands_left os k (value_in e)) mid

  pub row_begins : {b mid : Stand H} (t : Tree) (os : List (Joint × Node)) (e : End) → Ok tt ≡ ended e → Ran true (eval g i t) b e mid → RowLeft (eval g i (tree.row t (operands_of (operands_view os)))) b os 0 e mid
  row_begins t os e value ran = record { value = value; left = valued true _ e (Ok tt) value (child_ran g i one 0 t ran) }

  -- whether the operand is needed, the value says
  pub row_goes : {whole : Meaning H} {before mid : Stand H} {e : End} (os : List (Joint × Node)) (k : ℕ) (o : Joint × Node) → RowLeft whole before os k e mid → k < length os → o ≡ get_or os k o → GoesOn true whole before (row_by os k o (value_in e) (decided_by o.0 (value_in e))) mid
  row_goes os k o s there is = goes_then s.left (goes_by (λ e last r path cost acts. rw (split_at os k o there is) (r.by path (cost + 1) acts)))

  pub row_needed : {whole : Meaning H} {before mid : Stand H} {e : End} (os : List (Joint × Node)) (k : ℕ) (o : Joint × Node) → RowLeft whole before os k e mid → k < length os → o ≡ get_or os k o → decided_by o.0 (value_in e) ≡ Ok None
      → GoesOn true whole before (operand_at os k o (value_in e)) mid
  row_needed os k o s there is none = rw none at (row_goes os k o s there is)

  -- its value, and what goes on behind it
  row_settled : (os : List (Joint × Node)) (k : ℕ) (o : Joint × Node) (v : List ℕ) (e : End) (u : Unit {0}) (r : Result (List ℕ) Raise) {b mid : Stand H} → Ok u ≡ ended e → Ran true (eval g i (node_view o.1)) b e mid → Gives r (joint_value o.0 v (value_in e))
      → Went true (operand_at os k o v) b (ended (end_of r)) (end_of r) (λ on. operands_left os (k + 1) (value_in (end_of r))) mid
  row_settled os k o v e u (Ok y) value ran made =
      goes_then (valued true _ e (Ok u) value (child_ran g i one (k + 1) (node_view o.1) ran)) (goes_by (λ end last r path c a. rw made (r.by path c a)))
  row_settled os k o v e u (Err (raise.Fault f)) {mid = mid} value ran made =
      (valued true _ e (Ok u) value (child_ran g i one (k + 1) (node_view o.1) ran)).closes _ _ (record { by = λ path c a. rw made (at_stand true (Raised f) mid c a) })
  row_settled os k o v e u (Err raise.Memory) value ran made = record { by = λ path cost acts. tt }

  abbrev pub RowRan : Meaning H → Stand H → List (Joint × Node) → ℕ → Result (Unit {0}) Halted → End → Stand H → Type 0
  RowRan whole before os k (Ok u) e mid = RowLeft whole before os k e mid
  RowRan whole before os k (Err h) e mid = Ran true whole before e mid

  pub row_ran : {whole : Meaning H} {before b mid : Stand H} (os : List (Joint × Node)) (k : ℕ) (o : Joint × Node) (v : List ℕ) (e : End) (u : Unit {0}) (r : Result (List ℕ) Raise) (x : Result (Unit {0}) Halted) → GoesOn true whole before (operand_at os k o v) b
      → Ok u ≡ ended e → Ran true (eval g i (node_view o.1)) b e mid → Gives r (joint_value o.0 v (value_in e)) → x ≡ ended (end_of r) → RowRan whole before os (k + 1) x (end_of r) mid
  row_ran os k o v e u r (Ok y) goes value ran made is = record { value = is; left = goes_then goes (rw (← is) at (row_settled os k o v e u r value ran made)) }
  row_ran {mid = mid} os k o v e u r (Err h) goes value ran made is = goes.closes (end_of r) mid (rw (← is) at (row_settled os k o v e u r value ran made))

  pub row_done : (os : List (Joint × Node)) (k : ℕ) (e : End) (u : Unit {0}) (s : Stand H) → length os ≤ k → Ok u ≡ ended e → Ran true (operands_left os k (value_in e)) s e s
  row_done os k e u s over value = rw (drop_all k os over) (record { by = λ path cost acts. told_value true (value_in e) e u s cost acts value refl })

  -- conditions with their values from a place on
  abbrev pub first_left : ℕ → (p q : Tree → ℕ) → List (Node × Node) → ℕ → Meaning H → Meaning H
  first_left n p q vs k last = first_true n (values g i p q (k * 2) (values_of (values_view (drop k vs)))) last

  -- behind the condition at this place: its value, or those behind it
  abbrev pub first_by : ℕ → (p q : Tree → ℕ) → List (Node × Node) → ℕ → Node × Node → Meaning H → Bool → Meaning H
  first_by n p q vs k v last holds path st = after_test (child q (k * 2 + 1) (node_view v.1) (eval g i (node_view v.1))) (first_left n p q vs (k + 1) last) path holds st

  pub first_tested : (w : Bool) (n : ℕ) (p q : Tree → ℕ) (vs : List (Node × Node)) (k : ℕ) (v : Node × Node) (last : Meaning H) (r : Result Bool Halted) {b mid : Stand H} {e : End} → k < length vs → v ≡ get_or vs k v
      → Gave (tested (child p (k * 2) (node_view v.0) (eval g i (node_view v.0)))) b r e mid → Went w (first_left n p q vs k last) b r e (first_by n p q vs k v last) mid
  first_tested w n p q vs k v last r there is test =
      let next : k * 2 + 2 ≡ (k + 1) * 2 = omega arith in
      rw (split_at vs k v there is, next) ((paid_gave n r test).went w (first_by n p q vs k v last))

  pub first_last : (w : Bool) (n : ℕ) (p q r : Tree → ℕ) (vs : List (Node × Node)) (k j : ℕ) (last : Node) {b mid : Stand H} {e : End} → length vs ≤ k
      → Ran w (eval g i (node_view last)) b e mid → Ran w (first_left n p q vs k (child r j (node_view last) (eval g i (node_view last)))) b e mid
  first_last w n p q r vs k j last over ran = rw (drop_all k vs over) (child_ran g i r j (node_view last) ran)
