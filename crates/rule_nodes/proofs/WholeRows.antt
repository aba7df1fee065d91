-- Rows of whole numbers, worked out from the left.
use Rattle.std.proofs.Common.{◌≡◌, refl, sym, ap, ◌∙◌, subst, ℕ, ◌+◌, ◌<◌, ◌≤◌, ℤ, List, length, drop, get_or, Option, Some, None, Ok, arith, FitsSigned, w64}
use Rattle.std.proofs.lemmas.List.{drop_more, drop_all}
use Rattle.std.specs.Prelude.{IfSome}
use Rattle.std.specs.Fmt.{signed_decimal}
use Rattle.px_bytes.specs.Whole.{whole}
use Rattle.px_bytes.proofs.Wholes.{each_reads_back}
use Rattle.tcl_expr.specs.Operators.{operator_value_2}
use Rattle.tcl_expr.specs.declared.expr.Joint.{Joint}
use Rattle.tcl_expr.specs.declared.expr.Joint.TheVariants.{Both}
use Rattle.tcl_expr.specs.declared.operator.Op2.{Op2}
use Rattle.tcl_trees.specs.Tree.{Tree, Operands, operands_of}
use Rattle.tcl_trees.specs.Tree as tree
use Rattle.tcl_trees.specs.TreeView.{node_view, operands_view}
use Rattle.tcl_trees.specs.declared.node.Node.{Node}
use Rattle.tcl_vars.specs.Scopes.{Level, Scopes}
use Rattle.tcl_var_commands.specs.Reading.{value_of}
use Rattle.rule_nodes.specs.AtOnce.{ReadsWhole, JoinsWhole}

-- operands behind every value of this number come to another, for the cost between
abbrev pub Joins : Option Level → Scopes → Operands → (first : ℤ) → (cost cost' : ℕ) → (n : ℤ) → Type 0
Joins level vars os first cost cost' n = (left : List ℕ) → whole left ≡ Some first → JoinsWhole level vars os left cost cost' n

pub plain_reads : (level : Option Level) (vars : Scopes) (t : Tree) (text : List ℕ) (cost : ℕ) (r : Option ℤ) → t ≡ tree.plain text → r ≡ whole text
    → IfSome r (λ n. ReadsWhole level vars t cost cost n)
plain_reads level vars t text cost None is read = tt
plain_reads level vars t text cost (Some n) is read = record { text = text; reads = sym read; is_value = λ budget. rw is refl }

pub variable_reads : (level : Option Level) (vars : Scopes) (t : Tree) (name text : List ℕ) (cost : ℕ) (r : Option ℤ) → t ≡ tree.variable name
    → value_of level vars (record { name = name; index = None }) ≡ Some text → r ≡ whole text → IfSome r (λ n. ReadsWhole level vars t cost cost n)
variable_reads level vars t name text cost None is found read = tt
variable_reads level vars t name text cost (Some n) is found read =
    record { text = text; reads = sym read; is_value = λ budget. rw (is, found) refl }

row_read : (level : Option Level) (vars : Scopes) (t u : Tree) (os : Operands) (cost paid mid new : ℕ) (first n : ℤ) → t ≡ tree.row u os → paid ≡ cost + 1
    → ReadsWhole level vars u paid mid first → Joins level vars os first mid new n → ReadsWhole level vars t cost new n
row_read level vars t u os cost paid mid new first n is paid_is r h =
    let j = h r.text r.reads in
    record {
      text = j.text;
      reads = j.reads;
      is_value = λ budget. rw (is, ← paid_is, r.is_value budget) (j.is_value budget);
    }

-- `passed` is the first operand's number, as it is passed on
pub row_reads : (level : Option Level) (vars : Scopes) (t u : Tree) (os : Operands) (cost paid mid new : ℕ) (first passed : ℤ) (r : Option ℤ)
    → t ≡ tree.row u os → paid ≡ cost + 1
    → passed ≡ first → ReadsWhole level vars u paid mid first → IfSome r (λ n. Joins level vars os passed mid new n)
    → IfSome r (λ n. ReadsWhole level vars t cost new n)
row_reads level vars t u os cost paid mid new first passed None is paid_is same r h = tt
row_reads level vars t u os cost paid mid new first passed (Some n) is paid_is same r h =
    row_read level vars t u os cost paid mid new first n is paid_is r (subst (λ z. Joins level vars os z mid new n) same h)

pub none_join : (level : Option Level) (vars : Scopes) (rest : List (Joint × Node)) (k : ℕ) (n : ℤ) (cost : ℕ) → length rest ≤ k
    → Joins level vars (operands_of (operands_view (drop k rest))) n cost cost n
none_join level vars rest k n cost all = λ left read.
    let none = ap (λ (xs : List (Joint × Node)). operands_of (operands_view xs)) (drop_all k rest all) in
    record { text = left; reads = read; is_value = λ budget. rw none refl }

operand_at : (rest : List (Joint × Node)) (k : ℕ) (item : Joint × Node) (op : Op2) → k < length rest → item ≡ get_or rest k item → item.0 ≡ Both op
    → operands_of (operands_view (drop k rest)) ≡ tree.and_operand (Both op) (node_view item.1) (operands_of (operands_view (drop (k + 1) rest)))
operand_at rest k item op there is both =
    ap (λ (xs : List (Joint × Node)). operands_of (operands_view xs)) (drop_more rest k item there)
    ∙ ap (λ (o : Joint × Node). tree.and_operand o.0 (node_view o.1) (operands_of (operands_view (drop (k + 1) rest)))) (sym is)
    ∙ ap (λ (j : Joint). tree.and_operand j (node_view item.1) (operands_of (operands_view (drop (k + 1) rest)))) both

pub reads_printed : (z : ℤ) → FitsSigned w64 z → whole (signed_decimal z) ≡ Some z
reads_printed z fits = each_reads_back {E = ℕ} (Ok (signed_decimal z)) (signed_decimal z) z refl refl fits.sfits

operand_joins : (level : Option Level) (vars : Scopes) (op : Op2) (t : Tree) (os : Operands) (a b m n : ℤ) (cost paid mid new : ℕ) → paid ≡ cost + 2
    → ReadsWhole level vars t paid mid b → ((x y : List ℕ) → whole x ≡ Some a → whole y ≡ Some b → operator_value_2 op x y ≡ Ok (signed_decimal m))
    → whole (signed_decimal m) ≡ Some m → Joins level vars os m mid new n → Joins level vars (tree.and_operand (Both op) t os) a cost new n
operand_joins level vars op t os a b m n cost paid mid new paid_is r gives back h = λ left read.
    let j = h (signed_decimal m) back in
    let both : (cost + 1) + 1 ≡ paid = omega arith in
    record {
      text = j.text;
      reads = j.reads;
      is_value = λ budget. rw (both, r.is_value budget, gives left r.text read r.reads) (j.is_value budget);
    }

-- One operand more. The numbers of it and behind it are `right` and `value`, and as they are passed on `b` and `m`.
pub more_joins : (level : Option Level) (vars : Scopes) (rest : List (Joint × Node)) (k : ℕ) (item : Joint × Node) (op : Op2) (a b right m value n : ℤ)
    (cost paid mid new : ℕ) → k < length rest → item ≡ get_or rest k item → item.0 ≡ Both op → paid ≡ cost + 2 → b ≡ right → m ≡ value → FitsSigned w64 value
    → ReadsWhole level vars (node_view item.1) paid mid right
    → ((x y : List ℕ) → whole x ≡ Some a → whole y ≡ Some b → operator_value_2 op x y ≡ Ok (signed_decimal value))
    → Joins level vars (operands_of (operands_view (drop (k + 1) rest))) m mid new n → Joins level vars (operands_of (operands_view (drop k rest))) a cost new n
more_joins level vars rest k item op a b right m value n cost paid mid new there is both paid_is same_b same_m fits r gives h =
    let os = operands_of (operands_view (drop (k + 1) rest)) in
    subst (λ o. Joins level vars o a cost new n) (sym (operand_at rest k item op there is both))
    (operand_joins level vars op (node_view item.1) os a right value n cost paid mid new paid_is r
    (λ x y p q. gives x y p (q ∙ ap Some (sym same_b))) (reads_printed value fits) (subst (λ z. Joins level vars os z mid new n) same_m h))
