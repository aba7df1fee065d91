-- The tree that an expression becomes: its operands in the order in which they stand in the source.
use Rattle.std.specs.Prelude.{ℕ, zero, suc, List, [], ◌∷◌, Bool, false}
use Rattle.tcl_trees.specs.Pieces.{all_parts}
use Rattle.tcl_expr.specs.Expression as source
use Rattle.tcl_expr.specs.Expression.{Expression, More, Cases}
use Rattle.tcl_expr.specs.declared.expr.Joint.{Joint}
use Rattle.tcl_expr.specs.declared.operator.Op1.{Op1}
use Rattle.tcl_words.specs.Tree.{Part}
use Rattle.tcl_trees.specs.Making.{Made, Level}
use Rattle.tcl_trees.specs.Opened.{scanned}
use Rattle.tcl_trees.specs.Tree.{Tree, plain, word, prefixed, row, choice, trees_of}
use Rattle.tcl_trees.specs.Tree.{operands_of, values_of}
use Rattle.tcl_trees.specs.Words.{parts_at}
use Rattle.tcl_trees.specs.declared.findings.Findings.{Findings}
use Rattle.tcl_trees.specs.declared.opened.Opened.{Opened}
use Rattle.tcl_trees.specs.declared.opened.Enclosure.{Enclosure}

-- what was made, and how far the expression was then looked at
abbrev pub MadeTo : Type 0 → Type 0
MadeTo A = Made (A × Opened)

-- parts around which so many openers stand
abbrev pub parts_under : Level → (base openers : ℕ) → List Part → Findings → Made (List Tree)
parts_under level base zero parts = parts_at level base parts
parts_under level base (suc openers) parts = level.under openers base parts

-- an operand without quotes is its only part: a variable, a bracket, or a text in braces
abbrev pub operand : Bool → List Tree → Tree
operand false (t ∷ []) = t
operand quoted parts = word (trees_of parts)

abbrev pub operand_to : Bool → Opened → Made (List Tree) → MadeTo Tree
operand_to quoted o r = ((operand quoted r.0, o), r.1)

abbrev pub operand_at : Level → ℕ → List Part → Enclosure → Findings → MadeTo Tree
operand_at level base parts q s =
    operand_to q.quoted q.behind (parts_under level base q.openers parts s)

abbrev pub prefixed_of : List Op1 → MadeTo Tree → MadeTo Tree
prefixed_of ops r = ((prefixed ops r.0.0, r.0.1), r.1)

abbrev pub row_of : Tree → MadeTo (List (Joint × Tree)) → MadeTo Tree
row_of first r = ((row first (operands_of r.0.0), r.0.1), r.1)

abbrev pub choice_of : List (Tree × Tree) → MadeTo Tree → MadeTo Tree
choice_of values r = ((choice (values_of values) r.0.0, r.0.1), r.1)

abbrev pub operand_of : Joint → Tree → MadeTo (List (Joint × Tree)) → MadeTo (List (Joint × Tree))
operand_of joint tree r = (((joint, tree) ∷ r.0.0, r.0.1), r.1)

abbrev pub value_of : Tree → Tree → MadeTo (List (Tree × Tree)) → MadeTo (List (Tree × Tree))
value_of condition tree r = (((condition, tree) ∷ r.0.0, r.0.1), r.1)

-- An expression in the text that begins at `base`.
abbrev mutual
  pub expression_at : Level → ℕ → List ℕ → Expression → Opened → Findings → MadeTo Tree
  expression_at level base text (source.literal bytes) o s = ((plain bytes, o), s)
  expression_at level base text (source.joined parts) o s =
      operand_at level base (all_parts parts) (scanned text (all_parts parts) o) s
  expression_at level base text (source.prefixed ops e) o s =
      prefixed_of ops (expression_at level base text e o s)
  expression_at level base text (source.row first rest) o s =
      let r = expression_at level base text first o s in
      row_of r.0.0 (operands_at level base text rest r.0.1 r.1)
  expression_at level base text (source.choice cs last) o s =
      let r = values_at level base text cs o s in
      choice_of r.0.0 (expression_at level base text last r.0.1 r.1)

  pub operands_at : Level → ℕ → List ℕ → More → Opened → Findings → MadeTo (List (Joint × Tree))
  operands_at level base text source.no_more o s = (([], o), s)
  operands_at level base text (source.more joint e rest) o s =
      let r = expression_at level base text e o s in
      operand_of joint r.0.0 (operands_at level base text rest r.0.1 r.1)

  pub values_at : Level → ℕ → List ℕ → Cases → Opened → Findings → MadeTo (List (Tree × Tree))
  values_at level base text source.no_cases o s = (([], o), s)
  values_at level base text (source.case condition e cs) o s =
      let c = expression_at level base text condition o s in
      let v = expression_at level base text e c.0.1 c.1 in
      value_of c.0.0 v.0.0 (values_at level base text cs v.0.1 v.1)
