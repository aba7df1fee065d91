-- What an expression is, apart from where it lies in memory.
use Rattle.std.specs.Prelude.{ℕ, List}
use Rattle.tcl_words.specs.Tree.{Parts}
use Rattle.tcl_expr.specs.declared.expr.Joint.{Joint}
use Rattle.tcl_expr.specs.declared.operator.Op1.{Op1}

mutual
  pub data Expression : Type 0 where
    -- a number, `true` or `false`
    literal : List ℕ → Expression
    -- a quoted or braced text, a variable or a bracket
    joined : Parts → Expression
    -- operators before an operand, the outermost first
    prefixed : List Op1 → Expression → Expression
    -- operands of one row of operators
    row : Expression → More → Expression
    -- values beside their conditions, and the last value
    choice : Cases → Expression → Expression

  pub data More : Type 0 where
    no_more : More
    more : Joint → Expression → More → More

  pub data Cases : Type 0 where
    no_cases : Cases
    case : Expression → Expression → Cases → Cases
