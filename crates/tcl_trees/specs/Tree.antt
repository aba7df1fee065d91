-- What a compiled script is, apart from where it lies in memory.
use Rattle.std.specs.Prelude.{ℕ, List, [], ◌∷◌}
use Rattle.tcl_expr.specs.declared.expr.Joint.{Joint}
use Rattle.tcl_expr.specs.declared.operator.Op1.{Op1}
use Rattle.tcl_trees.specs.declared.node.Verb.{Verb}

mutual
  pub data Tree : Type 0 where
    -- a text, a variable's value, and that of an array's element with this name and index
    plain : List ℕ → Tree
    variable : List ℕ → Tree
    element : List ℕ → Trees → Tree
    -- the values of parts, joined
    word : Trees → Tree
    -- commands in order
    script : Trees → Tree
    -- a command that evaluates all its words first, its name among them
    command : Verb → Trees → Tree
    -- `expr` of one expression
    expr : Tree → Tree
    -- `if` and `?:`: values, each after its condition, and the last value
    branches : Values → Tree → Tree
    choice : Values → Tree → Tree
    -- `for`, and `while`, whose start and next are empty scripts
    loop : (start test next body : Tree) → Tree
    -- `foreach`: names and lists in turn, and the body
    each : Trees → Tree → Tree
    -- `switch`: so many words of options and text, the patterns behind them, and a body for each
    switch : ℕ → (words bodies : Trees) → Tree
    -- `catch` of a body, and with the name of the variable that gets its result
    catch : Tree → Tree
    catch_in : (body name : Tree) → Tree
    -- what stands for a body of a `switch` where the next one is meant
    next_body : Tree
    -- operators before an operand, and operands of one row of operators
    prefixed : List Op1 → Tree → Tree
    row : Tree → Operands → Tree

  pub data Trees : Type 0 where
    no_trees : Trees
    and_tree : Tree → Trees → Trees

  -- operands, each after what joins it to those before
  pub data Operands : Type 0 where
    no_operands : Operands
    and_operand : Joint → Tree → Operands → Operands

  -- values, each after its condition
  pub data Values : Type 0 where
    no_values : Values
    and_value : Tree → Tree → Values → Values

abbrev pub trees_of : List Tree → Trees
trees_of [] = no_trees
trees_of (t ∷ ts) = and_tree t (trees_of ts)

abbrev pub operands_of : List (Joint × Tree) → Operands
operands_of [] = no_operands
operands_of (o ∷ os) = and_operand o.0 o.1 (operands_of os)

abbrev pub values_of : List (Tree × Tree) → Values
values_of [] = no_values
values_of (v ∷ vs) = and_value v.0 v.1 (values_of vs)
