-- The trees of values, one level at a time.
use Rattle.std.proofs.Common.{◌≡◌, ℕ, List, rules, Vec, Box}
use Rattle.std.specs.declared.alloc.Global.{Global}
use Rattle.tcl_expr.specs.declared.expr.Joint.{Joint}
use Rattle.tcl_trees.specs.Tree.{plain, word, script, command, branches, row, choice}
use Rattle.tcl_trees.specs.Tree.{trees_of, operands_of, values_of}
use Rattle.tcl_trees.specs.TreeView.{node_view, nodes_view, operands_view, values_view}
use Rattle.tcl_trees.specs.declared.node.Node as code
use Rattle.tcl_trees.specs.declared.node.Node.{Plain, Word, Script, Command, If, Row, Choice}
use Rattle.tcl_trees.specs.declared.node.Node.{the_lemmas}
use Rattle.tcl_trees.specs.declared.node.Verb.{Verb}

pub view-Plain : (text : List ℕ) → node_view (Plain text) ≡ plain text
view-Plain text = search (rules, the_lemmas)

pub view-Word : (ns : Vec code.Node Global) → node_view (Word ns) ≡ word (trees_of (nodes_view ns.items))
view-Word ns = search (rules, the_lemmas)

pub view-Script : (ns : Vec code.Node Global) → node_view (Script ns) ≡ script (trees_of (nodes_view ns.items))
view-Script ns = search (rules, the_lemmas)

pub view-Command : (v : Verb) (ns : Vec code.Node Global) → node_view (Command v ns) ≡ command v (trees_of (nodes_view ns.items))
view-Command v ns = search (rules, the_lemmas)

pub view-If : (vs : Vec (code.Node × code.Node) Global) (last : Box code.Node Global)
    → node_view (If vs last) ≡ branches (values_of (values_view vs.items)) (node_view last.value)
view-If vs last = search (rules, the_lemmas)

pub view-Row : (first : Box code.Node Global) (rest : Vec (Joint × code.Node) Global)
    → node_view (Row first rest) ≡ row (node_view first.value) (operands_of (operands_view rest.items))
view-Row first rest = search (rules, the_lemmas)

pub view-Choice : (vs : Vec (code.Node × code.Node) Global) (last : Box code.Node Global)
    → node_view (Choice vs last) ≡ choice (values_of (values_view vs.items)) (node_view last.value)
view-Choice vs last = search (rules, the_lemmas)
