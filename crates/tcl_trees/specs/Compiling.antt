-- The tree that a script becomes, command by command. What is wrong is noted, and the rest is
-- looked at too, so that of all flaws the one with the least place is told.
use Rattle.std.specs.Prelude.{ℕ, List}
use Rattle.tcl_words.specs.Tree as source
use Rattle.tcl_words.specs.Tree.{Word, Command}
use Rattle.tcl_trees.specs.Controls.{expr_at, if_at, while_at, for_at, each_at, switch_at, catch_at}
use Rattle.tcl_trees.specs.Making.{Made, Level, gathered, script_of}
use Rattle.tcl_trees.specs.Pieces.{all_words}
use Rattle.tcl_trees.specs.Shapes.{shape_of}
use Rattle.tcl_trees.specs.Tree.{Tree}
use Rattle.tcl_trees.specs.Words.{evaluated_at}
use Rattle.tcl_trees.specs.declared.findings.Findings.{Findings}
use Rattle.tcl_trees.specs.declared.shapes.Shape.{Shape}
use Rattle.tcl_trees.specs.declared.shapes.Shape.TheVariants as shape

abbrev pub shaped_at : Level → (base at : ℕ) → Shape → List Word → Findings → Made Tree
shaped_at level base at (shape.Words v) = evaluated_at level base at v
shaped_at level base at shape.Expr = expr_at level base at
shaped_at level base at shape.If = if_at level base at
shaped_at level base at shape.While = while_at level base at
shaped_at level base at shape.For = for_at level base at
shaped_at level base at shape.Foreach = each_at level base at
shaped_at level base at shape.Switch = switch_at level base at
shaped_at level base at shape.Catch = catch_at level base at

abbrev pub words_at : Level → (base at : ℕ) → List Word → Findings → Made Tree
words_at level base at words = shaped_at level base at (shape_of words) words

abbrev pub command_at : Level → ℕ → Command → Findings → Made Tree
command_at level base (source.command span words) = words_at level base span.start (all_words words)

abbrev pub script_at : Level → ℕ → List Command → Findings → Made Tree
script_at level base commands s = script_of (gathered (command_at level base) commands s)
