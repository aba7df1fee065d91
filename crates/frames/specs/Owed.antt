-- How many moves a machine owes for what it has begun: each move ticks once, and each operator,
-- pure command and host command in it once more.
use Rattle.std.specs.Prelude.{◌≡◌, ℕ, ◌+◌, List, [], ◌∷◌, Bool, true, false, sum_by, if◌then◌else◌}
use Rattle.std.specs.Prelude.{⊤}
use Rattle.tcl_trees.specs.Procedures.{Procedure}
use Rattle.tcl_trees.specs.Tree.{Tree, Trees, no_trees, and_tree}
use Rattle.tcl_trees.specs.Tree as tree
use Rattle.rule_model.specs.Control.{is_caught}
use Rattle.frames.specs.Frames.{tree_above}
use Rattle.frames.specs.declared.frame.Frame.{Frame}
use Rattle.frames.specs.declared.frame.Frame.TheVariants as frame
use Rattle.frames.specs.declared.frame.Mode.{Mode}
use Rattle.frames.specs.declared.frame.Mode.TheVariants as mode
use Rattle.frames.specs.declared.frame.Standing.{Standing}

-- a frame owes the move that takes it away; words and a right operand one more
abbrev pub weight : Frame → ℕ
weight (frame.Words word part done text) = 2
weight (frame.Right at joint left) = 2
weight f = 1

-- The node on top owes its beginning; a code that `catch` takes two, since what hears it may go on;
-- the fault of a missing unit goes through all frames and owes nothing itself.
abbrev pub mode_owed : Mode → ℕ
mode_owed mode.Begin = 1
mode_owed (mode.Back code) = if is_caught code then 2 else 0
mode_owed (mode.Asked call) = 2
mode_owed mode.Over = 0

-- The end of the root is told in a move of its own where a reply is that end.
abbrev pub owed_by : List Frame → Mode → ℕ
owed_by [] (mode.Back code) = 2
owed_by fs m = sum_by weight fs + mode_owed m

abbrev pub owed : Standing → ℕ
owed m = owed_by m.frames.items m.mode

abbrev pub is_empty : Trees → Bool
is_empty no_trees = true
is_empty (and_tree t ts) = false

-- what has its end at once, and is never begun as a child
abbrev pub is_flat : Tree → Bool
is_flat (tree.plain text) = true
is_flat (tree.variable name) = true
is_flat (tree.element name ts) = is_empty ts
is_flat (tree.word ts) = is_empty ts
is_flat (tree.script ts) = is_empty ts
is_flat (tree.command v ts) = is_empty ts
is_flat tree.next_body = true
is_flat t = false

-- what is about to begin above a frame has something to do
abbrev pub Heavy : List Procedure → Tree → List Frame → Mode → Type 0
Heavy procedures t (f ∷ fs) mode.Begin = is_flat (tree_above procedures t (f ∷ fs)) ≡ false
Heavy procedures t fs m = ⊤
