-- The children of a tree: their numbers, and what each costs as it begins.
use Rattle.std.specs.Prelude.{ℕ, ◌+◌, [], ◌∷◌, ◌++◌, Bool, true, false}
use Rattle.tcl_trees.specs.Tree.{Tree, Trees, Values}
use Rattle.tcl_trees.specs.Tree as tree
use Rattle.rule_model.specs.Outcome.{Meaning, paid}

-- a child by its number, whose price is paid as it begins
abbrev pub child : {H : Type 0} → (Tree → ℕ) → ℕ → Tree → Meaning H → Meaning H
child price k t m path st = m (path ++ k ∷ []) (paid (price t) st)

-- bodies, commands and the patterns in a list cost nothing by themselves
abbrev pub free : Tree → ℕ
free t = 0

-- each part of a word and each operand costs one
abbrev pub one : Tree → ℕ
one t = 1

-- a whole expression costs one where it is a single operand; operators have operands of their own
abbrev pub alone : Tree → ℕ
alone (tree.prefixed ops t) = 0
alone (tree.row t os) = 0
alone (tree.choice vs last) = 0
alone t = 1

-- what stands for a body of a `switch` where the next one is meant
abbrev pub is_next : Tree → Bool
is_next tree.next_body = true
is_next t = false

-- the number of what stands behind these children
abbrev pub count : Trees → ℕ
count tree.no_trees = 0
count (tree.and_tree t ts) = count ts + 1

abbrev pub places_of : Values → ℕ
places_of tree.no_values = 0
places_of (tree.and_value condition value vs) = places_of vs + 2
