-- The children of a tree by their numbers, and what each kind of tree has, by total readers.
use Rattle.std.specs.Prelude.{ℕ, List, [], ◌∷◌, ◌++◌, get_or, Bool, true, false}
use Rattle.tcl_trees.specs.Tree.{Tree, Trees, Operands, Values, no_trees, and_tree, no_operands}
use Rattle.tcl_trees.specs.Tree.{and_operand, no_values, and_value, plain}
use Rattle.tcl_trees.specs.Tree.{variable, element, word}
use Rattle.tcl_trees.specs.Tree.{script, command, expr, branches, choice, loop, each, switch}
use Rattle.tcl_trees.specs.Tree.{catch, catch_in, next_body, prefixed, row}

abbrev pub all : Trees → List Tree
all no_trees = []
all (and_tree t ts) = t ∷ all ts

abbrev pub behind : Operands → List Tree
behind no_operands = []
behind (and_operand joint t rest) = t ∷ behind rest

-- conditions and values in turn
abbrev pub both : Values → List Tree
both no_values = []
both (and_value condition value vs) = condition ∷ value ∷ both vs

-- a tree's children, in the order of their numbers
abbrev pub children : Tree → List Tree
children (plain text) = []
children (variable name) = []
children (element name ts) = all ts
children (word ts) = all ts
children (script ts) = all ts
children (command v ts) = all ts
children (expr t) = t ∷ []
children (branches vs last) = both vs ++ last ∷ []
children (choice vs last) = both vs ++ last ∷ []
children (loop start test next body) = start ∷ test ∷ next ∷ body ∷ []
children (each ts body) = all ts ++ body ∷ []
children (switch front ts bodies) = all ts ++ all bodies
children (catch body) = body ∷ []
children (catch_in body name) = body ∷ name ∷ []
children next_body = []
children (prefixed ops t) = t ∷ []
children (row t rest) = t ∷ behind rest

-- the child of a number; a tree stands for one that it doesn't have
abbrev pub child_at : Tree → ℕ → Tree
child_at t k = get_or (children t) k t

-- The parts of a word; any other tree, an empty word too, is its own only part.
abbrev pub parts_of : Tree → List Tree
parts_of (word (and_tree t ts)) = t ∷ all ts
parts_of t = t ∷ []

abbrev pub part_at : Tree → ℕ → Tree
part_at t k = get_or (parts_of t) k t

-- the tree at a path
abbrev pub node_at : Tree → List ℕ → Tree
node_at t [] = t
node_at t (k ∷ path) = node_at (child_at t k) path

-- the commands of a script, the pieces of a quoted operand or an index, and the words that a node
-- evaluates first
abbrev pub commands_of : Tree → List Tree
commands_of (script ts) = all ts
commands_of t = []

abbrev pub pieces_of : Tree → List Tree
pieces_of (word ts) = all ts
pieces_of (element name ts) = all ts
pieces_of t = []

abbrev pub words_of : Tree → List Tree
words_of (command v ts) = all ts
words_of (each ts body) = all ts
words_of (switch front ts bodies) = all ts
words_of t = []

-- whether a node is a script
abbrev pub is_script : Tree → Bool
is_script (script ts) = true
is_script t = false
