-- The words of a node from its beginning.
use Rattle.std.specs.Prelude.{ℕ, ◌+◌, [], ◌∷◌, codes, Bool, true, false, Option, Some, None}
use Rattle.tcl_trees.specs.Tree.{Tree}
use Rattle.tcl_trees.specs.Tree as tree
use Rattle.tcl_trees.specs.TreeView.{node_view, nodes_view}
use Rattle.tcl_trees.specs.declared.node.Node.{Node}
use Rattle.tcl_trees.specs.declared.node.Node.TheOpen.{Node-F}
use Rattle.tcl_trees.specs.declared.node.Verb.{Verb}
use Rattle.tcl_trees.specs.declared.node.Verb.TheVariants as verb
use Rattle.tcl_vars.specs.Scopes.{Level, Scopes}
use Rattle.rule_model.specs.declared.code.Code.TheVariants.{Value}
use Rattle.frames.specs.Children.{all}
use Rattle.frame_words.specs.Words.{words_cost, words_from}
use Rattle.frame_words.specs.declared.words.Gathered.{Gathered}
use Rattle.frame_words.specs.declared.words.Gathered.TheVariants as words

-- whether a node evaluates words first
abbrev pub has_words : Tree → Bool
has_words (tree.command v ts) = true
has_words (tree.each ts body) = true
has_words (tree.switch front ts bodies) = true
has_words (tree.catch_in body name) = true
has_words t = false

abbrev pub has_words_in : Node-F Node → Bool
has_words_in (Node-F.Command v nodes) = true
has_words_in (Node-F.Foreach nodes body) = true
has_words_in (Node-F.Switch front nodes bodies) = true
has_words_in (Node-F.CatchIn body name) = true
has_words_in node = false

-- what a command is that evaluates nothing more than its words
abbrev pub word_verb : Tree → Option Verb
word_verb (tree.command verb.Call ts) = None
word_verb (tree.command verb.ExprOfWords ts) = None
word_verb (tree.command v ts) = Some v
word_verb t = None

abbrev pub word_verb_in : Node-F Node → Option Verb
word_verb_in (Node-F.Command verb.Call nodes) = None
word_verb_in (Node-F.Command verb.ExprOfWords nodes) = None
word_verb_in (Node-F.Command v nodes) = Some v
word_verb_in node = None

abbrev pub first_words : Option Level → Scopes → Tree → Gathered
first_words statics vars (tree.command v ts) = words_from statics vars (all ts) 0 []
first_words statics vars (tree.each ts body) =
    words_from statics vars (all ts) 0 (codes "foreach" ∷ [])
first_words statics vars (tree.switch front ts bodies) =
    words_from statics vars (all ts) 0 (codes "switch" ∷ [])
first_words statics vars (tree.catch_in body name) =
    words_from statics vars (name ∷ []) 1 (codes "catch" ∷ [])
first_words statics vars t = words.Ends (Value [])

abbrev pub first_cost : Option Level → Scopes → Tree → ℕ
first_cost statics vars (tree.command v ts) = words_cost 1 statics vars (all ts) []
first_cost statics vars (tree.each ts body) =
    1 + words_cost 1 statics vars (all ts) (codes "foreach" ∷ [])
first_cost statics vars (tree.switch front ts bodies) =
    1 + words_cost 0 statics vars (all ts) (codes "switch" ∷ [])
first_cost statics vars (tree.catch_in body name) =
    1 + words_cost 1 statics vars (name ∷ []) (codes "catch" ∷ [])
first_cost statics vars t = 0

-- the same of a node of the code
abbrev pub first_words_in : Option Level → Scopes → Node-F Node → Gathered
first_words_in statics vars (Node-F.Command v nodes) =
    words_from statics vars (nodes_view nodes.items) 0 []
first_words_in statics vars (Node-F.Foreach nodes body) =
    words_from statics vars (nodes_view nodes.items) 0 (codes "foreach" ∷ [])
first_words_in statics vars (Node-F.Switch front nodes bodies) =
    words_from statics vars (nodes_view nodes.items) 0 (codes "switch" ∷ [])
first_words_in statics vars (Node-F.CatchIn body name) =
    words_from statics vars (node_view name.value ∷ []) 1 (codes "catch" ∷ [])
first_words_in statics vars node = words.Ends (Value [])

abbrev pub first_cost_in : Option Level → Scopes → Node-F Node → ℕ
first_cost_in statics vars (Node-F.Command v nodes) =
    words_cost 1 statics vars (nodes_view nodes.items) []
first_cost_in statics vars (Node-F.Foreach nodes body) =
    1 + words_cost 1 statics vars (nodes_view nodes.items) (codes "foreach" ∷ [])
first_cost_in statics vars (Node-F.Switch front nodes bodies) =
    1 + words_cost 0 statics vars (nodes_view nodes.items) (codes "switch" ∷ [])
first_cost_in statics vars (Node-F.CatchIn body name) =
    1 + words_cost 1 statics vars (node_view name.value ∷ []) (codes "catch" ∷ [])
first_cost_in statics vars node = 0
