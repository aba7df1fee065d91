-- The words of a node from its beginning, by nodes and by trees.
use Rattle.std.proofs.Common.{◌≡◌, refl, ap, ◌∙◌, sym, ◌+◌, [], ◌∷◌, Option}
use Rattle.std.specs.Prelude.{codes}
use Rattle.tcl_trees.specs.TreeView.{node_view, nodes_view}
use Rattle.tcl_trees.specs.declared.node.Node.{Node, out-Node}
use Rattle.tcl_trees.specs.declared.node.Node.TheOpen.{Node-F}
use Rattle.tcl_trees.specs.declared.node.Verb.TheVariants as verb
use Rattle.tcl_vars.specs.Scopes.{Level, Scopes}
use Rattle.frame_words.specs.FirstWords.{first_cost, first_cost_in, first_words, first_words_in, has_words, has_words_in, word_verb, word_verb_in}
use Rattle.frame_words.specs.Words.{words_cost, words_from}
use Rattle.frames.proofs.NodeViews.{all_trees, step_of, viewed}

module _ (statics : Option Level) (vars : Scopes) where
  words_by : (f : Node-F Node) → first_words_in statics vars f ≡ first_words statics vars (step_of f)
  words_by (Node-F.Command v ns) =
      ap (λ ts. words_from statics vars ts 0 []) (sym (all_trees (nodes_view ns.items)))
  words_by (Node-F.Foreach ns b) =
      ap (λ ts. words_from statics vars ts 0 (codes "foreach" ∷ [])) (sym (all_trees (nodes_view ns.items)))
  words_by (Node-F.Switch k ns bs) =
      ap (λ ts. words_from statics vars ts 0 (codes "switch" ∷ [])) (sym (all_trees (nodes_view ns.items)))
  words_by other = refl

  pub words_view : (n : Node) → first_words_in statics vars (out-Node n)
      ≡ first_words statics vars (node_view n)
  words_view n = words_by (out-Node n) ∙ ap (λ t. first_words statics vars t) (sym (viewed n))

  cost_by : (f : Node-F Node) → first_cost_in statics vars f ≡ first_cost statics vars (step_of f)
  cost_by (Node-F.Command v ns) =
      ap (λ ts. words_cost 1 statics vars ts []) (sym (all_trees (nodes_view ns.items)))
  cost_by (Node-F.Foreach ns b) =
      ap (λ ts. 1 + words_cost 1 statics vars ts (codes "foreach" ∷ []))
      (sym (all_trees (nodes_view ns.items)))
  cost_by (Node-F.Switch k ns bs) =
      ap (λ ts. 1 + words_cost 0 statics vars ts (codes "switch" ∷ []))
      (sym (all_trees (nodes_view ns.items)))
  cost_by other = refl

  pub cost_view : (n : Node) → first_cost_in statics vars (out-Node n) ≡ first_cost statics vars (node_view n)
  cost_view n = cost_by (out-Node n) ∙ ap (λ t. first_cost statics vars t) (sym (viewed n))

has_by : (f : Node-F Node) → has_words_in f ≡ has_words (step_of f)
has_by (Node-F.Plain t) = refl
has_by (Node-F.Variable n) = refl
has_by (Node-F.Element n ns) = refl
has_by (Node-F.Word ns) = refl
has_by (Node-F.Script ns) = refl
has_by (Node-F.Command v ns) = refl
has_by (Node-F.Expr e) = refl
has_by (Node-F.If vs last) = refl
has_by (Node-F.Loop s t n b) = refl
has_by (Node-F.Foreach ws b) = refl
has_by (Node-F.Switch k ws bs) = refl
has_by (Node-F.Catch b) = refl
has_by (Node-F.CatchIn b n) = refl
has_by Node-F.NextBody = refl
has_by (Node-F.Prefixed ops e) = refl
has_by (Node-F.Row first rest) = refl
has_by (Node-F.Choice vs last) = refl

pub has_words_view : (n : Node) → has_words_in (out-Node n) ≡ has_words (node_view n)
has_words_view n = has_by (out-Node n) ∙ ap has_words (sym (viewed n))

verb_by : (f : Node-F Node) → word_verb_in f ≡ word_verb (step_of f)
verb_by (Node-F.Plain t) = refl
verb_by (Node-F.Variable n) = refl
verb_by (Node-F.Element n ns) = refl
verb_by (Node-F.Word ns) = refl
verb_by (Node-F.Script ns) = refl
verb_by (Node-F.Command verb.Named ns) = refl
verb_by (Node-F.Command verb.Computed ns) = refl
verb_by (Node-F.Command verb.Set ns) = refl
verb_by (Node-F.Command verb.Unset ns) = refl
verb_by (Node-F.Command verb.Incr ns) = refl
verb_by (Node-F.Command verb.Append ns) = refl
verb_by (Node-F.Command verb.Lappend ns) = refl
verb_by (Node-F.Command verb.Array ns) = refl
verb_by (Node-F.Command verb.Info ns) = refl
verb_by (Node-F.Command verb.Return ns) = refl
verb_by (Node-F.Command verb.Break ns) = refl
verb_by (Node-F.Command verb.Continue ns) = refl
verb_by (Node-F.Command verb.Error ns) = refl
verb_by (Node-F.Command verb.Call ns) = refl
verb_by (Node-F.Command verb.ExprOfWords ns) = refl
verb_by (Node-F.Expr e) = refl
verb_by (Node-F.If vs last) = refl
verb_by (Node-F.Loop s t n b) = refl
verb_by (Node-F.Foreach ws b) = refl
verb_by (Node-F.Switch k ws bs) = refl
verb_by (Node-F.Catch b) = refl
verb_by (Node-F.CatchIn b n) = refl
verb_by Node-F.NextBody = refl
verb_by (Node-F.Prefixed ops e) = refl
verb_by (Node-F.Row first rest) = refl
verb_by (Node-F.Choice vs last) = refl

pub word_verb_view : (n : Node) → word_verb_in (out-Node n) ≡ word_verb (node_view n)
word_verb_view n = verb_by (out-Node n) ∙ ap word_verb (sym (viewed n))
