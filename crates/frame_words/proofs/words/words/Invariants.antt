use Rattle.std.proofs.Common.{◌≡◌, ◌+◌, drop}
use Rattle.std.specs.Prelude.{option_map}
use Rattle.tcl_trees.specs.TreeView.{nodes_view}
use Rattle.frame_words.specs.Words.{words_cost, words_from}
use Rattle.frame_words.proofs.words.words.Given as goal

abbrev pub invariant-loop-word : goal.invariant-loop-word
invariant-loop-word g l = record {
  words : let level = option_map (λ v. v.now.statics) l.fn.statics in
      words_from level l.fn.vars (drop l.word (nodes_view l.fn.all)) l.word l.values
      ≡ words_from level l.fn.vars (drop l.fn.first (nodes_view l.fn.all)) l.fn.first l.fn.values;
  cost : let level = option_map (λ v. v.now.statics) l.fn.statics in
      l.paid + words_cost l.fn.unit level l.fn.vars (drop l.word (nodes_view l.fn.all)) l.values
      ≡ l.fn.paid + words_cost l.fn.unit level l.fn.vars (drop l.fn.first (nodes_view l.fn.all)) l.fn.values;
}
