use Rattle.std.proofs.Common.{◌≡◌, ◌+◌, drop}
use Rattle.std.specs.Prelude.{option_map}
use Rattle.tcl_trees.specs.TreeView.{nodes_view}
use Rattle.frame_words.specs.Pieces.{pieces_cost, pieces_from}
use Rattle.frame_words.proofs.pieces.pieces.Given as goal

abbrev pub invariant-loop-part : goal.invariant-loop-part
invariant-loop-part g l = record {
  piece : let level = option_map (λ v. v.now.statics) l.fn.statics in
      pieces_from level l.fn.vars (drop l.part (nodes_view l.fn.parts)) l.part l.text
      ≡ pieces_from level l.fn.vars (drop l.fn.first (nodes_view l.fn.parts)) l.fn.first l.fn.text;
  cost : let level = option_map (λ v. v.now.statics) l.fn.statics in
      l.paid + pieces_cost l.fn.price level l.fn.vars (drop l.part (nodes_view l.fn.parts)) l.text
      ≡ l.fn.paid + pieces_cost l.fn.price level l.fn.vars (drop l.fn.first (nodes_view l.fn.parts))
      l.fn.text;
}
