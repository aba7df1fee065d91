-- The moves of a quoted operand and of an array's element.
use Rattle.std.specs.Prelude.{ℕ, List, [], Option}
use Rattle.tcl_trees.specs.Tree.{Tree}
use Rattle.tcl_trees.specs.Tree as tree
use Rattle.tcl_trees.specs.declared.node.Node.{Node}
use Rattle.tcl_trees.specs.declared.node.Node.TheOpen.{Node-F}
use Rattle.tcl_vars.specs.Scopes.{Level, Scopes}
use Rattle.rule_model.specs.Outcome.{code_of}
use Rattle.rule_model.specs.declared.code.Code.{Code}
use Rattle.rule_model.specs.declared.code.Code.TheVariants.{Value, Raised, Return, Break, Continue}
use Rattle.rule_nodes.specs.Values.{element_read}
use Rattle.frames.specs.Children.{pieces_of}
use Rattle.frames.specs.Moves.{child_under, stop}
use Rattle.frame_words.specs.Pieces.{pieces_behind, pieces_behind_cost, pieces_cost, pieces_from}
use Rattle.frames.specs.Stills.{Move, moves}
use Rattle.frames.specs.declared.frame.Frame.TheVariants as frame
use Rattle.frames.specs.declared.next.Next.{Next}
use Rattle.frame_words.specs.declared.pieces.Piece.{Piece}
use Rattle.frame_words.specs.declared.pieces.Piece.TheVariants as piece

-- the code of a whole text
abbrev pub whole_code : Option Level → Scopes → Tree → List ℕ → Code
whole_code statics vars (tree.element name ts) text =
    code_of (element_read statics name text vars)
whole_code statics vars t text = Value text

abbrev pub whole_in : Option Level → Scopes → Node-F Node → List ℕ → Code
whole_in statics vars (Node-F.Element name index) text =
    code_of (element_read statics name text vars)
whole_in statics vars node text = Value text

abbrev pub pieces_next : Option Level → Scopes → Tree → Piece → Next
pieces_next statics vars t (piece.Whole text) = stop (whole_code statics vars t text)
pieces_next statics vars t (piece.Ends code) = stop code
pieces_next statics vars t (piece.Child part text) = child_under (frame.Pieces part text)

abbrev pub pieces_begin : Option Level → Scopes → Tree → Move
pieces_begin statics vars t = record {
  next = pieces_next statics vars t (pieces_from statics vars (pieces_of t) 0 []);
  cost = pieces_cost 1 statics vars (pieces_of t) [];
  ticks = 0;
}

-- behind the part of this number
abbrev pub pieces_goes : Option Level → Scopes → Tree → ℕ → List ℕ → Code → Move
pieces_goes statics vars t part text (Value v) = record {
  next = pieces_next statics vars t (pieces_behind statics vars (pieces_of t) part text v);
  cost = pieces_behind_cost 1 statics vars (pieces_of t) part text v;
  ticks = 0;
}
pieces_goes statics vars t part text (Raised f) = moves (stop (Raised f))
pieces_goes statics vars t part text (Return v) = moves (stop (Return v))
pieces_goes statics vars t part text Break = moves (stop Break)
pieces_goes statics vars t part text Continue = moves (stop Continue)
