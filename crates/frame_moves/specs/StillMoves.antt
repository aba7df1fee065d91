-- The moves that ask no host, by the kind of a node or of a frame.
use Rattle.std.specs.Prelude.{ℕ, [], Bool, Option}
use Rattle.tcl_trees.specs.Tree.{Tree}
use Rattle.tcl_trees.specs.Tree as tree
use Rattle.tcl_vars.specs.Scopes.{Level, Scopes}
use Rattle.rule_model.specs.declared.code.Code.{Code}
use Rattle.rule_model.specs.declared.code.Code.TheVariants.{Value}
use Rattle.frame_loops.specs.Branches.{branches_move, choices_of, condition_told}
use Rattle.frame_words.specs.Calls.{called_told}
use Rattle.frame_words.specs.Catches.{catch_move, caught_in_told, caught_told}
use Rattle.frames.specs.Children.{child_at}
use Rattle.frames.specs.Frames.{operators_of}
use Rattle.frame_loops.specs.Loops.{loop_move, start_told, test_told}
use Rattle.frames.specs.Moves.{stop}
use Rattle.frame_loops.specs.NodeParts.{parts_of}
use Rattle.frame_moves.specs.Prefixes.{expr_move, operand_told, prefixed_move, whole_told}
use Rattle.frames.specs.Reads.{Known, known}
use Rattle.frame_loops.specs.Rows.{left_told, listed, right_told, row_move, row_of}
use Rattle.frames.specs.Stills.{Change, Move, Spend, spends, spent, written}
use Rattle.frame_moves.specs.Turns.{each_told}
use Rattle.frame_words.specs.WordMoves.{pieces_begin, pieces_goes}
use Rattle.frames.specs.declared.frame.Frame.{Frame}
use Rattle.frames.specs.declared.frame.Frame.TheVariants as frame

-- the budget stays
abbrev pub keeps : ℕ → Move → Spend
keeps budget m = record { move = m; budget = budget }

-- how a node begins that evaluates no words first
abbrev pub still_begin : Known → Tree → (wanted : Bool) → (budget : ℕ) → Spend
still_begin k (tree.word ts) wanted budget =
    keeps budget (pieces_begin k.statics k.vars (tree.word ts))
still_begin k (tree.element name ts) wanted budget =
    keeps budget (pieces_begin k.statics k.vars (tree.element name ts))
still_begin k (tree.expr t) wanted budget = keeps budget (expr_move k t)
still_begin k (tree.branches vs last) wanted budget =
    keeps budget (branches_move k (choices_of wanted (tree.branches vs last)))
still_begin k (tree.choice vs last) wanted budget =
    keeps budget (branches_move k (choices_of wanted (tree.choice vs last)))
still_begin k (tree.loop start test next body) wanted budget =
    loop_move k (parts_of (tree.loop start test next body)) budget
still_begin k (tree.catch body) wanted budget = keeps budget (catch_move k body)
still_begin k (tree.prefixed ops t) wanted budget = keeps budget (prefixed_move k ops t)
still_begin k (tree.row t rest) wanted budget = keeps budget (row_move k t (listed rest))
still_begin k t wanted budget = spends budget (stop (Value []))

-- how it goes on at a frame that changes no variable
abbrev pub reading_goes : Known → Tree → Frame → Code → (wanted : Bool) → (budget : ℕ) → Spend
reading_goes k t (frame.Pieces part text) code wanted budget =
    keeps budget (pieces_goes k.statics k.vars t part text code)
reading_goes k t (frame.Operand left) code wanted budget =
    keeps budget (operand_told (operators_of t) left code)
reading_goes k t (frame.Left at) code wanted budget =
    keeps budget (left_told k at (row_of t) code)
reading_goes k t (frame.Right at joint left) code wanted budget =
    keeps budget (right_told k at (row_of t) joint left code)
reading_goes k t (frame.Condition at place) code wanted budget =
    keeps budget (condition_told k (choices_of wanted t) at code)
reading_goes k t frame.Start code wanted budget = start_told k (parts_of t) budget code
reading_goes k t (frame.Test left) code wanted budget =
    test_told k (child_at t 3) left budget code
reading_goes k t frame.Caught code wanted budget = keeps budget (caught_told code)
reading_goes k t frame.Whole code wanted budget = keeps budget (whole_told code)
reading_goes k t (frame.Read expression room) code wanted budget =
    keeps budget (whole_told code)
reading_goes k t f code wanted budget = spends budget (stop code)

-- how it goes on at any frame but that of words
abbrev pub still_goes : Option Level → Scopes → Tree → Frame → Code → (wanted : Bool)
    → (budget : ℕ) → Change
still_goes statics vars t (frame.Each place rows number left) code wanted budget =
    each_told (record { statics = statics; place = place; body = child_at t place; rows = rows })
    number left budget code vars
still_goes statics vars t (frame.CaughtIn name) code wanted budget =
    written budget (caught_in_told statics name code vars)
still_goes statics vars t (frame.Called procedure room heard) code wanted budget =
    written budget (called_told code vars)
still_goes statics vars t f code wanted budget =
    spent vars (reading_goes (known statics vars) t f code wanted budget)
