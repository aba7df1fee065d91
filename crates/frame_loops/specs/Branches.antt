-- The moves of `if` and `?:` (Tcl 8.4, if(n), expr(n)).
use Rattle.std.specs.Prelude.{ℕ, ◌+◌, List, [], ◌∷◌, drop, length, Bool, true, false}
use Rattle.std.specs.Prelude.{Option, Some, None, Result, Ok, Err, if◌then◌else◌}
use Rattle.px_bytes.specs.declared.fault.TclFault.{TclFault}
use Rattle.tcl_trees.specs.Tree.{Tree, Values, no_values, and_value}
use Rattle.tcl_trees.specs.Tree as tree
use Rattle.rule_model.specs.Children.{alone}
use Rattle.rule_model.specs.declared.code.Code.{Code}
use Rattle.rule_model.specs.declared.code.Code.TheVariants.{Value, Raised}
use Rattle.rule_nodes.specs.Operators.{truth_read}
use Rattle.frames.specs.Leafs.{leaf_code}
use Rattle.frames.specs.Moves.{back_under, child_under, stop}
use Rattle.frames.specs.Owed.{is_flat}
use Rattle.frame_loops.specs.Quick.{quick}
use Rattle.frames.specs.Reads.{Known}
use Rattle.frames.specs.Stills.{Move, moves, move_after, on_result}
use Rattle.frames.specs.declared.frame.Frame.TheVariants as frame
use Rattle.frames.specs.declared.next.Next.{Next}

-- conditions with what stands beside each
abbrev pub paired : Values → List (Tree × Tree)
paired no_values = []
paired (and_value condition value vs) = (condition, value) ∷ paired vs

-- the conditions of `if` or `?:` with their bodies or values, and the last; which of the two it is;
-- and whether the value is heard
pub record Choices : Type 0 where
  pub values : List (Tree × Tree)
  pub last : Option Tree
  pub is_choice : Bool
  pub wanted : Bool

abbrev pub choices : List (Tree × Tree) → Option Tree → (is_choice wanted : Bool) → Choices
choices values last is_choice wanted =
    record { values = values; last = last; is_choice = is_choice; wanted = wanted }

-- those of a tree; another kind has none
abbrev pub choices_of : (wanted : Bool) → Tree → Choices
choices_of wanted (tree.branches vs last) = choices (paired vs) (Some last) false wanted
choices_of wanted (tree.choice vs last) = choices (paired vs) (Some last) true wanted
choices_of wanted t = choices [] None false wanted

-- a condition of `?:` is an operator's operand, and one of `if` a whole expression
abbrev pub condition_cost : Bool → Tree → ℕ
condition_cost true t = 2
condition_cost false t = alone t

abbrev pub value_cost : Bool → ℕ
value_cost is_choice = if is_choice then 1 else 0

-- a child whose end is the node's
abbrev pub within : Known → Tree → (place : ℕ) → (wanted : Bool) → Next
within k t place wanted =
    if is_flat t then stop (leaf_code k.statics k.vars t)
    else child_under (frame.Body place wanted)

abbrev pub value_move : Known → Choices → Tree → (place : ℕ) → Move
value_move k c t place =
    move_after (value_cost c.is_choice) 0 (moves (within k t place c.wanted))

abbrev pub last_by : Known → Choices → Option Tree → Move
last_by k c (Some t) = value_move k c t (length c.values + length c.values)
last_by k c None = moves (stop (Value []))

abbrev pub last_move : Known → Choices → Move
last_move k c = last_by k c c.last

-- A condition that has its value at once lets its body run, or waits for the next move.
abbrev pub holds_by : Known → Choices → (at : ℕ) → (value : Tree) → List ℕ
    → Result Bool TclFault → Move
holds_by k c at value v (Ok true) = value_move k c value (at + at + 1)
holds_by k c at value v (Ok false) = moves (back_under (frame.Condition at (at + at)) (Value v))
holds_by k c at value v (Err f) = moves (stop (Raised f))

abbrev pub condition_by : Known → Choices → (at : ℕ) → (value : Tree) → Option Code → Move
condition_by k c at value (Some (Value v)) = holds_by k c at value v (truth_read v)
condition_by k c at value (Some code) = moves (stop code)
condition_by k c at value None = moves (child_under (frame.Condition at (at + at)))

abbrev pub asked_move : Known → Choices → (at : ℕ) → (condition value : Tree) → Move
asked_move k c at condition value =
    let q = quick k condition in
    move_after (condition_cost c.is_choice condition) 0
    (move_after q.cost q.ticks (condition_by k c at value q.value))

-- the condition of a number with those behind it, or else the last
abbrev pub condition_move : Known → Choices → (at : ℕ) → List (Tree × Tree) → Move
condition_move k c at [] = last_move k c
condition_move k c at (v ∷ more) = asked_move k c at v.0 v.1

-- behind a condition
abbrev pub told_by : Known → Choices → (at : ℕ) → List (Tree × Tree) → Bool → Move
told_by k c at [] holds = last_move k c
told_by k c at (v ∷ more) true = value_move k c v.1 (at + at + 1)
told_by k c at (v ∷ more) false = condition_move k c (at + 1) more

abbrev pub condition_told : Known → Choices → (at : ℕ) → Code → Move
condition_told k c at (Value v) =
    on_result (truth_read v) (told_by k c at (drop at c.values)) (λ f. moves (stop (Raised f)))
condition_told k c at code = moves (stop code)

-- the whole, which costs one for the name of `if`
abbrev pub branches_move : Known → Choices → Move
branches_move k c =
    move_after (if c.is_choice then 0 else 1) 0 (condition_move k c 0 c.values)
