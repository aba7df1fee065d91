-- Expressions that have their end at once, in the move of the node that asks for them.
use Rattle.std.specs.Prelude.{ℕ, List, [], ◌∷◌, length, nat_le, Bool, true, false, ◌&&◌}
use Rattle.std.specs.Prelude.{Option, Some, None, if◌then◌else◌}
use Rattle.tcl_expr.specs.declared.expr.Joint.{Joint}
use Rattle.tcl_trees.specs.Tree.{Tree}
use Rattle.rule_model.specs.Outcome.{Ends, Meaning, paid}
use Rattle.rule_model.specs.declared.code.Code.{Code}
use Rattle.rule_model.specs.declared.code.Code.TheVariants.{Value}
use Rattle.frames.specs.Children.{child_at}
use Rattle.frames.specs.Counted.{Counted, given, counted_after}
use Rattle.frames.specs.Leafs.{leaf_code}
use Rattle.frames.specs.Owed.{is_flat}
use Rattle.frames.specs.Reads.{Known}
use Rattle.frame_loops.specs.Rows.{most_operators, row_from, row_of}
use Rattle.frame_loops.specs.declared.rows.Rowed.{Rowed}
use Rattle.frame_loops.specs.declared.rows.Rowed.TheVariants as rowed

-- all right operands have their end at once
abbrev pub all_flat : List (Joint × Tree) → Bool
all_flat [] = true
all_flat (o ∷ os) = is_flat o.1 && all_flat os

-- a row of such operands whose operators one move applies, one at least
abbrev pub is_brief : Tree → List (Joint × Tree) → Bool
is_brief first [] = false
is_brief first all =
    is_flat first && (nat_le (length all) most_operators && all_flat all)

-- what such a row ends with
abbrev pub rowed_code : Rowed → Code
rowed_code (rowed.Done code) = code
rowed_code (rowed.Child at joint left) = Value left
rowed_code (rowed.Stays at left) = Value left

abbrev pub coded_row : Counted Rowed → Counted Code
coded_row c = record { value = rowed_code c.value; cost = c.cost; ticks = c.ticks }

-- behind its first operand, and from the beginning
abbrev pub brief_told : Known → List (Joint × Tree) → Code → Counted Code
brief_told k all (Value v) = coded_row (row_from k most_operators 0 all v)
brief_told k all code = given code

abbrev pub brief_code : Known → Tree → List (Joint × Tree) → Counted Code
brief_code k first all = counted_after 1 0 (brief_told k all (leaf_code k.statics k.vars first))

abbrev pub some_of : Counted Code → Counted (Option Code)
some_of c = record { value = Some c.value; cost = c.cost; ticks = c.ticks }

abbrev pub quick_row : Known → Tree → List (Joint × Tree) → Counted (Option Code)
quick_row k first all =
    if is_brief first all then some_of (brief_code k first all) else given None

-- the code that such an expression ends with; none where it isn't one
abbrev pub quick : Known → Tree → Counted (Option Code)
quick k t =
    if is_flat t then given (Some (leaf_code k.statics k.vars t))
    else quick_row k (child_at t 0) (row_of t)

-- what such a code comes to; where there is none, the expression itself
abbrev pub quick_or : {H : Type 0} → Option Code → ℕ → Meaning H → Meaning H
quick_or (Some code) cost m path st = Ends code (paid cost st)
quick_or None cost m path st = m path st
