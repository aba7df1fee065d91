-- The moves of `catch` (Tcl 8.4, catch(n)).
use Rattle.std.specs.Prelude.{ℕ, List, Option, Some, None, if◌then◌else◌}
use Rattle.tcl_trees.specs.Tree.{Tree}
use Rattle.tcl_vars.specs.Scopes.{Level, Scopes}
use Rattle.tcl_var_commands.specs.Changed.{Changed}
use Rattle.rule_model.specs.Control.{code_number, is_caught, number_changed}
use Rattle.rule_model.specs.Outcome.{code_of}
use Rattle.rule_model.specs.declared.code.Code.{Code}
use Rattle.rule_model.specs.declared.code.Code.TheVariants.{Value}
use Rattle.frames.specs.Leafs.{leaf_code}
use Rattle.frames.specs.Moves.{child_under, stop}
use Rattle.frames.specs.Owed.{is_flat}
use Rattle.frames.specs.Reads.{Known}
use Rattle.frames.specs.Stills.{Move, Write, moves, move_after, writes}
use Rattle.frames.specs.declared.frame.Frame.{Frame}
use Rattle.frames.specs.declared.frame.Frame.TheVariants as frame

-- behind the body
abbrev pub caught_code : Code → Code
caught_code code = if is_caught code then Value (code_number code) else code

abbrev pub caught_told : Code → Move
caught_told code = moves (stop (caught_code code))

abbrev pub catch_move : Known → Tree → Move
catch_move k body =
    move_after 1 0
    (if is_flat body then caught_told (leaf_code k.statics k.vars body)
    else moves (child_under frame.Caught))

-- the same with the name of a variable, which gets the text of the code
abbrev pub write_of : Changed → Write
write_of c = writes c.vars (stop (code_of c.value))

abbrev pub caught_in_told : Option Level → List ℕ → Code → Scopes → Write
caught_in_told statics name code vars =
    if is_caught code then write_of (number_changed statics name code vars)
    else writes vars (stop code)

abbrev pub caught_by : Option Level → Option (List ℕ) → Code → Scopes → Write
caught_by statics None code vars = writes vars (stop (caught_code code))
caught_by statics (Some name) code vars = caught_in_told statics name code vars

abbrev pub catch_frame : Option (List ℕ) → Frame
catch_frame None = frame.Caught
catch_frame (Some name) = frame.CaughtIn name

-- the body begins behind the words, which end with the name
abbrev pub catch_in_move : Option Level → Tree → Option (List ℕ) → Scopes → Write
catch_in_move statics body name vars =
    if is_flat body then caught_by statics name (leaf_code statics vars body) vars
    else writes vars (child_under (catch_frame name))
