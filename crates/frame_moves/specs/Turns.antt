-- The moves of `foreach` (Tcl 8.4, foreach(n)).
use Rattle.std.specs.Prelude.{ℕ, ◌+◌, ◌-◌, List, [], Vec, nat_eq, Option, Result, Ok, Err}
use Rattle.std.specs.Prelude.{if◌then◌else◌}
use Rattle.std.specs.declared.alloc.Global.{Global}
use Rattle.px_bytes.specs.FaultText.{budget_spent}
use Rattle.px_bytes.specs.declared.fault.TclFault.{TclFault}
use Rattle.tcl_trees.specs.Tree.{Tree}
use Rattle.tcl_vars.specs.Scopes.{Level, Scopes}
use Rattle.tcl_var_commands.specs.Changed.{Changed}
use Rattle.rule_model.specs.Control.{turn_assigned}
use Rattle.rule_model.specs.declared.code.Code.{Code}
use Rattle.rule_model.specs.declared.code.Code.TheVariants.{Value, Raised}
use Rattle.rule_nodes.specs.Goes.{body_goes}
use Rattle.rule_nodes.specs.Rows.{rows_view}
use Rattle.rule_nodes.specs.declared.goes.Goes.{Goes}
use Rattle.rule_nodes.specs.declared.goes.Goes.TheVariants.{On, Over, Ends}
use Rattle.rule_nodes.specs.declared.rows.Row.{Row}
use Rattle.frame_loops.specs.Loops.{above}
use Rattle.frames.specs.Moves.{stop}
use Rattle.frames.specs.Reads.{known}
use Rattle.frames.specs.Stills.{Change, changes, change_after}
use Rattle.frames.specs.declared.frame.Frame.TheVariants as frame
use Rattle.frames.specs.declared.next.Next.{Next}

-- what stays over the turns: the static variables, the number of the body among the children, the
-- body, and the rows
pub record Turns : Type 0 where
  pub statics : Option Level
  pub place : ℕ
  pub body : Tree
  pub rows : Vec Row Global

-- the body, once the variables of this turn are set
abbrev pub body_next : Turns → (number left : ℕ) → Scopes → Next
body_next t number left vars =
    above (known t.statics vars) t.body (frame.Each t.place t.rows (number + 1) (left - 1))

abbrev pub assigned_next : Turns → (number left : ℕ) → Result (List ℕ) TclFault → Scopes → Next
assigned_next t number left (Ok v) vars = body_next t number left vars
assigned_next t number left (Err f) vars = stop (Raised f)

abbrev pub assigned_by : Turns → (number left budget : ℕ) → Result (List ℕ) TclFault → Scopes
    → Change
assigned_by t number left budget value vars =
    changes budget vars (assigned_next t number left value vars)

abbrev pub assigned_move : Turns → (number left budget : ℕ) → Changed → Change
assigned_move t number left budget c = assigned_by t number left budget c.value c.vars

-- the turn of this number, where so many are left
abbrev pub each_move : Turns → (number left budget : ℕ) → Scopes → Change
each_move t number left budget vars =
    if nat_eq left 0 then changes budget vars (stop (Value []))
    else (if nat_eq budget 0 then changes budget vars (stop (Raised budget_spent))
    else change_after 1 0
    (assigned_move t number left (budget - 1)
    (turn_assigned t.statics number (rows_view t.rows) vars)))

-- behind the body
abbrev pub each_by : Goes → Code → ℕ → Scopes → Change → Change
each_by On code budget vars go = go
each_by Over code budget vars go = changes budget vars (stop (Value []))
each_by Ends code budget vars go = changes budget vars (stop code)

abbrev pub each_told : Turns → (number left budget : ℕ) → Code → Scopes → Change
each_told t number left budget code vars =
    each_by (body_goes code) code budget vars (each_move t number left budget vars)
