-- The moves of a call (iRules: call; Tcl 8.4, proc(n)).
use Rattle.std.specs.Prelude.{ℕ, ◌-◌, List, ◌∷◌, map, nat_eq, Bool, Option}
use Rattle.std.specs.Prelude.{Result, Ok, Err, if◌then◌else◌, unwrap_or}
use Rattle.px_bytes.specs.declared.fault.TclFault.{TclFault}
use Rattle.tcl_trees.specs.Procedures.{Procedure, place_named}
use Rattle.tcl_trees.specs.Tree.{Tree}
use Rattle.tcl_vars.specs.Scopes.{Level, Scopes, in_proc, out_of_proc}
use Rattle.tcl_var_commands.specs.Assigning.{row_assigned}
use Rattle.tcl_var_commands.specs.Changed.{Changed}
use Rattle.rule_model.specs.Commands.{Bound, bound_of, code_left, too_deep}
use Rattle.rule_model.specs.declared.code.Code.{Code}
use Rattle.rule_model.specs.declared.code.Code.TheVariants.{Raised}
use Rattle.frames.specs.Leafs.{leaf_code}
use Rattle.frames.specs.Moves.{child_under, stop}
use Rattle.frames.specs.Owed.{is_flat}
use Rattle.frames.specs.Stills.{Write, writes}
use Rattle.frames.specs.declared.frame.Frame.TheVariants as frame
use Rattle.frames.specs.declared.frame.Room.{Room}

-- the place of the procedure that a call names
abbrev pub place_in : List Procedure → (words : List (List ℕ)) → ℕ
place_in procedures (verb ∷ (name ∷ words)) = unwrap_or (place_named name procedures) 0
place_in procedures words = 0

-- what stays over a call: the static variables, the procedures, what may nest where it stands, and
-- whether its value is heard
pub record Caller : Type 0 where
  pub statics : Option Level
  pub procedures : List Procedure
  pub room : Room
  pub wanted : Bool

-- a call ends: its variables go
abbrev pub called_told : Code → Scopes → Write
called_told code vars = writes (out_of_proc vars) (stop (code_left code))

-- a procedure's body, among its parameters
abbrev pub room_within : Room → Room
room_within r = record r { calls = r.calls - 1 }

abbrev pub body_move : Caller → (place : ℕ) → Tree → Scopes → Write
body_move c place body vars =
    if nat_eq c.room.calls 0 then called_told (Raised too_deep) vars
    else (if is_flat body then called_told (leaf_code c.statics vars body) vars
    else writes vars (child_under (frame.Called place (room_within c.room) c.wanted)))

abbrev pub entered_by : Caller → (place : ℕ) → Tree → Result (List ℕ) TclFault → Scopes → Write
entered_by c place body (Ok v) vars = body_move c place body vars
entered_by c place body (Err f) vars = called_told (Raised f) vars

abbrev pub entered_move : Caller → (place : ℕ) → Tree → Changed → Write
entered_move c place body done = entered_by c place body done.value done.vars

abbrev pub bound_move : Caller → (place : ℕ) → Bound → Scopes → Write
bound_move c place b vars =
    entered_move c place b.procedure.body
    (row_assigned c.statics (map (λ q. q.name) b.procedure.parameters) b.values (in_proc vars))

abbrev pub call_by : Caller → (place : ℕ) → Result Bound TclFault → Scopes → Write
call_by c place (Ok b) vars = bound_move c place b vars
call_by c place (Err f) vars = writes vars (stop (Raised f))

abbrev pub call_move : Caller → (words : List (List ℕ)) → Scopes → Write
call_move c words vars =
    call_by c (place_in c.procedures words) (bound_of c.procedures words) vars
