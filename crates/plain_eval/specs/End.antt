-- The end of what was evaluated last, as the plain evaluator notes it.
use Rattle.std.specs.Prelude.{◌≡◌, ℕ, ◌+◌, ◌-◌, ◌<◌, ◌≤◌, List, [], ◌∷◌, ◌++◌, length, nat_lt, Bool}
use Rattle.std.specs.Prelude.{Option, Some, None, Result, Ok, Err, if◌then◌else◌}
use Rattle.std.specs.Bool.{MatchBool}
use Rattle.px_bytes.specs.FaultText.{budget_spent, too_long}
use Rattle.px_bytes.specs.Limit.{text_limit}
use Rattle.px_bytes.specs.declared.fault.Raise.{Raise}
use Rattle.px_bytes.specs.declared.fault.Raise.TheVariants as raise
use Rattle.px_bytes.specs.declared.fault.TclFault.{TclFault}
use Rattle.px_bytes.specs.declared.memory.Memory as memory
use Rattle.px_bytes.specs.declared.fault.Reply.{Reply}
use Rattle.tcl_vars.specs.Scopes.{Level, Scopes, out_of_proc}
use Rattle.tcl_var_commands.specs.Changed.{Changed}
use Rattle.rule_model.specs.Commands.{code_left}
use Rattle.rule_model.specs.Control.{code_number, is_caught, number_changed}
use Rattle.rule_model.specs.Outcome.{code_of, heard_code, reply_code}
use Rattle.rule_model.specs.declared.code.Code.{Code}
use Rattle.rule_model.specs.declared.code.Code.TheVariants.{Value, Raised}
use Rattle.rule_nodes.specs.Own as own
use Rattle.rule_nodes.specs.declared.goes.Goes.{Goes}
use Rattle.rule_nodes.specs.declared.goes.Goes.TheVariants.{On, Over, Ends}
use Rattle.plain_eval.specs.declared.run.End.{End}
use Rattle.plain_eval.specs.declared.run.End.TheVariants.{Done, Waits, Memory}
use Rattle.plain_eval.specs.declared.run.Halted.{Halted}
use Rattle.plain_eval.specs.declared.run.Run.{Run}

-- whether it is a value
abbrev pub ended : End → Result (Unit {0}) Halted
ended (Done (Value v)) = Ok tt
ended other = Err (record {})

abbrev pub value_in : End → List ℕ
value_in (Done (Value v)) = v
value_in other = []

abbrev pub noted : Result Code memory.Memory → End
noted (Ok code) = Done code
noted (Err m) = Memory

abbrev pub fault_end : Result TclFault memory.Memory → End
fault_end (Ok f) = Done (Raised f)
fault_end (Err m) = Memory

abbrev pub raise_end : Raise → End
raise_end (raise.Fault f) = Done (Raised f)
raise_end raise.Memory = Memory

abbrev pub end_of : Result (List ℕ) Raise → End
end_of (Ok v) = Done (Value v)
end_of (Err e) = raise_end e

-- what a call gave, whose fault is noted
abbrev pub kept : {A : Type 0} → Result A Raise → Result A Halted
kept (Ok a) = Ok a
kept (Err e) = Err (record {})

abbrev pub kept_end : {A : Type 0} → Result A Raise → End → End
kept_end (Ok a) end = end
kept_end (Err e) end = raise_end e

-- this code, unless out of memory
abbrev pub Is : Code → End → Type 0
Is c (Done d) = d ≡ c
Is c (Waits call) = ⊥
Is c Memory = Unit {0}

-- what was noted stays, unless it is a value that is too long
abbrev pub Limited : End → End → Type 0
Limited (Done (Value v)) new =
    MatchBool (nat_lt text_limit (length v)) (Is (Raised too_long) new) (new ≡ Done (Value v))
Limited other new = new ≡ other

-- one unit of budget is taken, unless there is none
abbrev pub Spends : Run → Result (Unit {0}) Halted → Run → Type 0
Spends old (Ok x) new = (0 < old.budget) × (new ≡ record old { budget = old.budget - 1 })
Spends old (Err h) new =
    (old.budget ≡ 0) × Is (Raised budget_spent) new.end × (new ≡ record old { end = new.end })

-- a value is added to those of a row, unless they are too long with it
abbrev pub AddsValue : ℕ → List ℕ → List (List ℕ) → Result ℕ Halted → List (List ℕ) → End → Type 0
AddsValue total value old (Ok n) new end =
    (n ≡ total + length value) × (n ≤ text_limit) × (new ≡ old ++ value ∷ [])
AddsValue total value old (Err h) new end =
    MatchBool (nat_lt text_limit (total + length value)) (Is (Raised too_long) end) (end ≡ Memory)

-- the pieces of a word so far are all these bytes, unless they are too long
abbrev pub AddsPiece : List ℕ → Result (Unit {0}) Halted → List ℕ → End → Type 0
AddsPiece all (Ok u) new end = (length all ≤ text_limit) × (new ≡ all)
AddsPiece all (Err h) new end =
    MatchBool (nat_lt text_limit (length all)) (Is (Raised too_long) end) (end ≡ Memory)

-- what a loop does after an end
abbrev pub after_end : (Code → Goes) → End → Goes
after_end goes (Done c) = goes c
after_end goes other = Ends

-- whether it goes on
abbrev pub going : Goes → Result (Unit {0}) Halted
going On = Ok tt
going other = Err (record {})

-- the end of a loop that doesn't go on: the empty value, where it is over
abbrev pub loop_end : Goes → End → End
loop_end Over end = Done (Value [])
loop_end other end = end

-- the code that a `catch` takes
abbrev pub caught_code : End → Option Code
caught_code (Done c) = if is_caught c then Some c else None
caught_code other = None

-- this value or fault of a change of variables, and the variables after it, unless out of memory
abbrev pub ChangeIs : Changed → End → Scopes → Type 0
ChangeIs changed (Done c) vars = (c ≡ code_of changed.value) × (vars ≡ changed.vars)
ChangeIs changed (Waits call) vars = ⊥
ChangeIs changed Memory vars = Unit {0}

-- the number of a code that is caught; the variable that is named, where one is, gets its text
abbrev pub CaughtBy : Option Level → Option (List ℕ) → Option Code → Run → Run → Type 0
CaughtBy level name None old new = new ≡ old
CaughtBy level None (Some c) old new =
    Is (Value (code_number c)) new.end × (new ≡ record old { end = new.end })
CaughtBy level (Some name) (Some c) old new =
    ChangeIs (number_changed level name c old.vars) new.end new.vars
    × (new ≡ record old { vars = new.vars; end = new.end })

abbrev pub Caught : Option Level → Option (List ℕ) → Run → Run → Type 0
Caught level name old new = CaughtBy level name (caught_code old.end) old new

-- a procedure's body ended so: its variables go
abbrev pub Leaves : End → Run → Run → Type 0
Leaves (Done c) old new =
    Is (code_left c) new.end
    × (new ≡ record old { vars = out_of_proc old.vars; end = new.end })
Leaves other old new = new ≡ old

-- a command of the language is done, unless out of memory
abbrev pub OwnedAs : Bool → own.Done → Result Code memory.Memory → Scopes → Type 0
OwnedAs w done (Ok c) vars = (heard_code w c ≡ heard_code w done.code) × (vars ≡ done.vars)
OwnedAs w done (Err m) vars = Unit {0}

-- the next reply is taken, where there is one
abbrev pub Asked : List Reply → List (List ℕ) → End → List Reply → Type 0
Asked [] call end left = (end ≡ Waits call) × (left ≡ [])
Asked (r ∷ more) call end left = Is (reply_code r) end × (left ≡ more)
