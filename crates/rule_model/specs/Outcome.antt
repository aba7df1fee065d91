-- How an evaluation ends, where it stands, and what goes on from there.
use Rattle.std.specs.Prelude.{ℕ, ◌+◌, ◌-◌, List, [], ◌∷◌, ◌++◌, map, codes, Option, Some, None}
use Rattle.std.specs.Prelude.{Result, Ok, Err, Bool, true, false, nat_eq, if◌then◌else◌}
use Rattle.px_bytes.specs.FaultText.{budget_spent, outside_loop}
use Rattle.px_bytes.specs.declared.fault.TclFault.{TclFault}
use Rattle.px_bytes.specs.declared.fault.Reply.{Reply}
use Rattle.px_bytes.specs.declared.fault.Reply.TheVariants as reply
use Rattle.tcl_vars.specs.Scopes.{Scopes}
use Rattle.tcl_var_commands.specs.Changed.{Changed}
use Rattle.rule_model.specs.Host.{Effect, HostStep, Gives, Faults, Asks}
use Rattle.rule_model.specs.declared.code.Code.{Code}
use Rattle.rule_model.specs.declared.code.Code.TheVariants.{Value, Raised, Return, Break, Continue}

-- the fault that a body leaves uncaught; `break` and `continue` may stand in a loop alone (Tcl 8.4,
-- break(n))
abbrev pub uncaught_of : Code → Option TclFault
uncaught_of (Value v) = None
uncaught_of (Raised fault) = Some fault
uncaught_of (Return v) = None
uncaught_of Break = Some (outside_loop (codes "break"))
uncaught_of Continue = Some (outside_loop (codes "continue"))

-- a value or a fault as a code
abbrev pub code_of : Result (List ℕ) TclFault → Code
code_of (Ok v) = Value v
code_of (Err fault) = Raised fault

-- the answer to a shared call as a code
abbrev pub reply_code : Reply → Code
reply_code (reply.Ok v) = Value v
reply_code (reply.Fault f) = Raised f

-- what was done so far, in order: an effect of a host command, or a shared call with the path to
-- the node that made it
pub data Act : Type 0 where
  Did : Effect → Act
  Called : (path : List ℕ) → (call : List (List ℕ)) → Act

-- where an evaluation stands: variables, the host's state, the replies left, the budget left, the
-- cost so far, and what was done so far
pub record State (H : Type 0) : Type 0 where
  pub vars : Scopes
  pub host : H
  pub replies : List Reply
  pub budget : ℕ
  pub cost : ℕ
  pub acts : List Act

abbrev pub state : {H : Type 0} → Scopes → H → List Reply → ℕ → ℕ → List Act → State H
state vars host replies budget cost acts =
    record { vars = vars; host = host; replies = replies; budget = budget; cost = cost; acts = acts }

-- how an evaluation ends: with a code, or at a shared call that has no reply
pub data Outcome (H : Type 0) : Type 0 where
  Ends : Code → State H → Outcome H
  Waits : (path : List ℕ) → (call : List (List ℕ)) → State H → Outcome H

-- what a tree does from the path to it and a state
abbrev pub Meaning : Type 0 → Type 0
Meaning H = List ℕ → State H → Outcome H

-- goes on with a code
abbrev pub then_code : {H : Type 0} → Outcome H → (Code → State H → Outcome H) → Outcome H
then_code (Ends code st) go = go code st
then_code (Waits path call st) go = Waits path call st

-- goes on where the code is a value
abbrev pub with_value : {H : Type 0} → (List ℕ → State H → Outcome H) → Code → State H → Outcome H
with_value go (Value v) st = go v st
with_value go (Raised f) st = Ends (Raised f) st
with_value go (Return v) st = Ends (Return v) st
with_value go Break st = Ends Break st
with_value go Continue st = Ends Continue st

abbrev pub then_value : {H : Type 0} → Outcome H → (List ℕ → State H → Outcome H) → Outcome H
then_value o go = then_code o (with_value go)

-- A value that nothing hears is as good as the empty one.
abbrev pub unvalued : Code → Code
unvalued (Value v) = Value []
unvalued (Raised f) = Raised f
unvalued (Return v) = Return v
unvalued Break = Break
unvalued Continue = Continue

abbrev pub heard_code : (wanted : Bool) → Code → Code
heard_code true code = code
heard_code false code = unvalued code

abbrev pub heard : {H : Type 0} → (wanted : Bool) → Outcome H → Outcome H
heard wanted (Ends code st) = Ends (heard_code wanted code) st
heard wanted (Waits path call st) = Waits path call st

-- so much more cost
abbrev pub paid : {H : Type 0} → ℕ → State H → State H
paid n st = record st { cost = st.cost + n }

-- one unit of budget, which costs one; a missing one is a fault that no catch takes
abbrev pub spend : {H : Type 0} → State H → (State H → Outcome H) → Outcome H
spend st go =
    if nat_eq st.budget 0 then Ends (Raised budget_spent) st
    else go (record st { budget = st.budget - 1; cost = st.cost + 1 })

-- a value or a fault, as things stand
abbrev pub ends : {H : Type 0} → Result (List ℕ) TclFault → State H → Outcome H
ends result st = Ends (code_of result) st

-- what a command on variables comes to
abbrev pub changed : {H : Type 0} → Changed → State H → Outcome H
changed c st = Ends (code_of c.value) (record st { vars = c.vars })

-- a shared call: its reply, or a wait
abbrev pub ask_in : {H : Type 0} → List Reply → List (List ℕ) → Meaning H
ask_in [] call path st = Waits path call (record st { acts = st.acts ++ Called path call ∷ [] })
ask_in (r ∷ more) call path st =
    Ends (reply_code r) (record st { replies = more; acts = st.acts ++ Called path call ∷ [] })

abbrev pub ask : {H : Type 0} → List (List ℕ) → Meaning H
ask call path st = ask_in st.replies call path st

-- a host command's answer
abbrev pub answered : {H : Type 0} → HostStep H → Meaning H
answered (Gives v h effects) path st =
    Ends (Value v) (record st { host = h; acts = st.acts ++ map Did effects })
answered (Faults f h effects) path st =
    Ends (Raised f) (record st { host = h; acts = st.acts ++ map Did effects })
answered (Asks call h) path st = ask call path (record st { host = h })
