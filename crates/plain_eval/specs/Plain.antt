-- What the plain evaluator says of the evaluator's outcome.
use Rattle.std.specs.Prelude.{◌≡◌, ℕ, ◌≤◌, List, length, drop, Option, Result, Ok, Err}
use Rattle.px_bytes.specs.declared.fault.Reply.{Reply}
use Rattle.px_bytes.specs.declared.fault.HostAnswer.{HostAnswer}
use Rattle.px_bytes.specs.declared.fault.HostAnswer.TheVariants as answer
use Rattle.px_bytes.specs.declared.memory.Memory.{Memory}
use Rattle.tcl_trees.specs.Procedures.{Procedure}
use Rattle.tcl_vars.specs.Scopes.{Scopes, Level}
use Rattle.rule_model.specs.Host.{HostStep, Gives, Faults, Asks}
use Rattle.rule_model.specs.Outcome.{Outcome, Ends, Waits}
use Rattle.rule_model.specs.Setting.{Setting}
use Rattle.rule_model.specs.declared.code.Code.{Code}
use Rattle.rule_model.specs.declared.code.Code.TheVariants.{Value, Raised, Return, Break, Continue}
use Rattle.plain_eval.specs.declared.plain.PlainCode.{PlainCode}
use Rattle.plain_eval.specs.declared.plain.PlainCode.TheVariants as code
use Rattle.plain_eval.specs.declared.plain.Plain.{Plain}
use Rattle.plain_eval.specs.declared.plain.Plain.TheVariants.{Done, Waits as WaitsFor}
use Rattle.plain_eval.specs.declared.run.End.{End}
use Rattle.plain_eval.specs.declared.run.End.TheVariants as end

-- A host's answer is what its table says, and its state after it the table's too. Only want of
-- memory is free.
abbrev pub Answers : {H : Type 0} → HostStep H → HostAnswer → H → Type 0
Answers (Gives v h effects) (answer.Value w) host = (w ≡ v) × (host ≡ h)
Answers (Faults f h effects) (answer.Fault e) host = (e ≡ f) × (host ≡ h)
Answers (Asks call h) (answer.Ask asked) host = (asked ≡ call) × (host ≡ h)
Answers step answer.Memory host = Unit {0}
Answers step other host = ⊥

-- how the evaluator calls a code
abbrev pub code_of : PlainCode → Code
code_of (code.Ends v) = Value v
code_of (code.Raised f) = Raised f
code_of (code.Return v) = Return v
code_of code.Break = Break
code_of code.Continue = Continue

-- It is done exactly where the evaluator ends, with its code, variables and host's state, and this
-- many of the replies taken. It waits exactly where the evaluator waits, with its call, variables
-- and host's state.
abbrev pub IsOutcome : {H : Type 0} → Outcome H → Plain → Scopes → H → List Reply → Type 0
IsOutcome (Ends end st) (Done c used) vars host answers =
    (end ≡ code_of c) × (st.vars ≡ vars) × (st.host ≡ host) × (used ≤ length answers)
    × (st.replies ≡ drop used answers)
IsOutcome (Ends end st) (WaitsFor call) vars host answers = ⊥
IsOutcome (Waits path asked st) (Done c used) vars host answers = ⊥
IsOutcome (Waits path asked st) (WaitsFor call) vars host answers =
    (asked ≡ call) × (st.vars ≡ vars) × (st.host ≡ host)

-- the setting with these static variables, where they are only read, this table and these
-- procedures
abbrev pub setting : {H : Type 0} → Option Level → (H → List (List ℕ) → HostStep H)
    → List Procedure → Setting H
setting statics table procedures =
    record { statics = statics; table = table; procedures = procedures }

-- the end that the caller is told: a code with this many replies taken, or the call that waits
abbrev pub IsTold : End → ℕ → Result Plain Memory → Type 0
IsTold (end.Done c) used (Ok (Done code n)) = (c ≡ code_of code) × (n ≡ used)
IsTold (end.Waits asked) used (Ok (WaitsFor call)) = asked ≡ call
IsTold end.Memory used (Err m) = Unit {0}
IsTold end used other = ⊥
