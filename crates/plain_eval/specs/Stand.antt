-- Where the plain evaluator stands, and what a meaning comes to from there: the cost and what was
-- done aren't told.
use Rattle.std.specs.Prelude.{◌≡◌, ℕ, List, Bool, Result, Ok, Err, option_map}
use Rattle.px_bytes.specs.declared.fault.Reply.{Reply}
use Rattle.tcl_trees.specs.Procedures.{procs_view}
use Rattle.tcl_vars.specs.Scopes.{Scopes}
use Rattle.rule_model.specs.Evaluator.{inner}
use Rattle.rule_model.specs.Host.{HostStep}
use Rattle.rule_model.specs.Outcome.{Act, State, state, Outcome, Ends, Waits, Meaning, heard_code}
use Rattle.rule_model.specs.Setting.{Setting, Inner}
use Rattle.plain_eval.specs.Plain.{setting}
use Rattle.plain_eval.specs.declared.context.Context.{Context}
use Rattle.plain_eval.specs.declared.run.End.{End}
use Rattle.plain_eval.specs.declared.run.End.TheVariants as end
use Rattle.plain_eval.specs.declared.run.Halted.{Halted}
use Rattle.plain_eval.specs.declared.run.Run.{Run}

-- the variables, the host's state, the replies left and the budget left
pub record Stand (H : Type 0) : Type 0 where
  pub vars : Scopes
  pub host : H
  pub replies : List Reply
  pub budget : ℕ

abbrev pub stand : {H : Type 0} → Run → H → Stand H
stand run host =
    record { vars = run.vars; host = host; replies = run.left.now; budget = run.budget }

-- the evaluator's state there
abbrev pub from : {H : Type 0} → Stand H → ℕ → List Act → State H
from s cost acts = state s.vars s.host s.replies s.budget cost acts

abbrev pub IsAt : {H : Type 0} → State H → Stand H → Type 0
IsAt st s = st ≡ from s st.cost st.acts

-- The outcome has this end there. Where its value isn't wanted, any may stand for it.
abbrev pub EndsAs : {H : Type 0} → Bool → Outcome H → End → Stand H → Type 0
EndsAs w o end.Memory s = Unit {0}
EndsAs w (Ends c st) (end.Done d) s = (heard_code w c ≡ heard_code w d) × IsAt st s
EndsAs w (Waits path call st) (end.Done d) s = ⊥
EndsAs w (Ends c st) (end.Waits asked) s = ⊥
EndsAs w (Waits path call st) (end.Waits asked) s = (asked ≡ call) × IsAt st s

-- what a meaning comes to, whatever the path, the cost and what was done before
pub record Ran {H : Type 0} (w : Bool) (m : Meaning H) (before : Stand H) (end : End)
    (after : Stand H) : Type 0 where
  pub by : (path : List ℕ) (cost : ℕ) (acts : List Act)
      → EndsAs w (m path (from before cost acts)) end after

-- what the rest comes to from where it stands, the whole comes to
pub record GoesOn {H : Type 0} (w : Bool) (whole : Meaning H) (before : Stand H) (rest : Meaning H)
    (mid : Stand H) : Type 0 where
  pub closes : (end : End) (last : Stand H) → Ran w rest mid end last → Ran w whole before end last

-- with a result, the whole goes on as what is done with it; without one, it ends so
abbrev pub Went : {H A : Type 0} → Bool → (whole : Meaning H) → Stand H → Result A Halted → End
    → (A → Meaning H) → Stand H → Type 0
Went w whole before (Ok a) end go mid = GoesOn w whole before (go a) mid
Went w whole before (Err h) end go mid = Ran w whole before end mid

-- what has a result, whatever is done with it
pub record Gave {H A : Type 0} (m : (A → Meaning H) → Meaning H) (before : Stand H)
    (r : Result A Halted) (end : End) (mid : Stand H) : Type 0 where
  pub went : (w : Bool) (go : A → Meaning H) → Went w (m go) before r end go mid

-- the setting that a context gives
abbrev pub setting_of : {E H : Type 0} → (E → H → List (List ℕ) → HostStep H) → Context E
    → Setting H
setting_of table context = setting (option_map (λ v. v.now.statics) context.statics)
    (table context.env.now) (procs_view context.procs.now)

-- what it lets nest
abbrev pub inner_of : {E H : Type 0} → (E → H → List (List ℕ) → HostStep H) → Context E → Inner H
inner_of table context =
    inner (setting_of table context) context.room.expressions context.room.calls
